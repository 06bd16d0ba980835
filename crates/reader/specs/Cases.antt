-- The cases of reading, one for each number and one for each answer: what the code has seen makes the answer right.
--
-- Refuses         what `readable` answers: 7, 8 or the table
-- open_ranges, pinned_ranges   the ranges that the two questions are asked with
use Rattle.std.specs.Prelude.{◌≡◌, refl, Bool, true, ◌&&◌, List, [], ◌∷◌, ℕ, zero, suc, ◌+◌, ◌*◌, ◌≤◌, ◌<◌, eqb, leb, length, Result, Ok, Err}
use Rattle.std.proofs.Common.{sym, arith}
use Rattle.refusal.specs.declared.Refusal.{Refusal}
use Rattle.refusal.specs.declared.Refusal.TheVariants.{WrongTable, LongLine}
use Rattle.refusal.specs.Numbers.{number_of, place_of}
use Rattle.weight.specs.Weight.{mark}
use Rattle.spans.specs.declared.Spans.{Spans}
use Rattle.spans.specs.Spans.{SetOfSpans, digits}
use Rattle.table.specs.declared.right.Table.{Table}
use Rattle.table.specs.Table.{RightTable, automaton_of, most_bytes}
use Rattle.togo.specs.Price.{base, allowed, answer}
use Rattle.togo.specs.Sets.{Pinned}
use Rattle.best.specs.Decode.{spans_of_key}
use Rattle.best.specs.Questions.{Open, set_answer, best_answer, none_answer}
use Rattle.reader.specs.Answers.{reading, no_reading, refusal, Fails, table, long, FailsSet, reading_it, no_set, BestAnswer, not_read, best, no_run, SetAnswer, not_weighed, weight, weighed}
use Rattle.spans.specs.Spans.{none}

-- the lowest of 7 and 8 that could be given, or the table of these words
pub data Refuses (ws line : List ℕ) : Result Table Refusal → Type 0 where
  by : {r : Refusal} → Fails ws line (number_of r) → ((m : ℕ) → m < number_of r → Fails ws line m → ⊥) → place_of r ≡ 0 → Refuses ws line (Err r)
  fits : {t : Table} → t.words.now ≡ ws → length line ≤ most_bytes → Refuses ws line (Ok t)

-- no refusal says that the table is right and the line short enough
pub record Readable (ws line : List ℕ) : Type 0 where
  pub right : RightTable ws
  pub short : length line ≤ most_bytes

module _ {ws line : List ℕ} where
  pub seven : (RightTable ws → ⊥) → Refuses ws line (Err WrongTable)
  seven f = by (table f) low refl
    where
      low : (m : ℕ) → m < 7 → Fails ws line m → ⊥
      low m h (table f) = omega arith
      low m h (long g) = omega arith

  pub eight : RightTable ws → most_bytes < length line → Refuses ws line (Err LongLine)
  eight r h = by (long h) low refl
    where
      low : (m : ℕ) → m < 8 → Fails ws line m → ⊥
      low m h (table f) = f r
      low m h (long g) = omega arith

  fit : RightTable ws → length line ≤ most_bytes → (m : ℕ) → Fails ws line m → ⊥
  fit r l m (table f) = f r
  fit r l m (long g) = omega arith

  -- a refusal is the answer
  pub not_read_so : {r : Refusal} → Refuses ws line (Err r) → BestAnswer ws line (refusal (number_of r) (place_of r))
  not_read_so (by f low e) = rw e (not_read f low)

  at_most : {n : ℕ} → Fails ws line n → n ≤ 8
  at_most (table f) = omega arith
  at_most (long g) = omega arith

  pub not_weighed_so : {t : Spans} {r : Refusal} → Refuses ws line (Err r) → SetAnswer ws line t (weighed (Err r))
  not_weighed_so {t} (by {r = r} f low e) = rw e (not_weighed (reading_it f) lows)
    where
      lows : (m : ℕ) → m < number_of r → FailsSet ws line t m → ⊥
      lows m k (reading_it g) = low m k g
      lows m k (no_set g) = omega (arith, at_most f)

  pub readable : {t : Table} → Refuses ws line (Ok t) → Readable ws line
  readable (fits {t} e l) = record { right = rw (← e) t.right; short = l }

  pub vars_of : {t : Table} {k : ℕ} → Refuses ws line (Ok t) → k ≡ (automaton_of t.words.now).vars → k ≡ (automaton_of ws).vars
  vars_of (fits e l) v = rw e at v

  pub not_a_set : {t : Spans} → RightTable ws → length line ≤ most_bytes → (SetOfSpans (automaton_of ws).vars (length line) t → ⊥) → SetAnswer ws line t (refusal 9 0)
  not_a_set {t} r l f = not_weighed (no_set f) low
    where
      low : (m : ℕ) → m < 9 → FailsSet ws line t m → ⊥
      low m h (reading_it g) = fit r l m g
      low m h (no_set g) = omega arith

-- one range that is a position
pin : (x p : ℕ) → (leb x p && leb p x) ≡ eqb x p
pin x p = grind arith

pub pinned_ranges : (t : Spans) → Pinned t (allowed (digits t) (digits t))
pinned_ranges t zero p h = pin t.s1 p
pinned_ranges t (suc zero) p h = pin t.e1 p
pinned_ranges t (suc (suc zero)) p h = pin t.s2 p
pinned_ranges t (suc (suc (suc zero))) p h = pin t.e2 p
pinned_ranges t (suc (suc (suc (suc zero)))) p h = pin t.s3 p
pinned_ranges t (suc (suc (suc (suc (suc zero))))) p h = pin t.e3 p
pinned_ranges t (suc (suc (suc (suc (suc (suc m)))))) p h = absurd (omega arith)

-- and one that is any
open_one : (p : ℕ) → p ≤ 1025 → (leb 0 p && leb p 1025) ≡ true
open_one p l = grind arith

pub open_ranges : Open (allowed (0 ∷ 0 ∷ 0 ∷ 0 ∷ 0 ∷ 0 ∷ []) (1025 ∷ 1025 ∷ 1025 ∷ 1025 ∷ 1025 ∷ 1025 ∷ []))
open_ranges zero p h l = open_one p l
open_ranges (suc zero) p h l = open_one p l
open_ranges (suc (suc zero)) p h l = open_one p l
open_ranges (suc (suc (suc zero))) p h l = open_one p l
open_ranges (suc (suc (suc (suc zero)))) p h l = open_one p l
open_ranges (suc (suc (suc (suc (suc zero))))) p h l = open_one p l
open_ranges (suc (suc (suc (suc (suc (suc m)))))) p h l = absurd (omega arith)

-- what the sweep gives, read as an answer
module _ {ws line : List ℕ} (r : RightTable ws) (l : length line ≤ most_bytes) (w k : ℕ) (small : k < base) where
  pub set_read : (t : Spans) → SetOfSpans (automaton_of ws).vars (length line) t → (allow : ℕ → ℕ → Bool) → Pinned t allow → w * base + k ≡ answer allow (automaton_of ws) line → SetAnswer ws line t (reading w none)
  set_read t s allow pins e = rw (← set_answer ws r line l t s allow pins w k small (sym e)) (weight no)
    where
      no : (m : ℕ) → FailsSet ws line t m → ⊥
      no m (reading_it g) = fit r l m g
      no m (no_set g) = g s

  pub best_read : (allow : ℕ → ℕ → Bool) → Open allow → w * base + k ≡ answer allow (automaton_of ws) line → w < mark → BestAnswer ws line (reading w (spans_of_key k))
  best_read allow every e h = best (fit r l) (best_answer ws r line l allow every w k small (sym e) h)

  pub none_read : (allow : ℕ → ℕ → Bool) → Open allow → w * base + k ≡ answer allow (automaton_of ws) line → mark ≤ w → BestAnswer ws line no_reading
  none_read allow every e h = no_run (fit r l) (none_answer ws r line l allow every w k (sym e) h)
