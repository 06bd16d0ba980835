-- METHOD. Words written one after another.
--
-- arrow_words A L x p   the words of the row from state x to step p; none where there is no arc
-- from_words A L m x    the words of the rows from state x
-- row_words A L m       the words of all rows
-- Wrote at ws old new to   the words ws were written from `at` on, and `to` is the place after them
use Rattle.std.specs.Prelude.{◌≡◌, refl, List, [], ◌∷◌, ◌++◌, ℕ, zero, suc, ◌+◌, ◌≤◌, ◌<◌, length, set}
use Rattle.std.proofs.Common.{ap, ◌∙◌, arith, length-append}
use Rattle.std.proofs.Math.Decide.{ℕ_discrete}
use Rattle.std.proofs.lemmas.List.Edits.{sets}
use Rattle.std.proofs.Math.Seq.{length-sets}
use Rattle.marks.specs.Labels.{Label}
use Rattle.table.specs.declared.Row.{Row}
use Rattle.layout.specs.Gather.{gather, gather_same}
use Rattle.layout.specs.Words.{arrow, rows_for, rows_of, spread, spread_append}

abbrev pub arrow_words : (ℕ → ℕ → ℕ) → (ℕ → Label) → ℕ → ℕ → List ℕ
arrow_words A L x p = spread (arrow A L x p)

abbrev pub from_words : (ℕ → ℕ → ℕ) → (ℕ → Label) → ℕ → ℕ → List ℕ
from_words A L m x = gather (arrow_words A L x) m

abbrev pub row_words : (ℕ → ℕ → ℕ) → (ℕ → Label) → ℕ → List ℕ
row_words A L m = gather (from_words A L m) (suc m)

pub record Wrote (at : ℕ) (ws old new : List ℕ) (to : ℕ) : Type 0 where
  pub next : to ≡ at + length ws
  pub is : new ≡ sets old at ws

sets_append : (l us vs : List ℕ) (i j : ℕ) → j ≡ i + length us → sets (sets l i us) j vs ≡ sets l i (us ++ vs)
sets_append l [] vs i j e = ap (λ (k : ℕ). sets l k vs) (omega arith)
sets_append l (u ∷ us) vs i j e = sets_append (set l i u) us vs (suc i) j (omega arith)

pub wrote_none : (at : ℕ) (old : List ℕ) → Wrote at [] old old at
wrote_none at old = record { next = omega arith; is = refl }

pub wrote_more : {at to end : ℕ} {us vs old mid new : List ℕ} → Wrote at us old mid to → Wrote to vs mid new end → Wrote at (us ++ vs) old new end
wrote_more {at} {to} {end} {us} {vs} {old} p q =
    record { next = omega (arith, p.next, q.next, length-append us vs); is = q.is ∙ ap (λ (l : List ℕ). sets l to vs) p.is ∙ sets_append old us vs at to p.next }

pub wrote_length : {at to : ℕ} {ws old new : List ℕ} → Wrote at ws old new to → length new ≡ length old
wrote_length {at} {to} {ws} {old} p = ap length p.is ∙ length-sets old at ws

-- what is gathered up to i is no more than up to a later n
pub gather_within : (W : ℕ → List ℕ) (i n : ℕ) → i < n → length (gather W i) + length (W i) ≤ length (gather W n)
unfolding gather
gather_within W i zero h = absurd (omega arith)
gather_within W i (suc n) h = go (ℕ_discrete i n) (gather_within W i n)
  where
    go : Dec (i ≡ n) → (i < n → length (gather W i) + length (W i) ≤ length (gather W n)) → length (gather W i) + length (W i) ≤ length (gather W n ++ W n)
    go (yes e) k = rw e (omega (arith, length-append (gather W n) (W n)))
    go (no e) k = omega (arith, k (omega arith), length-append (gather W n) (W n))

-- the words of what is gathered
spread_gather : (f : ℕ → List Row) (n : ℕ) → spread (gather f n) ≡ gather (λ i. spread (f i)) n
unfolding gather spread
spread_gather f zero = refl
spread_gather f (suc n) = spread_append (gather f n) (f n) ∙ ap (λ (l : List ℕ). l ++ spread (f n)) (spread_gather f n)

pub rows_words : (A : ℕ → ℕ → ℕ) (L : ℕ → Label) (m : ℕ) → spread (rows_of A L m) ≡ row_words A L m
rows_words A L m = spread_gather (rows_for A L m) (suc m) ∙ gather_same _ _ (suc m) (λ x h. spread_gather (arrow A L x) m)
