-- The three demands, as theorems. Each is a line or two from the crates below; the definitions that they cite are all MEANING.
--
-- DEMAND 1, every input gets the printed answer or a numbered refusal, and a refusal changes no lent word. That an answer is given at
-- all is what the contracts of compile, compile_card, best_reading, weight_of_set and read_card say, which ask nothing of their input.
--   refused_kept, refused_card_kept   a refused call leaves the room as it was
--   rest_kept                         an unrefused one leaves the words after the table
--   compile_numbers, read_numbers, set_numbers   no other number is given
-- DEMAND 2, the weight of a set and the best reading.
--   weight_is      the weight of a set is the least total over all valid runs that mark it, or the mark where there is none
--   reading_is     a reading is answered exactly when it is the best
--   none_is        no reading is answered exactly when no valid run exists
-- DEMAND 3, the card and its table.
--   compiled_when, compiled_only   a text is compiled exactly when its form and limits are right and its table fits
--   text_is        the table then gives, for every line and set, the weight that the text gives
--   mark_is        and the mark exactly where the text has no derivation
use Rattle.std.specs.Prelude.{◌≡◌, refl, ◌⊎◌, ◌↔◌, List, ℕ, ◌≤◌, ◌<◌, length, drop}
use Rattle.std.proofs.Common.{ap, ◌∙◌, subst, inl, inr, arith}
use Rattle.std.proofs.Math.Decide.{dec_le}
use Rattle.std.proofs.Math.Seq.{drop-append_seam}
use Rattle.weight.specs.Weight.{mark, Least}
use Rattle.weight.specs.Least.{least_one}
use Rattle.spans.specs.declared.Spans.{Spans}
use Rattle.table.specs.Table.{RightTable, automaton_of, most_vars, most_bytes}
use Rattle.runs.specs.Runs.{weight_of_set}
use Rattle.runs.specs.Marking.{Marking}
use Rattle.runs.specs.Least.{weight_least}
use Rattle.best.specs.Best.{IsBest, IsNone, HasRun}
use Rattle.best.specs.Questions.{none_runs, runs_none}
use Rattle.pattern.specs.Grammar.{Pat, Pattern, steps_of, nesting_of}
use Rattle.pattern.specs.Derivations.{WeightOfText}
use Rattle.pattern.specs.One.{text_weight_one}
use Rattle.pattern.specs.Laws.{tree_one}
use Rattle.layout.specs.Layout.{TableOf}
use Rattle.layout.specs.Words.{table_words}
use Rattle.layout.specs.Exact.{exact, table_one}
use Rattle.layout.specs.Demand.{table_text}
use Rattle.compiler.specs.Answers.{most_text, most_nesting, most_steps, written, Compiles, CompilesCard, Fails}
use Rattle.compiler.specs.Answers as made
use Rattle.compiler.specs.One.{one_to_six}
use Rattle.reader.specs.Answers.{Printed, reading, no_reading, refusal, BestAnswer, SetAnswer}
use Rattle.reader.specs.Answers as answers
use Rattle.promises.specs.Compose.{few_vars_of, short_of, few_steps_of}

-- DEMAND 1
pub refused_kept : {K : ℕ} {text room exit : List ℕ} {a : made.Printed} → Compiles K text room exit a → 0 < a.number → exit ≡ room
refused_kept (made.refused f low e) h = e
refused_kept (made.table sound p t e) h = absurd (omega arith)

pub refused_card_kept : {text room exit : List ℕ} {a : made.Printed} → CompilesCard text room exit a → 0 < a.number → exit ≡ room
refused_card_kept (made.wrong_one f e) h = e
refused_card_kept (made.wrong_two r o f e) h = e
refused_card_kept (made.right c m) h = refused_kept m h

pub rest_kept : {K : ℕ} {text room exit : List ℕ} {n : ℕ} {a : made.Printed} → Compiles K text room exit a → a ≡ written n → drop n exit ≡ drop n room
rest_kept {n = n} (made.refused f low e) i = ap (drop n) e
rest_kept {room = room} {n = n} (made.table {ws = ws} sound p t e) i =
    let j : length ws ≡ n = ap (λ (x : made.Printed). x.words) i in
    rw (← j) (ap (drop (length ws)) e ∙ drop-append_seam ws (drop (length ws) room))

pub compile_numbers : {K : ℕ} {text room exit : List ℕ} {a : made.Printed} → Compiles K text room exit a → a.number ≤ 6
compile_numbers (made.refused f low e) = (one_to_six f).1
compile_numbers (made.table sound p t e) = omega arith

pub read_numbers : {ws line : List ℕ} {a : Printed} → BestAnswer ws line a → (a.number ≡ 0) ⊎ ((a ≡ refusal 7 0) ⊎ (a ≡ refusal 8 0))
read_numbers (answers.not_read (answers.table f) low) = inr (inl refl)
read_numbers (answers.not_read (answers.long h) low) = inr (inr refl)
read_numbers (answers.best f b) = inl refl
read_numbers (answers.no_run f b) = inl refl

pub set_numbers : {ws line : List ℕ} {t : Spans} {a : Printed} → SetAnswer ws line t a → (a.number ≡ 0) ⊎ ((a ≡ refusal 7 0) ⊎ ((a ≡ refusal 8 0) ⊎ (a ≡ refusal 9 0)))
set_numbers (answers.not_weighed (answers.reading_it (answers.table f)) low) = inr (inl refl)
set_numbers (answers.not_weighed (answers.reading_it (answers.long h)) low) = inr (inr (inl refl))
set_numbers (answers.not_weighed (answers.no_set h) low) = inr (inr (inr refl))
set_numbers (answers.weight f) = inl refl

-- DEMAND 2
pub weight_is : (ws : List ℕ) → RightTable ws → (line : List ℕ) (t : Spans) (w : ℕ) → weight_of_set (automaton_of ws) line t ≡ w ↔ Least (Marking (automaton_of ws) line t) w
weight_is ws r line t w = ((λ e. rw e at (weight_least ws r line t)), (λ l. least_one (Marking (automaton_of ws) line t) (weight_of_set (automaton_of ws) line t) w (weight_least ws r line t) l))

-- nothing is refused: the table is right and the line short enough
module _ (ws line : List ℕ) (r : RightTable ws) (l : length line ≤ most_bytes) where
  fit : (m : ℕ) → answers.Fails ws line m → ⊥
  fit m (answers.table f) = f r
  fit m (answers.long g) = omega arith

  pub reading_is : (w : ℕ) (t : Spans) → BestAnswer ws line (reading w t) ↔ IsBest (automaton_of ws) line w t
  reading_is w t = ((λ b. back b refl), (λ b. answers.best fit b))
    where
      back : {p : Printed} → BestAnswer ws line p → p ≡ reading w t → IsBest (automaton_of ws) line w t
      back (answers.not_read f low) e = absurd (fit _ f)
      back (answers.best f b) e = rw (← ap (λ (x : Printed). x.weight) e, ← ap (λ (x : Printed). x.spans) e) b
      back (answers.no_run f b) e = absurd (other e)
        where
          other : no_reading ≡ reading w t → ⊥
          other e = let z : ◌≡◌ {A = ℕ} 0 1 = ap number e in omega arith
            where
              number : Printed → ℕ
              number p = named p.name
                where
                  named : answers.Name → ℕ
                  named answers.found = 1
                  named answers.none_found = 0
                  named answers.refused = 2

  pub none_is : BestAnswer ws line no_reading ↔ (HasRun (automaton_of ws) line → ⊥)
  none_is = ((λ b. none_runs ws r line (back b refl)), (λ f. answers.no_run fit (runs_none ws r line f)))
    where
      back : {p : Printed} → BestAnswer ws line p → p ≡ no_reading → IsNone (automaton_of ws) line
      back (answers.not_read f low) e = absurd (fit _ f)
      back (answers.best f b) e = absurd (omega (arith, b.real, ap (λ (x : Printed). x.weight) e))
      back (answers.no_run f b) e = b

-- DEMAND 3
-- the form of a text is right, it is within the limits, and its table fits the room
pub record Fits (K : ℕ) (text room : List ℕ) : Type 0 where
  pub few_vars : K ≤ most_vars
  pub short : length text ≤ most_text
  pub tree : Pat
  pub parsed : Pattern K text tree
  pub shallow : nesting_of tree ≤ most_nesting
  pub few_steps : steps_of tree ≤ most_steps
  pub words : List ℕ
  pub exactly : TableOf K tree words
  pub enough : length words ≤ length room

pub compiled_when : {K : ℕ} {text room exit : List ℕ} {a : made.Printed} → Compiles K text room exit a → Fits K text room → a.number ≡ 0
compiled_when {K} {text} {room} (made.refused f low e) g = absurd (sound f)
  where
    sound : {n p : ℕ} → Fails K text room n p → ⊥
    sound (made.by_text (made.vars h)) = omega (arith, g.few_vars)
    sound (made.by_text (made.long h)) = omega (arith, g.short)
    sound (made.by_text (made.grammar h)) = h.outside g.tree g.parsed
    sound (made.by_text (made.nesting q h)) = omega (arith, g.shallow, ap nesting_of (tree_one q g.parsed))
    sound (made.by_text (made.steps q h)) = omega (arith, g.few_steps, ap steps_of (tree_one q g.parsed))
    sound (made.small {ws = ws} q t h) = omega (arith, g.enough, ap length (table_one (subst (λ (x : Pat). TableOf K x ws) (tree_one q g.parsed) t) g.exactly))
compiled_when (made.table sound p t e) g = refl

pub compiled_only : {K : ℕ} {text room exit : List ℕ} {a : made.Printed} → Compiles K text room exit a → a.number ≡ 0 → Fits K text room
compiled_only (made.refused f low e) h = absurd (omega (arith, (one_to_six f).0))
compiled_only {K} {text} {room} (made.table {a = a} {ws = ws} sound p t e) h =
    record {
      few_vars = few_vars_of sound (dec_le K most_vars);
      short = short_of sound (dec_le (length text) most_text);
      tree = a;
      parsed = p;
      shallow = flat (dec_le (nesting_of a) most_nesting);
      few_steps = few_steps_of sound p (dec_le (steps_of a) most_steps);
      words = ws;
      exactly = t;
      enough = wide (dec_le (length ws) (length room));
    }
  where
    flat : Dec (nesting_of a ≤ most_nesting) → nesting_of a ≤ most_nesting
    flat (yes h) = h
    flat (no h) = absurd (sound 4 0 (made.by_text (made.nesting p (omega arith))))

    wide : Dec (length ws ≤ length room) → length ws ≤ length room
    wide (yes h) = h
    wide (no h) = absurd (sound 6 (length ws) (made.small p t (omega arith)))

pub text_is : {K : ℕ} {text room exit : List ℕ} {a : made.Printed} → Compiles K text room exit a → a.number ≡ 0 → (line : List ℕ) (t : Spans)
    → WeightOfText K text line t (weight_of_set (automaton_of exit) line t)
text_is (made.refused f low e) h line t = absurd (omega (arith, (one_to_six f).0))
text_is {K} {text} {room} (made.table {a = a} {ws = ws} sound p t e) h line s =
    rw (e, table_one t (exact p (short_of sound (dec_le (length text) most_text))))
    (table_text p (short_of sound (dec_le (length text) most_text)) (few_steps_of sound p (dec_le (steps_of a) most_steps)) (few_vars_of sound (dec_le K most_vars)) (drop (length (table_words K a)) room) line s)

-- the mark on one side exactly where it is on the other
pub mark_is : {K : ℕ} {text room exit : List ℕ} {a : made.Printed} → Compiles K text room exit a → a.number ≡ 0 → (line : List ℕ) (t : Spans)
    → weight_of_set (automaton_of exit) line t ≡ mark ↔ WeightOfText K text line t mark
mark_is c h line t = ((λ e. rw e at (text_is c h line t)), (λ w. text_weight_one (text_is c h line t) w))
