-- The meaning is not empty: two tables of 01's examples keep the rules, and weights of sets on lines, computed from the definition.
--
-- loop            the words of `(a#002)*#005`
-- span            the words of `{1:a*}`, with one variable
use Rattle.std.specs.Prelude.{◌≡◌, refl, List, [], ◌∷◌, ℕ, zero, suc, ◌+◌, ◌*◌, ◌<◌, get_or}
use Rattle.std.proofs.Common.{inl, inr, arith}
use Rattle.basics.specs.Lists.{from, conses, lists, pairs}
use Rattle.weight.specs.Weight.{mark, lighter_to, joint_to}
use Rattle.weight.specs.Semiring.{sum}
use Rattle.spans.specs.declared.Spans.{Spans}
use Rattle.spans.specs.Spans.{none}
use Rattle.marks.specs.Labels.{RightLabel, byte, opens, closes, reads, spells, kinds_of, valid, place_of, marked}
use Rattle.table.specs.Table.{RightEnd, RightRow, RightTable, row_of_words, rows_from, automaton_of}
use Rattle.runs.specs.Runs.{nth_row, chain, weight_of, valid_run, runs, set_weight, weight_of_set}
use Rattle.runs.specs.Marking.{Marking}
use Rattle.runs.specs.Least.{weight_least}

abbrev pub loop : List ℕ
loop = 2 ∷ 0 ∷ 2 ∷ 5 ∷ 7 ∷ 0 ∷ 1 ∷ 0 ∷ 24929 ∷ 0 ∷ 1 ∷ 1 ∷ 0 ∷ 24929 ∷ 2 ∷ []

abbrev pub span : List ℕ
span = 4 ∷ 1 ∷ 5 ∷ mark ∷ mark ∷ mark ∷ 0 ∷ 0 ∷ 1 ∷ 1 ∷ 1 ∷ 0 ∷ 1 ∷ 2 ∷ 0 ∷ 24929 ∷ 0 ∷ 1 ∷ 3 ∷ 2 ∷ 1 ∷ 0 ∷ 2 ∷ 2 ∷ 0 ∷ 24929 ∷ 0 ∷ 2 ∷ 3 ∷ 2 ∷ 1 ∷ 0 ∷ []

abbrev pub spanned : ℕ → ℕ → Spans
spanned s e = record { s1 = s; e1 = e; s2 = 0; e2 = 0; s3 = 0; e3 = 0 }

reads_a : {K : ℕ} → RightLabel K 0 24929
reads_a = byte {arg = 24929} (omega arith) (omega arith)

pub loop_right : RightTable loop
loop_right =
    record { header = omega arith; some_state = omega arith; states = omega arith; vars = omega arith; rows = omega arith; long = omega arith; ends = ends; right = right }
  where
    ends : (q : ℕ) → q < 2 → RightEnd (get_or loop (3 + q) 0)
    ends zero h = inl (omega arith)
    ends (suc zero) h = inl (omega arith)
    ends (suc (suc q)) h = absurd (omega arith)

    right : (i : ℕ) → i < 2 → RightRow 2 0 (row_of_words loop (3 + 2 + 5 * i))
    right zero h = record { leaves = omega arith; leads = omega arith; label = reads_a; light = omega arith }
    right (suc zero) h = record { leaves = omega arith; leads = omega arith; label = reads_a; light = omega arith }
    right (suc (suc i)) h = absurd (omega arith)

pub span_right : RightTable span
span_right =
    record { header = omega arith; some_state = omega arith; states = omega arith; vars = omega arith; rows = omega arith; long = omega arith; ends = ends; right = right }
  where
    ends : (q : ℕ) → q < 4 → RightEnd (get_or span (3 + q) 0)
    ends zero h = inr refl
    ends (suc zero) h = inr refl
    ends (suc (suc zero)) h = inr refl
    ends (suc (suc (suc zero))) h = inl (omega arith)
    ends (suc (suc (suc (suc q)))) h = absurd (omega arith)

    right : (i : ℕ) → i < 5 → RightRow 4 1 (row_of_words span (3 + 4 + 5 * i))
    right zero h = record { leaves = omega arith; leads = omega arith; label = opens {arg = 1} (omega arith) (omega arith); light = omega arith }
    right (suc zero) h = record { leaves = omega arith; leads = omega arith; label = reads_a; light = omega arith }
    right (suc (suc zero)) h = record { leaves = omega arith; leads = omega arith; label = closes {arg = 1} (omega arith) (omega arith); light = omega arith }
    right (suc (suc (suc zero))) h = record { leaves = omega arith; leads = omega arith; label = reads_a; light = omega arith }
    right (suc (suc (suc (suc zero)))) h = record { leaves = omega arith; leads = omega arith; label = closes {arg = 1} (omega arith) (omega arith); light = omega arith }
    right (suc (suc (suc (suc (suc i))))) h = absurd (omega arith)

pub loop_empty : weight_of_set (automaton_of loop) [] none ≡ 5
unfolding automaton_of rows_from set_weight sum runs pairs lists conses from valid_run spells valid reads weight_of chain nth_row marked place_of lighter_to joint_to
loop_empty = refl

pub loop_two : weight_of_set (automaton_of loop) (97 ∷ 97 ∷ []) none ≡ 9
unfolding automaton_of rows_from set_weight sum runs pairs lists conses from valid_run spells valid reads weight_of chain nth_row marked place_of lighter_to joint_to
loop_two = refl

-- there is a run behind that weight
pub loop_run : Marking (automaton_of loop) (97 ∷ 97 ∷ []) none 9
loop_run = rw loop_two at ((weight_least loop loop_right (97 ∷ 97 ∷ []) none).attained (rw loop_two (omega arith)))

pub span_empty : weight_of_set (automaton_of span) [] (spanned 1 1) ≡ 0
unfolding automaton_of rows_from set_weight sum runs pairs lists conses from valid_run spells valid kinds_of reads weight_of chain nth_row marked place_of lighter_to joint_to
span_empty = refl

pub span_two : weight_of_set (automaton_of span) (97 ∷ 97 ∷ []) (spanned 1 3) ≡ 0
unfolding automaton_of rows_from set_weight sum runs pairs lists conses from valid_run spells valid kinds_of reads weight_of chain nth_row marked place_of lighter_to joint_to
span_two = refl

-- no run marks another set
pub span_other : weight_of_set (automaton_of span) (97 ∷ []) (spanned 1 1) ≡ mark
unfolding automaton_of rows_from set_weight sum runs pairs lists conses from valid_run spells valid kinds_of reads weight_of chain nth_row marked place_of lighter_to joint_to
span_other = refl
