-- How large a room every table fits: 4,995 words, for 32 states and 992 rows.
--
-- room            that many words
-- room_enough     a table of at most 31 steps has no more
use Rattle.std.specs.Prelude.{◌≡◌, List, ℕ, suc, ◌+◌, ◌*◌, ◌≤◌, length}
use Rattle.std.proofs.Common.{ap, arith, mul-le-mul_right}
use Rattle.pattern.specs.Grammar.{Pat, Pattern, steps_of}
use Rattle.pattern.specs.Derivations.{labels_of, nth_label}
use Rattle.arcs.specs.Exact.{arc_of}
use Rattle.layout.specs.Layout.{TableOf}
use Rattle.layout.specs.Words.{table_words, rows_of, words_of_length, few_rows}
use Rattle.layout.specs.Exact.{exact, table_one}
use Rattle.compiler.specs.Answers.{most_text, most_steps}

abbrev pub room : ℕ
room = 4995

few : (m r : ℕ) → m ≤ 31 → r ≤ m * suc m → 3 + suc m + 5 * r ≤ room
few m r h k = omega (arith, mul-le-mul_right (suc m) h)

pub words_few : (K : ℕ) (a : Pat) → steps_of a ≤ most_steps → length (table_words K a) ≤ room
words_few K a m =
    omega
    (arith, words_of_length (arc_of a) (nth_label (labels_of a)) K (steps_of a), few (steps_of a) (length (rows_of (arc_of a) (nth_label (labels_of a)) (steps_of a))) m (few_rows (arc_of a) (nth_label (labels_of a)) (steps_of a)))

pub room_enough : {K : ℕ} {s : List ℕ} {a : Pat} {ws : List ℕ} → Pattern K s a → length s ≤ most_text → steps_of a ≤ most_steps → TableOf K a ws → length ws ≤ room
room_enough {K} {a = a} {ws = ws} p h m t = let e : ws ≡ table_words K a = table_one t (exact p h) in omega (arith, ap length e, words_few K a m)
