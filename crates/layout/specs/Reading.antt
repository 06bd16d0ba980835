-- What the table of a text says of a line is what the text says of it: the best reading by the table is the best reading by the text.
--
-- is_right        a compiled table keeps every rule of a table
-- best_text       its best reading is the text's
-- none_text       where it has none, the text has none
use Rattle.std.specs.Prelude.{◌≡◌, ℕ, ◌≤◌, length}
use Rattle.std.proofs.Math.Path.{refl}
use Rattle.std.proofs.Common.{sym, arith}
use mathlib.Core.List.{List, ◌++◌}
use Rattle.std.proofs.Math.ListN.{get_or}
use Rattle.spans.specs.declared.Spans.{Spans}
use Rattle.spans.specs.Spans.{SetOfSpans}
use Rattle.table.specs.Table.{RightTable, automaton_of, most_vars}
use Rattle.runs.specs.Runs.{weight_of_set}
use Rattle.best.specs.Best.{IsBest, IsNone}
use Rattle.pattern.specs.Grammar.{Pat, Pattern, steps_of}
use Rattle.pattern.specs.Derivations.{WeightOfText}
use Rattle.pattern.specs.Best.{TextBest, TextNone}
use Rattle.pattern.specs.One.{text_weight_one}
use Rattle.layout.specs.Words.{table_words, words_of}
use Rattle.layout.specs.Right.{right}
use Rattle.layout.specs.Demand.{table_text}

-- what the table of a text says of a line is what the text says of it
module _ {K : ℕ} {s : List ℕ} {a : Pat} (p : Pattern K s a) (short : length s ≤ 255) (few_steps : steps_of a ≤ 31) (few_vars : K ≤ most_vars) (ws line : List ℕ)
    (is : (rest : List ℕ) × (ws ≡ table_words K a ++ rest)) where
  text_weight : (t : Spans) → WeightOfText K s line t (weight_of_set (automaton_of ws) line t)
  text_weight t = rw is.1 (table_text p short few_steps few_vars is.0 line t)

  same_weight : (t : Spans) (v : ℕ) → WeightOfText K s line t v → v ≡ weight_of_set (automaton_of ws) line t
  same_weight t v w = text_weight_one w (text_weight t)

  vars_are : (automaton_of ws).vars ≡ K
  unfolding automaton_of words_of
  vars_are = rw is.1 (head_vars is.0)
    where
      head_vars : (rest : List ℕ) → get_or (table_words K a ++ rest) 1 0 ≡ K
      head_vars rest = refl

  set_by : (t : Spans) → SetOfSpans K (length line) t → SetOfSpans (automaton_of ws).vars (length line) t
  set_by t h = rw vars_are h

  pub is_right : RightTable ws
  is_right = rw is.1 (right p short few_steps few_vars is.0)

  pub best_text : (w : ℕ) (t : Spans) → IsBest (automaton_of ws) line w t → TextBest K s line w t
  best_text w t b =
      record {
        set = rw vars_are at b.set;
        own = rw b.own at (text_weight t);
        real = b.real;
        lightest = λ u v h g. omega (arith, b.lightest u (set_by u h), same_weight u v g);
        first = λ u h g. b.first u (set_by u h) (sym (same_weight u w g));
      }

  pub none_text : IsNone (automaton_of ws) line → TextNone K s line
  none_text n = record { all = λ u h. rw (n.all u (set_by u h)) at (text_weight u) }
