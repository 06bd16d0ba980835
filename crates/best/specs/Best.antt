-- MEANING. The best reading of a line (01, "The table"; demand 2). Definitions only.
--
-- IsBest A line w t   t is a set of spans of the line, w is its weight and not the mark, no set is lighter, and no set of that
--                     weight stands before t in the printed order
-- IsNone A line       the weight of every set of spans of the line is the mark
-- HasRun A line       some valid run reads the line
use Rattle.std.specs.Prelude.{◌≡◌, true, ℕ, ◌≤◌, ◌<◌, List, length}
use Rattle.basics.specs.Lists.{All}
use Rattle.weight.specs.Weight.{mark}
use Rattle.weight.specs.Tropical.{tropical}
use Rattle.spans.specs.declared.Spans.{Spans}
use Rattle.spans.specs.Spans.{SetOfSpans, NotAfter}
use Rattle.table.specs.Table.{Automaton}
use Rattle.runs.specs.Runs.{Run, valid_run, weight_of, weight_of_set}

pub record IsBest (A : Automaton) (line : List ℕ) (w : ℕ) (t : Spans) : Type 0 where
  pub set : SetOfSpans A.vars (length line) t
  pub own : weight_of_set A line t ≡ w
  pub real : w < mark
  pub lightest : (s : Spans) → SetOfSpans A.vars (length line) s → w ≤ weight_of_set A line s
  pub first : (s : Spans) → SetOfSpans A.vars (length line) s → weight_of_set A line s ≡ w → NotAfter t s

pub record IsNone (A : Automaton) (line : List ℕ) : Type 0 where
  pub all : (s : Spans) → SetOfSpans A.vars (length line) s → weight_of_set A line s ≡ mark

-- its start and end words are not the mark, each row leaves from where the one before it led to, it reads the whole line, and it is valid
pub record HasRun (A : Automaton) (line : List ℕ) : Type 0 where
  pub run : Run
  pub starts : run.begins < A.states
  pub rows : All (λ i. i < length A.rows) run.takes
  pub is_valid : valid_run A line run ≡ true
  pub real : weight_of tropical (λ n. n) A run < mark
