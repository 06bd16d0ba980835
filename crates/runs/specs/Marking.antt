-- MEANING. The runs that a set's weight is the least over, with no word on how many rows they have. Definitions only.
--
-- Marking A line t c   there is a run of A, of any number of rows, that reads the whole line, is valid, marks t and weighs c;
--                      it starts in a state and takes rows that there are, and c is a weight
-- Through A q rs       the rows rs follow one another from state q on, and lead to a state that has an end weight
-- plain A q rs         their weights and the end weight, added with no regard to the mark
use Rattle.std.specs.Prelude.{◌≡◌, true, List, [], ◌∷◌, ℕ, ◌+◌, ◌<◌, length}
use Rattle.basics.specs.Lists.{All}
use Rattle.weight.specs.Weight.{mark}
use Rattle.weight.specs.Tropical.{tropical}
use Rattle.spans.specs.declared.Spans.{Spans}
use Rattle.marks.specs.Labels.{marked}
use Rattle.table.specs.declared.Row.{Row}
use Rattle.table.specs.Table.{Automaton}
use Rattle.runs.specs.Runs.{Run, labels, weight_of, valid_run}

pub record Marking (A : Automaton) (line : List ℕ) (t : Spans) (c : ℕ) : Type 0 where
  pub run : Run
  pub starts : run.begins < A.states
  pub known : All (λ i. i < length A.rows) run.takes
  pub fits : valid_run A line run ≡ true
  pub sets : marked (labels A run) ≡ t
  pub weighs : weight_of tropical (λ n. n) A run ≡ c
  pub some : c < mark

abbrev pub Through : Automaton → ℕ → List Row → Type 0
Through A q [] = A.end q < mark
Through A q (r ∷ rs) = (r.from ≡ q) × Through A r.to rs

abbrev pub plain : Automaton → ℕ → List Row → ℕ
plain A q [] = A.end q
plain A q (r ∷ rs) = r.weight + plain A r.to rs
