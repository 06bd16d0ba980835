-- MEANING. The runs of an automaton on a line, and the weight of a set (01, "The table"; 000, section 4). Definitions only.
--
-- Run                 the state that a run starts in, and the numbers of its rows, one after another, from 0
-- rows_of A is         the rows that have the numbers `is`
-- labels A r          what the rows of the run r do, in their order
-- Value S             how a weight counts in the semiring S: in the tropical one as itself, in a counting one as one run
-- chain S w A q rs    from state q: the product of the rows' weights and the end word of the state that the last leads to;
--                     zero where a row does not leave from the state that the one before it led to
-- weight_of S w A r    the weight of a run: its start word, its rows' weights and its end word
-- ValidRun A line r   r reads the whole line and is valid
-- runs A m            all runs of m rows
-- set_weight S w A line t   the weight of a set: the sum over all valid runs that mark it. A valid run has as many rows as the
--                     line has bytes and two for each variable (theorem valid_rows), so these are all the runs there are to sum
-- weight_of_set A line t     the same with weights: the least, or the mark
use Rattle.std.specs.Prelude.{Bool, cond, ◌&&◌, List, [], ◌∷◌, map, ℕ, zero, suc, ◌+◌, ◌*◌, eqb, length}
use Rattle.basics.specs.Lists.{below, lists, pairs}
use Rattle.weight.specs.Weight.{mark}
use Rattle.weight.specs.Semiring.{Semi, sum}
use Rattle.weight.specs.Tropical.{tropical}
use Rattle.spans.specs.declared.Spans.{Spans}
use Rattle.spans.specs.Spans.{same}
use Rattle.marks.specs.Labels.{Label, spells, valid, marked}
use Rattle.table.specs.declared.Row.{Row}
use Rattle.table.specs.Table.{Automaton, label_of}

pub record Run : Type 0 where
  pub begins : ℕ
  pub takes : List ℕ

-- a number that no row has stands for a row that leads nowhere
unfoldable pub nth_row : List Row → ℕ → Row
nth_row [] i = record { from = mark; to = mark; kind = mark; argument = 0; weight = mark }
nth_row (r ∷ rs) zero = r
nth_row (r ∷ rs) (suc i) = nth_row rs i

abbrev pub rows_of : Automaton → List ℕ → List Row
rows_of A is = map (nth_row A.rows) is

abbrev pub labels : Automaton → Run → List Label
labels A r = map label_of (rows_of A r.takes)

abbrev pub Value : Semi → Type 0
Value S = ℕ → S.W

unfoldable pub chain : (S : Semi) → Value S → Automaton → ℕ → List Row → S.W
chain S w A q [] = w (A.end q)
chain S w A q (r ∷ rs) = cond (eqb r.from q) (S.times (w r.weight) (chain S w A r.to rs)) S.zero

unfoldable pub weight_of : (S : Semi) → Value S → Automaton → Run → S.W
weight_of S w A r = S.times (w (A.start r.begins)) (chain S w A r.begins (rows_of A r.takes))

unfoldable pub valid_run : Automaton → List ℕ → Run → Bool
valid_run A line r = spells (labels A r) line && valid A.vars (labels A r)

unfoldable pub runs : Automaton → ℕ → List Run
runs A m = map (λ p. record { begins = p.0; takes = p.1 }) (pairs (below A.states) (lists m (below (length A.rows))))

unfoldable pub set_weight : (S : Semi) → Value S → Automaton → List ℕ → Spans → S.W
set_weight S w A line t =
    sum S (λ r. cond (valid_run A line r && same (marked (labels A r)) t) (weight_of S w A r) S.zero) (runs A (length line + 2 * A.vars))

abbrev pub weight_of_set : Automaton → List ℕ → Spans → ℕ
weight_of_set A line t = set_weight tropical (λ n. n) A line t
