-- `raise` meets its contract. The invariant: the cells before i are done, the others as they were.
use Rattle.grid.proofs.Laws.{Done, raise_rule}
use Rattle.grid.proofs.raise.Given as goal

abbrev pub invariant-loop-i : goal.invariant-loop-i
invariant-loop-i l = Done (raise_rule l.seam.lo l.seam.hi l.ending l.seam.next l.beginning l.initial.cell-items) l.initial.cell-items l.i l.cell-items
