-- `link` meets its contract. The invariant: the cells before i are done, the others as they were; what `bridge` reads is on the
-- edges, which linking leaves as they are.
use Rattle.grid.proofs.Laws.{Done, link_rule}
use Rattle.grid.proofs.link.Given as goal

abbrev pub invariant-loop-i : goal.invariant-loop-i
invariant-loop-i l = Done (link_rule l.seam.lo l.seam.hi l.seam.next l.initial.cells) l.initial.cells l.i l.cells
