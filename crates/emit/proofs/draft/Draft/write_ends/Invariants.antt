-- `write_ends` meets its contract. The invariant: the end words of the states before x are written.
use Rattle.layout.specs.Words.{ends_of}
use Rattle.emit.specs.Cells.{arcs_in}
use Rattle.emit.specs.Puts.{Puts}
use Rattle.emit.proofs.draft.Draft.write_ends.Given as goal

abbrev pub invariant-loop-x : goal.invariant-loop-x
invariant-loop-x l = Puts l.initial.table l.table (ends_of (arcs_in l.self.cells.now l.self.nul) l.x)
