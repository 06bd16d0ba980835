-- `write_from` meets its contract. The invariant: the rows to the steps before p are written.
use Rattle.layout.specs.Gather.{gather}
use Rattle.emit.specs.Cells.{cell_at, labels_in}
use Rattle.emit.specs.Wrote.{arrow_words}
use Rattle.emit.specs.Puts.{Puts}
use Rattle.emit.proofs.draft.Draft.write_from.Given as goal

abbrev pub invariant-loop-p : goal.invariant-loop-p
invariant-loop-p l = Puts l.initial.table l.table (gather (arrow_words (cell_at l.self.cells.now) (labels_in l.self.labels.now) l.x) l.p)
