-- `write_rows` meets its contract. The invariant: the rows from the states before x are written.
use Rattle.layout.specs.Gather.{gather}
use Rattle.emit.specs.Cells.{cell_at, labels_in}
use Rattle.emit.specs.Wrote.{from_words}
use Rattle.emit.specs.Puts.{Puts}
use Rattle.emit.proofs.draft.Draft.write_rows.Given as goal

abbrev pub invariant-loop-x : goal.invariant-loop-x
invariant-loop-x l = Puts l.initial.table l.table (gather (from_words (cell_at l.self.cells.now) (labels_in l.self.labels.now) l.self.steps) l.x)
