-- `rows` meets its contract. The invariant: n rows leave from the states before x.
use mathlib.Core.Path.{◌≡◌}
use Prim.Native.Nat.{◌*◌, ◌≤◌}
use lib.ListN.{length}
use Rattle.layout.specs.Gather.{gather}
use Rattle.layout.specs.Words.{rows_for}
use Rattle.emit.specs.Cells.{cell_at, labels_in}
use Rattle.emit.proofs.draft.Draft.rows.Given as goal

abbrev pub invariant-loop-x : goal.invariant-loop-x
invariant-loop-x l = (l.n ≤ 31 * l.x) × (l.n ≡ length (gather (rows_for (cell_at l.self.cells.now) (labels_in l.self.labels.now) l.self.steps) l.x))
