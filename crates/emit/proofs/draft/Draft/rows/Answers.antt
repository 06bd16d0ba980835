-- `rows` meets its contract. The invariant: n rows leave from the states before x.
use native.Mathlib.Omega.{arith}
use Rattle.layout.specs.Words.{rows_for}
use Rattle.emit.specs.Cells.{cell_at, labels_in}
use Rattle.emit.proofs.Laws.{count_one}
use Rattle.emit.proofs.draft.Draft.rows.Goals as goal

pub loop-x-preserved : goal.loop-x-preserved
loop-x-preserved c =
    (omega (arith, c.rows_from-n.ensures.0), count_one (rows_for (cell_at c.args.self.now.cells.now) (labels_in c.args.self.now.labels.now) c.args.self.now.steps) _ _ _ c.loop-x.invariant.1 c.rows_from-n.ensures.1)
