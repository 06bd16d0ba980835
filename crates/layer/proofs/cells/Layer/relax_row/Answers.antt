-- `relax_row`: the loop goes on from the settings that are done to one more.
use Rattle.std.proofs.Common.{arith}
use Rattle.layer.proofs.Relaxing.{row_more, row_skip}
use Rattle.layer.proofs.cells.Layer.relax_row.Goals as goal
use Rattle.layer.proofs.cells.Layer.relax_row.Goals.{then-far, else-far}

pub loop-u-preserved : goal.loop-u-preserved
loop-u-preserved c = let inv = c.loop-u.invariant in
    elim c.if-far.branch [
      | then-far w ↦ rw w.self-is (row_more _ _ _ _ _ _ _ _ inv (omega arith) _ _ c.cell-far.ensures w.take.ensures)
      | else-far w ↦ rw w.self-is (row_skip _ _ _ _ _ _ _ _ inv (omega arith) _ _ c.cell-far.ensures w.if-far.false)
    ]
