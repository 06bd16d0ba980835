-- `close_at`: one marker row more at each turn.
use Rattle.std.proofs.Common.{refl}
use Rattle.layer.specs.Layer.{MarkerAt}
use Rattle.layer.proofs.Closing.{at_none}
use Rattle.layer.proofs.Gathering.{all_at, at_row, marker_row}
use Rattle.layer.proofs.cells.Layer.close_at.Goals as goal

pub loop-at-init : goal.loop-at-init
loop-at-init c = at_none _ _ _

pub close_one-requires-clause-right_row : goal.close_one-requires-clause-right_row
close_one-requires-clause-right_row c =
    let m = all_at (MarkerAt c.args.plan.now.table.words.now) c.args.plan.now.marks.now c.args.plan.now.gathered.each c.loop-at.at-index c.loop-at-test.true in
    marker_row _ _ _ c.args.plan.now.table.right m c.row_at.ensures

pub loop-at-preserved : goal.loop-at-preserved
loop-at-preserved c = at_row _ _ _ c.loop-at.at-index _ _ _ _ _ _ c.requires c.loop-at-test.true refl c.row_at.ensures c.loop-at.invariant c.close_one.ensures
