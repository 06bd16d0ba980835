-- `close`: one setting less at each turn, down to the lowest in use.
use Rattle.std.proofs.Common.{◌≡◌, arith}
use Rattle.layer.proofs.Closing.{closed_more}
use Rattle.layer.proofs.Gathering.{closed_all}
use Rattle.layer.proofs.cells.Layer.close.Goals as goal

pub loop-u-preserved : goal.loop-u-preserved
loop-u-preserved c = (omega arith, closed_more _ _ _ c.loop-u.u _ _ _ (omega arith) (omega arith) c.loop-u.invariant.1 c.close_at.ensures)

pub returns : goal.returns
returns c = let e : c.loop-u.u ≡ c.args.plan.now.low = omega arith in
    closed_all _ _ _ _ _ _ c.args.plan.now.gathered (rw e at c.loop-u.invariant.1)
