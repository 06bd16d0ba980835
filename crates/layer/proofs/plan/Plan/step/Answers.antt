-- `step`: a layer relaxed from a right one and closed under the markers is right.
use Rattle.layer.proofs.Sweeping.{stepped}
use Rattle.layer.proofs.plan.Plan.step.Goals as goal

pub returns : goal.returns
returns c = stepped _ c.args.self.now.table.right _ _ _ c.tolls.ensures c.requires _ c.args.self.now.lowest _ c.empty-new.ensures _ _ _ _ (rw c.from.ensures at c.relax.ensures) c.close.ensures
