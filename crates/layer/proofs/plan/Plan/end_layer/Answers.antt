-- `end_layer`: the end words closed under the markers are a right layer.
use Rattle.layer.proofs.Sweeping.{end_right}
use Rattle.layer.proofs.plan.Plan.end_layer.Goals as goal

pub returns : goal.returns
returns c = end_right _ c.args.self.now.table.right _ _ _ c.tolls.ensures c.requires _ c.args.self.now.lowest _ c.empty-new.ensures _ _ c.ends.ensures c.close.ensures
