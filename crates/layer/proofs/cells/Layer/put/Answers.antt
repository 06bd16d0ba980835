-- `Layer::put`: one place is written, and no other.
use Rattle.std.proofs.Common.{refl, arith}
use Rattle.layer.proofs.Grid.{written_set}
use Rattle.layer.proofs.cells.Layer.put.Goals as goal

pub returns : goal.returns
returns c = written_set _ _ _ _ _ (omega arith) (omega arith) refl
