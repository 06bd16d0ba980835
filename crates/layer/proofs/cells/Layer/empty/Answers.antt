-- `Layer::empty`: each cell is the mark and key 0.
use Rattle.std.proofs.Common.{ℕ}
use lib.ListN.{get_or-replicate}
use Rattle.weight.specs.Weight.{mark}
use Rattle.layer.specs.Layer.{held}
use Rattle.layer.proofs.cells.Layer.empty.Goals as goal

pub returns : goal.returns
unfolding held
returns c = record { none = λ i h. rw (get_or-replicate {A = ℕ} 864 i mark 0 h, get_or-replicate {A = ℕ} 864 i 0 0 h) }
