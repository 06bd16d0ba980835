-- `Cell::sum`: a key that passes 2^64 carries into the weight, so that the sum is the sum of the two numbers.
use Rattle.std.proofs.Common.{◌≡◌, ℕ, ◌+◌, ◌*◌, ◌%◌, ◌^◌, ◌<◌, Bool, true, false, arith}
use mir.Val.{bool_byte}
use Rattle.std.specs.Bool.{FalseIff}
use Rattle.weight.specs.Weight.{joint_to}
use Rattle.togo.specs.Price.{base}
use Rattle.cell.proofs.Cell.sum.Goals as goal

-- the two numbers together, by the carry
carried : (b : Bool) (aw ak bw bk key : ℕ) → ak < base → bk < base → key ≡ (ak + bk) % 2 ^ 64 → FalseIff b (ak + bk < 2 ^ 64) → (aw + bw + bool_byte b) * base + key ≡ (aw * base + ak) + (bw * base + bk)
carried false aw ak bw bk key g h e f = let k : key ≡ ak + bk = omega (arith, e, f) in omega (arith, k)
carried true aw ak bw bk key g h e f = let k : key + base ≡ ak + bk = omega (arith, e, f, g, h) in omega (arith, k)

pub returns-then-weight-from : goal.returns-then-weight-from
unfolding joint_to
returns-then-weight-from c = omega (arith, carried _ c.args.self.weight _ c.args.other.weight _ _ (omega arith) (omega arith) c.overflowing_add-key.ensures.value c.overflowing_add-key.ensures.overflow)

pub returns-else-weight-from : goal.returns-else-weight-from
unfolding joint_to
returns-else-weight-from c = omega (arith, carried _ c.args.self.weight _ c.args.other.weight _ _ (omega arith) (omega arith) c.overflowing_add-key.ensures.value c.overflowing_add-key.ensures.overflow)
