-- `place`: 1026 to the fifth fits a word of 64 bits.
use Rattle.std.proofs.Common.{ℕ, zero, suc, ◌-◌, ◌^◌, ◌<◌, arith}
use Rattle.layer.proofs.plan.place.Goals as goal

fits : (m : ℕ) → m < 6 → 1026 ^ (5 - m) < 2 ^ 64
fits zero h = omega arith
fits (suc zero) h = omega arith
fits (suc (suc zero)) h = omega arith
fits (suc (suc (suc zero))) h = omega arith
fits (suc (suc (suc (suc zero)))) h = omega arith
fits (suc (suc (suc (suc (suc zero))))) h = omega arith
fits (suc (suc (suc (suc (suc (suc m)))))) h = absurd (omega arith)

pub pow-requires : goal.pow-requires
pow-requires c = fits c.args.m c.requires
