-- The place of each of the six digits of a key: no more than 64 bits, and not 0.
use Rattle.std.proofs.Common.{ℕ, zero, suc, ◌-◌, ◌^◌, ◌<◌, arith}

pub place : (m : ℕ) → m < 6 → (0 < 1026 ^ (5 - m)) × (1026 ^ (5 - m) < 2 ^ 64)
place zero h = (omega arith, omega arith)
place (suc zero) h = (omega arith, omega arith)
place (suc (suc zero)) h = (omega arith, omega arith)
place (suc (suc (suc zero))) h = (omega arith, omega arith)
place (suc (suc (suc (suc zero)))) h = (omega arith, omega arith)
place (suc (suc (suc (suc (suc zero))))) h = (omega arith, omega arith)
place (suc (suc (suc (suc (suc (suc m)))))) h = absurd (omega arith)
