-- `lowest`: three variables at most have 27 settings at most.
use Rattle.std.proofs.Common.{ℕ, zero, suc, ◌^◌, ◌≤◌, arith}
use Rattle.layer.proofs.plan.lowest.Goals as goal

few : (k : ℕ) → k ≤ 3 → (1 ≤ 3 ^ k) × (3 ^ k ≤ 27)
few zero h = (omega arith, omega arith)
few (suc zero) h = (omega arith, omega arith)
few (suc (suc zero)) h = (omega arith, omega arith)
few (suc (suc (suc zero))) h = (omega arith, omega arith)
few (suc (suc (suc (suc k)))) h = absurd (omega arith)

pub pow-requires : goal.pow-requires
pow-requires c = omega (arith, (few c.args.k c.requires).1)

pub overflow_sub-result : goal.overflow_sub-result
overflow_sub-result c = omega (arith, (few c.args.k c.requires).1)

pub returns-clause-setting : goal.returns-clause-setting
returns-clause-setting c = omega (arith, (few c.args.k c.requires).0)
