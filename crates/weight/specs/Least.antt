-- A least number is one number.
use Rattle.std.specs.Prelude.{◌≡◌, ℕ, ◌≤◌, ◌<◌}
use Rattle.std.proofs.Common.{arith}
use Rattle.std.proofs.Math.Decide.{dec_lt}
use Rattle.weight.specs.Weight.{mark, Least}

no_more : (P : ℕ → Type 0) (m n : ℕ) → Least P m → Least P n → m ≤ n
no_more P m n p q = go (dec_lt n mark)
  where
    go : Dec (n < mark) → m ≤ n
    go (yes h) = p.low n (q.attained h)
    go (no h) = omega (arith, p.cap)

pub least_one : (P : ℕ → Type 0) (m n : ℕ) → Least P m → Least P n → m ≡ n
least_one P m n p q = omega (arith, no_more P m n p q, no_more P n m q p)

-- two properties, each of whose numbers has one of the other that is no more, have one least number
pub least_same : (P Q : ℕ → Type 0) (m : ℕ) → ((c : ℕ) → P c → Q c) → ((c : ℕ) → Q c → (d : ℕ) × P d × (d ≤ c)) → Least P m → Least Q m
least_same P Q m f g l = record { cap = l.cap; low = λ c q. (let r = g c q in omega (arith, l.low r.0 r.1, r.2)); attained = λ h. f m (l.attained h) }
