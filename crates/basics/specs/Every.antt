-- A rule over a range of numbers, proved by one test that the checker computes.
--
-- every f n       the test f passes at each number below n
-- every_at        what every says of one number
-- and_true        both of two tests that pass together
use Rattle.std.specs.Prelude.{◌≡◌, refl, Bool, true, false, ◌&&◌, ℕ, zero, suc, ◌<◌}
use Rattle.std.proofs.lemmas.Bool.{false≢true}
use Rattle.std.proofs.Common.{arith}
use Rattle.std.proofs.Math.Decide.{ℕ_discrete}

abbrev pub every : (ℕ → Bool) → ℕ → Bool
every f zero = true
every f (suc n) = f n && every f n

pub every_at : (f : ℕ → Bool) (n : ℕ) → every f n ≡ true → (i : ℕ) → i < n → f i ≡ true
every_at f zero e i h = absurd (omega arith)
every_at f (suc n) e i h = go (f n) refl (every_at f n) (ℕ_discrete i n)
  where
    go : (t : Bool) → f n ≡ t → (every f n ≡ true → (i : ℕ) → i < n → f i ≡ true) → Dec (i ≡ n) → f i ≡ true
    go true g ih (yes k) = rw k g
    go true g ih (no k) = ih (rw g at e) i (omega arith)
    go false g ih k = absurd (false≢true (rw g at e))

pub and_true : (a b : Bool) → (a && b) ≡ true → (a ≡ true) × (b ≡ true)
and_true true b e = (refl, e)
and_true false b e = absurd (false≢true e)
