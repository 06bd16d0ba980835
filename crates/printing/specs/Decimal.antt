-- METHOD. The digits that `io::decimal` makes are the number's decimal digits; there are at most as many as asked for.
use Rattle.std.specs.Prelude.{◌≡◌, List, ℕ, zero, suc, ◌+◌, ◌-◌, ◌*◌, ◌/◌, ◌%◌, ◌^◌, ◌≤◌, ◌<◌}
use Rattle.std.proofs.Common.{ap, subst, ◌∙◌, pow-suc, le-div_iff_mul-le, div-lt_iff_lt-mul, arith, lt-ltb, le-ltb}
use Rattle.std.proofs.Math.Nat.{one-le-pow, pow-le-pow_right}
use Rattle.std.proofs.Math.Decide.{dec_lt, dec_le}
use Rattle.io.specs.Digits.{last_digits, hex_digit_ascii, IsDigitCount}
use Rattle.printing.specs.Puts.{Puts}
use Rattle.printing.specs.Text.{digits_of, decimal}

glyph_is : (n : ℕ) → hex_digit_ascii (n % 10) ≡ 48 + n % 10
glyph_is n = simp (lt-ltb (n % 10) 10 (omega arith))

-- a number of two digits or more has its front's digits
low : (j n : ℕ) → IsDigitCount 10 1 n (suc (suc j)) → 10 ^ j * 10 ≤ n
low j n w =
    let e : suc (suc j) - 1 ≡ suc j = omega arith in
    rw (← pow-suc 10 j, ← e) (w.2 (omega arith))

less : (j n : ℕ) → IsDigitCount 10 1 n (suc (suc j)) → IsDigitCount 10 1 (n / 10) (suc j)
less j n w =
    let e : suc j - 1 ≡ j = omega arith in
    (omega arith, (div-lt_iff_lt-mul {k = 10} {x = n} {y = 10 ^ suc j} (omega arith)).1 (rw pow-suc at w.1), λ h. rw e ((le-div_iff_mul-le {k = 10} {x = 10 ^ j} {y = n} (omega arith)).1 (low j n w)))

short : (j n : ℕ) → IsDigitCount 10 1 n (suc (suc j)) → n < 10 → ⊥
short j n w h = omega (arith, low j n w, one-le-pow j 10 (omega arith))

long : (n : ℕ) → IsDigitCount 10 1 n 1 → n < 10
long n w = w.1

pub decimal_is : (k most n : ℕ) → k ≤ most → IsDigitCount 10 1 n k → last_digits 10 k n ≡ digits_of most n
decimal_is zero most n h w = absurd (let b : ⊥ = omega (arith, w.0) in b)
decimal_is (suc k) zero n h w = absurd (let b : ⊥ = omega (arith, w.0) in b)
decimal_is (suc zero) (suc most) n h w = simp (lt-ltb n 10 (long n w), glyph_is n)
decimal_is (suc (suc j)) (suc most) n h w = go (dec_lt n 10) (decimal_is (suc j) most (n / 10) (omega arith) (less j n w))
  where
    go : Dec (n < 10) → last_digits 10 (suc j) (n / 10) ≡ digits_of most (n / 10) → last_digits 10 (suc (suc j)) n ≡ digits_of (suc most) n
    go (yes l) e = absurd (short j n w l)
    go (no l) e = simp (le-ltb n 10 (omega arith), glyph_is n, e)

-- so many digits hold no more than a power of ten
few : (k most n : ℕ) → IsDigitCount 10 1 n k → 0 < most → n < 10 ^ most → k ≤ most
few k most n w p h = go (dec_le k most)
  where
    go : Dec (k ≤ most) → k ≤ most
    go (yes l) = l
    go (no l) = absurd (let b : ⊥ = omega (arith, w.2 (omega (arith, w.0)), pow-le-pow_right {n = 10} (omega arith) {i = most} {j = k - 1} (omega arith)) in b)

-- a text that is a number's digits is put as the number
pub digits_put : {d e : List ℕ} {at r : ℕ} (n m k : ℕ) (t : List ℕ) → m ≡ n → n < 10 ^ 20 → IsDigitCount 10 1 m k → t ≡ last_digits 10 k m → Puts d at t e r → Puts d at (decimal n) e r
unfolding decimal
digits_put {d} {e} {at} {r} n m k t q h w l p = subst (λ (u : List ℕ). Puts d at u e r) (l ∙ decimal_is k 20 m (few k 20 m w (omega arith) (omega arith)) w ∙ ap (digits_of 20) q) p
