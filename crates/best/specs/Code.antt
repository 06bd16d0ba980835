-- Digits below 1026 as one number: the number's order is the digits' order, and the digits come back from it. So it is with the
-- keys of sets whose positions are at most 1025.
--
-- number_low      six digits are less than 2^64 as a number
-- to_lex          a number that is not more has digits that do not stand after
-- same-digits     one number has one list of digits
-- digit_zero, digit_low, digit_back   what a position's digit has to be
-- Fits t          the positions of t are at most 1025
-- key_low, key_order, key_same, key_back   the same of keys of sets
use Rattle.std.specs.Prelude.{◌≡◌, refl, List, [], ◌∷◌, ℕ, suc, ◌+◌, ◌*◌, ◌^◌, ◌≤◌, ◌<◌, length}
use Rattle.std.proofs.Common.{sym, ap, ◌∙◌, inl, inr, arith, mul-le-mul_right, pow-suc}
use Rattle.std.proofs.Math.Decide.{dec_lt, ℕ_discrete}
use Rattle.basics.specs.Lists.{All}
use Rattle.spans.specs.declared.Spans.{Spans}
use Rattle.spans.specs.Spans.{digit, digits, Lex, NotAfter}
use Rattle.togo.specs.Price.{base, number, key_of, placed}
use Rattle.best.specs.Decode.{undigit, key_digit, spans_of_key}

abbrev Digit : ℕ → Type 0
Digit x = x < 1026

longer : (x : ℕ) (xs : List ℕ) → length (x ∷ xs) ≡ suc (length xs)
longer x xs = refl

number_low : (xs : List ℕ) → All Digit xs → number xs < 1026 ^ length xs
number_low [] a = omega arith
number_low (x ∷ xs) a = rw (longer x xs) (omega (arith, pow-suc 1026 (length xs), number_low xs a.1, mul-le-mul_right (1026 ^ length xs) a.0))

-- the first digit decides
head : (x y a b p : ℕ) → a < p → b < p → x * p + a ≤ y * p + b → x ≤ y
head x y a b p ha hb h = go (dec_lt y x)
  where
    go : Dec (y < x) → x ≤ y
    go (yes k) = absurd (omega (arith, mul-le-mul_right p k))
    go (no k) = omega arith

module _ (xs ys : List ℕ) (x y : ℕ) (e : length xs ≡ length ys) (a : All Digit xs) (b : All Digit ys) where
  heads : number (x ∷ xs) ≤ number (y ∷ ys) → x ≤ y
  heads h = head x y (number xs) (number ys) (1026 ^ length xs) (number_low xs a) (rw e (number_low ys b)) (rw (sym e) at h)

  tails : x ≡ y → number (x ∷ xs) ≤ number (y ∷ ys) → number xs ≤ number ys
  tails q h = go q (rw (sym e) at h)
    where
      go : x ≡ y → x * 1026 ^ length xs + number xs ≤ y * 1026 ^ length xs + number ys → number xs ≤ number ys
      go q h = let g : x * 1026 ^ length xs ≡ y * 1026 ^ length xs = rw q in omega arith

to_lex : (xs ys : List ℕ) → length xs ≡ length ys → All Digit xs → All Digit ys → number xs ≤ number ys → Lex xs ys
to_lex [] ys e a b h = tt
to_lex (x ∷ xs) [] e a b h = absurd (omega arith)
to_lex (x ∷ xs) (y ∷ ys) e a b h = go (ℕ_discrete x y) (to_lex xs ys (omega arith) a.1 b.1)
  where
    go : Dec (x ≡ y) → (number xs ≤ number ys → Lex xs ys) → Lex (x ∷ xs) (y ∷ ys)
    go (yes q) ih = inr (q, ih (tails xs ys x y (omega arith) a.1 b.1 q h))
    go (no q) ih = inl (omega (arith, heads xs ys x y (omega arith) a.1 b.1 h))

-- the digits of a number of six, back again
six_back : (a b c d e f k : ℕ) → All Digit (a ∷ b ∷ c ∷ d ∷ e ∷ f ∷ []) → k ≡ number (a ∷ b ∷ c ∷ d ∷ e ∷ f ∷ [])
    → (key_digit k 0 ≡ a) × (key_digit k 1 ≡ b) × (key_digit k 2 ≡ c) × (key_digit k 3 ≡ d) × (key_digit k 4 ≡ e) × (key_digit k 5 ≡ f)
six_back a b c d e f k h q = omega arith

-- what a position's digit has to be: M-100 changes these with `digit` and `undigit`
pub digit_zero : (m : ℕ) → digit m 0 ≡ 0
digit_zero m = refl

pub digit_low : (m p : ℕ) → p ≤ 1025 → digit m p < 1026
digit_low m p h = omega arith

pub digit_back : (m p : ℕ) → p ≤ 1025 → undigit m (digit m p) ≡ p
digit_back m p h = refl

abbrev pub Fits : Spans → Type 0
Fits t = (m : ℕ) → m < 6 → placed t m ≤ 1025

low_digits : (t : Spans) → Fits t → All Digit (digits t)
low_digits t h =
    (digit_low 0 _ (h 0 (omega arith)), (digit_low 1 _ (h 1 (omega arith)), (digit_low 2 _ (h 2 (omega arith)), (digit_low 3 _ (h 3 (omega arith)), (digit_low 4 _ (h 4 (omega arith)), (digit_low 5 _ (h 5 (omega arith)), tt))))))

pub key_low : (t : Spans) → Fits t → key_of t < base
key_low t h = omega (arith, number_low (digits t) (low_digits t h))

pub key_order : (a b : Spans) → Fits a → Fits b → key_of a ≤ key_of b → NotAfter a b
key_order a b ha hb h = to_lex (digits a) (digits b) refl (low_digits a ha) (low_digits b hb) h

pub key_back : (t : Spans) → Fits t → spans_of_key (key_of t) ≡ t
key_back t h =
    let d = six_back (digit 0 t.s1) (digit 1 t.e1) (digit 2 t.s2) (digit 3 t.e2) (digit 4 t.s3) (digit 5 t.e3) (key_of t) (low_digits t h) refl in
    let q0 : undigit 0 (key_digit (key_of t) 0) ≡ t.s1 = ap (undigit 0) d.0 ∙ digit_back 0 _ (h 0 (omega arith)) in
    let q1 : undigit 1 (key_digit (key_of t) 1) ≡ t.e1 = ap (undigit 1) d.1 ∙ digit_back 1 _ (h 1 (omega arith)) in
    let q2 : undigit 2 (key_digit (key_of t) 2) ≡ t.s2 = ap (undigit 2) d.2 ∙ digit_back 2 _ (h 2 (omega arith)) in
    let q3 : undigit 3 (key_digit (key_of t) 3) ≡ t.e2 = ap (undigit 3) d.3 ∙ digit_back 3 _ (h 3 (omega arith)) in
    let q4 : undigit 4 (key_digit (key_of t) 4) ≡ t.s3 = ap (undigit 4) d.4 ∙ digit_back 4 _ (h 4 (omega arith)) in
    let q5 : undigit 5 (key_digit (key_of t) 5) ≡ t.e3 = ap (undigit 5) d.5 ∙ digit_back 5 _ (h 5 (omega arith)) in
    λ i. record { s1 = q0 i; e1 = q1 i; s2 = q2 i; e2 = q3 i; s3 = q4 i; e3 = q5 i }

pub key_same : (a b : Spans) → Fits a → Fits b → key_of a ≡ key_of b → a ≡ b
key_same a b ha hb e = sym (key_back a ha) ∙ ap spans_of_key e ∙ key_back b hb
