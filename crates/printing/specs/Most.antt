-- METHOD. An answer takes at most 128 bytes.
--
-- Word n           a number of 32 bits
-- Words a          the numbers of an answer are of 32 bits, as they are in the code
-- printed_most     what is printed of an answer is at most 128 bytes long
use Rattle.std.specs.Prelude.{Bool, true, false, cond, [], ◌++◌, ℕ, zero, suc, ◌/◌, ◌^◌, ◌≤◌, ◌<◌, ltb, length}
use Rattle.std.proofs.Common.{pow-suc, div-lt_iff_lt-mul, arith, lt-ltb, le-ltb, length-append}
use Rattle.std.proofs.Math.Decide.{dec_lt}
use Rattle.reader.specs.declared.Answer.{Answer}
use Rattle.reader.specs.declared.Answer.TheVariants.{Reading, NoReading, Refused}
use Rattle.printing.specs.Text.{digits_of, decimal, comma, letter, equals, keyed, field, variable, printed}

abbrev pub Word : ℕ → Type 0
Word n = n < 4294967296

abbrev pub Words : Answer → Type 0
Words (Reading w t) = Word w.number × (Word t.s1 × Word t.e1) × (Word t.s2 × Word t.e2) × (Word t.s3 × Word t.e3)
Words NoReading = Unit {0}
Words (Refused number place) = Word number × Word place

digits_few : (most n k : ℕ) → n < 10 ^ suc k → length (digits_of most n) ≤ suc k
digits_few zero n k h = omega arith
digits_few (suc most) n k h = go (dec_lt n 10) k h (digits_few most (n / 10))
  where
    go : Dec (n < 10) → (k : ℕ) → n < 10 ^ suc k → ((k : ℕ) → n / 10 < 10 ^ suc k → length (digits_of most (n / 10)) ≤ suc k) → length (digits_of (suc most) n) ≤ suc k
    go (yes l) k h i = simp (lt-ltb n 10 l) (omega arith)
    go (no l) zero h i = absurd (l h)
    go (no l) (suc k) h i =
        simp (le-ltb n 10 (omega arith), length-append) (omega (arith, i k ((div-lt_iff_lt-mul {k = 10} {x = n} {y = 10 ^ suc k} (omega arith)).1 (rw pow-suc at h))))

ten : (n : ℕ) → Word n → length (decimal n) ≤ 10
unfolding decimal
ten n h = digits_few 20 n 9 (omega arith)

one : (n : ℕ) → n < 10 → length (decimal n) ≤ 1
unfolding decimal
one n h = digits_few 20 n 0 (omega arith)

variable_length : (k i s e : ℕ) → i < 10 → Word s → Word e → length (variable k i s e) ≤ 25
variable_length k i s e h p q = go (ltb k i)
  where
    go : (b : Bool) → length (cond b [] (keyed letter i ++ keyed equals s ++ field comma e)) ≤ 25
    go true = omega arith
    go false = simp length-append (omega (arith, one i h, ten s p, ten e q))

pub printed_most : (line k : ℕ) (a : Answer) → Word line → Words a → length (printed line k a) ≤ 128
printed_most line k (Reading w t) l (h, (a, b), (c, d), (e, f)) =
    simp length-append
    (omega (arith, ten line l, ten w.number h, variable_length k 1 t.s1 t.e1 (omega arith) a b, variable_length k 2 t.s2 t.e2 (omega arith) c d, variable_length k 3 t.s3 t.e3 (omega arith) e f))
printed_most line k NoReading l w = simp length-append (omega (arith, ten line l))
printed_most line k (Refused number place) l (h, p) = simp length-append (omega (arith, ten line l, ten number h, ten place p))
