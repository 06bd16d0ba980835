-- What it is for a function's answer to decide a statement.
--
-- Decides P b     b is true exactly when P holds
-- decided_one     two answers that decide one statement are equal
-- yes_so, no_so   what holds is decided by true, what does not by false
-- decides_as      a statement that is the same as one that is decided
-- eqb_so, leb_so  the tests of two numbers decide that they are equal, that one is at most the other
-- untrue, unfalse a test that was turned round
-- refused, kept   what is known where the test `not b` was taken, and where it was not
use Rattle.std.specs.Prelude.{◌≡◌, refl, Bool, true, false, not, ℕ, ◌≤◌, eqb, leb}
use Rattle.std.proofs.Common.{sym, arith, eqb-true, leb-true, leb-false}
use Rattle.std.proofs.lemmas.Bool.{false≢true, eqb-false}

pub record Decides (P : Type 0) (b : Bool) : Type 0 where
  pub so : b ≡ true → P
  pub not_so : b ≡ false → P → ⊥

pub decided_one : {P : Type 0} (a b : Bool) → Decides P a → Decides P b → a ≡ b
decided_one true true p q = refl
decided_one true false p q = absurd (q.not_so refl (p.so refl))
decided_one false true p q = absurd (p.not_so refl (q.so refl))
decided_one false false p q = refl

pub yes_so : {P : Type 0} → P → Decides P true
yes_so p = record { so = λ _. p; not_so = λ e q. absurd (false≢true (sym e)) }

pub no_so : {P : Type 0} → (P → ⊥) → Decides P false
no_so f = record { so = λ e. absurd (false≢true e); not_so = λ _ q. f q }

pub decides_as : {P Q : Type 0} {b : Bool} → (P → Q) → (Q → P) → Decides P b → Decides Q b
decides_as f g d = record { so = λ e. f (d.so e); not_so = λ e q. d.not_so e (g q) }

pub untrue : (b : Bool) → not b ≡ true → b ≡ false
untrue true e = absurd (false≢true e)
untrue false e = refl

pub unfalse : (b : Bool) → not b ≡ false → b ≡ true
unfalse true e = refl
unfalse false e = sym e

pub eqb_so : (m n : ℕ) → Decides (m ≡ n) (eqb m n)
eqb_so m n = record { so = eqb-true m n; not_so = eqb-false m n }

pub leb_so : (m n : ℕ) → Decides (m ≤ n) (leb m n)
leb_so m n = record { so = leb-true m n; not_so = λ e h. omega (arith, leb-false m n e) }

pub refused : {P : Type 0} (b : Bool) → Decides P b → not b ≡ true → P → ⊥
refused b d e p = d.not_so (untrue b e) p

pub kept : {P : Type 0} (b : Bool) → Decides P b → not b ≡ false → P
kept b d e = d.so (unfalse b e)
