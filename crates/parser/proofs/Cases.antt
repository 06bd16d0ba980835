-- The answers by cases: what a match tells.
use mathlib.Core.Path.{◌≡◌, sym, ap, ◌∙◌}
use mathlib.Core.Bool.{Bool, true, false}
use Prim.Native.Nat.{ℕ, ◌+◌, ◌-◌, ◌≤◌, ◌<◌}
use native.Mathlib.Omega.{arith}
use lib.Dec.{eqb, leb}
use borrow.Author.Tests.{ne_eqb, eqb-true, eqb-false}
use Rattle.pattern.specs.declared.Class.TheVariants.{Reserved}
use Rattle.pattern.specs.Bytes.{byte_class}
use Rattle.pattern.specs.Machine.{starts, starts_by}

pub reserved : (k b x : ℕ) (v : Bool) → byte_class b ≡ Reserved → b ≡ x → starts_by Reserved k x ≡ v → v ≡ starts k b
reserved k b x v h e g = sym (ap (λ (y : _). starts_by y k b) h ∙ (ap (λ (y : ℕ). starts_by Reserved k y) e ∙ g))

pub others : (k b : ℕ) → byte_class b ≡ Reserved → (b ≡ 92 → ⊥) → (b ≡ 46 → ⊥) → (b ≡ 126 → ⊥) → (b ≡ 91 → ⊥) → (b ≡ 40 → ⊥) → (b ≡ 123 → ⊥) → false ≡ starts k b
others k b h p q r s t u = sym (ap (λ (y : _). starts_by y k b) h ∙ rw (ne_eqb b 92 p, ne_eqb b 46 q, ne_eqb b 126 r, ne_eqb b 91 s, ne_eqb b 40 t, ne_eqb b 123 u))

-- what a test told of a byte that was read
pub seen : {A : Type 0} (f : ℕ → A) {b x : ℕ} {r v : A} → b ≡ x → r ≡ f b → r ≡ v → f x ≡ v
seen f e g h = ap f (sym e) ∙ (sym g ∙ h)

pub unlike : {b x : ℕ} (y : ℕ) → b ≡ x → (b ≡ y → ⊥) → eqb x y ≡ false
unlike {b} {x} y e h = ne_eqb x y (λ g. h (e ∙ g))

pub is_byte : {b x y : ℕ} → b ≡ x → eqb b y ≡ true → x ≡ y
is_byte {b} {x} {y} e h = sym e ∙ eqb-true b y h

-- the byte that closes a bracket, or not
pub closes : {b x v y : ℕ} → b ≡ x → v ≡ y → eqb b v ≡ true → x ≡ y
closes {b} {x} {v} {y} e g h = sym e ∙ (eqb-true b v h ∙ g)

pub closes_not : {b x v y : ℕ} → b ≡ x → v ≡ y → eqb b v ≡ false → x ≡ y → ⊥
closes_not {b} {x} {v} {y} e g h i = eqb-false b v h (e ∙ (i ∙ sym g))

pub ordered : {a b x y : ℕ} {v : Bool} → a ≡ x → b ≡ y → leb a b ≡ v → leb x y ≡ v
ordered e f h = rw (e, f) at h

-- the digit of a variable
module _ {b x : ℕ} (e : b ≡ x) where
  pub above : 49 ≤ b → 49 ≤ x
  above h = omega arith

  pub over : {k v : ℕ} → v ≡ b - 48 → k < v → 48 + k < x
  over g h = omega arith

  pub under : {k v : ℕ} → v ≡ b - 48 → v ≤ k → x ≤ 48 + k
  under g h = omega arith
