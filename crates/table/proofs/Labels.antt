-- What the rule for labels says of each kind.
use mathlib.Core.Path.{◌≡◌, refl}
use mathlib.Core.Bool.{Bool}
use Prim.Native.Nat.{ℕ, zero, suc, ◌≤◌}
use native.Mathlib.Omega.{arith}
use Rattle.basics.specs.Decides.{Decides, decides_as}
use Rattle.marks.specs.Labels.{RightLabel, byte, opens, closes}
use Rattle.table.specs.Check.{RightBytes}

bytes_of : (K k a : ℕ) → k ≡ 0 → RightLabel K k a → RightBytes a
bytes_of K k a e (byte s o) = record { small = s; order = o }
bytes_of K k a e (opens l u) = absurd (omega arith)
bytes_of K k a e (closes l u) = absurd (omega arith)

pub a_byte : (K k a : ℕ) (b : Bool) → k ≡ 0 → Decides (RightBytes a) b → Decides (RightLabel K k a) b
a_byte K k a b e d = decides_as (λ p. rw e (byte p.small p.order)) (bytes_of K k a e) d

pub known_kind : (K k a : ℕ) → RightLabel K k a → k ≤ 2
known_kind K k a (byte s o) = omega arith
known_kind K k a (opens l u) = omega arith
known_kind K k a (closes l u) = omega arith

pub variable : (K k a : ℕ) → (k ≡ 0 → ⊥) → RightLabel K k a → (1 ≤ a) × (a ≤ K)
variable K k a f (byte s o) = absurd (f (omega arith))
variable K k a f (opens l u) = (l, u)
variable K k a f (closes l u) = (l, u)

marker : (K k a : ℕ) → (k ≡ 0 → ⊥) → k ≤ 2 → 1 ≤ a → a ≤ K → RightLabel K k a
marker K zero a f h l u = absurd (f refl)
marker K (suc zero) a f h l u = opens l u
marker K (suc (suc zero)) a f h l u = closes l u
marker K (suc (suc (suc k))) a f h l u = absurd (omega arith)

pub a_marker : (K k a : ℕ) (b : Bool) → (k ≡ 0 → ⊥) → k ≤ 2 → 1 ≤ a → Decides (a ≤ K) b → Decides (RightLabel K k a) b
a_marker K k a b f h l d = decides_as (λ u. marker K k a f h l u) (λ p. (variable K k a f p).1) d
