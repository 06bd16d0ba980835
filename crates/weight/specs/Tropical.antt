-- The tropical semiring: least as sum, plus as product, cut off at any cap. Its sum is a lower bound, and is attained.
--
-- least cap       the semiring of numbers up to cap, which stands for "none"
-- tropical        the one of weights, whose cap is the mark
use Rattle.std.specs.Prelude.{◌≡◌, ℕ, ◌+◌, min, ◌≤◌, ◌<◌}
use Rattle.std.proofs.Common.{◌∙◌}
use mathlib.Core.List.{List, [], ◌∷◌}
use native.Mathlib.Omega.{arith}
use Rattle.std.proofs.Math.Decide.{dec_le}
use Rattle.basics.specs.Members.{In, first, later}
use Rattle.weight.specs.Weight.{mark, lighter_to, joint_to}
use Rattle.weight.specs.Semiring.{Semi, sum}

module _ (cap : ℕ) where
  least_assoc : (a b c : ℕ) → min (min a b) c ≡ min a (min b c)
  least_assoc a b c = omega arith

  cut_left : (x c : ℕ) → min cap (min (min cap x) c) ≡ min cap (min x c)
  cut_left x c = omega arith

  cut_right : (a x : ℕ) → min cap (min a (min cap x)) ≡ min cap (min a x)
  cut_right a x = omega arith

  cut_sum : (a x : ℕ) → min cap (a + min cap x) ≡ min cap (a + x)
  cut_sum a x = omega arith

  sum_least : (a b c : ℕ) → a + min b c ≡ min (a + b) (a + c)
  sum_least a b c = omega arith

  pub lighter_comm : (a b : ℕ) → lighter_to cap a b ≡ lighter_to cap b a
  unfolding lighter_to
  lighter_comm a b = omega arith

  pub lighter_assoc : (a b c : ℕ) → lighter_to cap (lighter_to cap a b) c ≡ lighter_to cap a (lighter_to cap b c)
  unfolding lighter_to
  lighter_assoc a b c = rw (cut_left (min a b) c, cut_right a (min b c), least_assoc a b c)

  pub cap_cap : lighter_to cap cap cap ≡ cap
  unfolding lighter_to
  cap_cap = omega arith

  pub cap_lighter : (a b : ℕ) → lighter_to cap cap (lighter_to cap a b) ≡ lighter_to cap a b
  unfolding lighter_to
  cap_lighter a b = omega arith

  pub joint_comm : (a b : ℕ) → joint_to cap a b ≡ joint_to cap b a
  unfolding joint_to
  joint_comm a b = omega arith

  pub joint_assoc : (a b c : ℕ) → joint_to cap (joint_to cap a b) c ≡ joint_to cap a (joint_to cap b c)
  unfolding joint_to
  joint_assoc a b c = omega arith

  pub joint_cap : (a : ℕ) → joint_to cap a cap ≡ cap
  unfolding joint_to
  joint_cap a = omega arith

  pub joint_lighter : (a b c : ℕ) → joint_to cap a (lighter_to cap b c) ≡ lighter_to cap (joint_to cap a b) (joint_to cap a c)
  unfolding joint_to lighter_to
  joint_lighter a b c = rw (cut_sum a (min b c), sum_least a b c, cut_left (a + b) (min cap (a + c)), cut_right (a + b) (a + c))

  pub zero_joint : (a b : ℕ) → joint_to cap 0 (joint_to cap a b) ≡ joint_to cap a b
  unfolding joint_to
  zero_joint a b = omega arith

  abbrev pub least : Semi
  least =
      record {
        W = ℕ;
        plus = lighter_to cap;
        times = joint_to cap;
        zero = cap;
        one = 0;
        plus_comm = lighter_comm;
        plus_assoc = lighter_assoc;
        zero_zero = cap_cap;
        zero_plus = cap_lighter;
        times_comm = joint_comm;
        times_assoc = joint_assoc;
        times_zero = joint_cap;
        times_plus = joint_lighter;
        one_times = zero_joint;
      }

  pub sum_cap : {A : Type 0} (f : A → ℕ) (xs : List A) → sum least f xs ≤ cap
  unfolding sum lighter_to
  sum_cap f [] = omega arith
  sum_cap f (x ∷ xs) = omega arith

  pub sum_le : {A : Type 0} (f : A → ℕ) {x : A} {xs : List A} → In x xs → sum least f xs ≤ f x
  unfolding sum lighter_to
  sum_le f (first {l = l}) = omega arith
  sum_le f (later {l = l} m) = let h = sum_le f m in omega arith

  pub sum_at : {A : Type 0} (f : A → ℕ) (xs : List A) → sum least f xs < cap → (x : A) × In x xs × (f x ≡ sum least f xs)
  unfolding sum lighter_to
  sum_at f [] h = absurd (omega arith)
  sum_at f (x ∷ xs) h = go (dec_le (f x) (sum least f xs)) (sum_at f xs)
    where
      go : Dec (f x ≤ sum least f xs) → (sum least f xs < cap → (y : _) × In y xs × (f y ≡ sum least f xs)) → (y : _) × In y (x ∷ xs) × (f y ≡ sum least f (x ∷ xs))
      go (yes k) ih = (x, first, omega arith)
      go (no k) ih = let t = ih (omega arith) in (t.0, later t.1, t.2 ∙ (omega arith))

abbrev pub tropical : Semi
tropical = least mark
