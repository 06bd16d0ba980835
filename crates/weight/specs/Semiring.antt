-- MEANING. A commutative semiring, and a sum over a list in it. Definitions only.
--
-- Semi            two operations, plus (of alternatives) and times (along a run), with their laws. The unit laws are asked of
--                 sums and products only, so that numbers cut off at a cap are a semiring on all of ℕ, with no guard.
-- sum S f xs      the sum of f over the elements of xs
use Rattle.std.specs.Prelude.{◌≡◌, List, [], ◌∷◌}

pub record Semi : Type 1 where
  pub W : Type 0
  pub plus : W → W → W
  pub times : W → W → W
  pub zero : W
  pub one : W
  pub plus_comm : (a b : W) → plus a b ≡ plus b a
  pub plus_assoc : (a b c : W) → plus (plus a b) c ≡ plus a (plus b c)
  pub zero_zero : plus zero zero ≡ zero
  pub zero_plus : (a b : W) → plus zero (plus a b) ≡ plus a b
  pub times_comm : (a b : W) → times a b ≡ times b a
  pub times_assoc : (a b c : W) → times (times a b) c ≡ times a (times b c)
  pub times_zero : (a : W) → times a zero ≡ zero
  pub times_plus : (a b c : W) → times a (plus b c) ≡ plus (times a b) (times a c)
  pub one_times : (a b : W) → times one (times a b) ≡ times a b

unfoldable pub sum : (S : Semi) {A : Type 0} → (A → S.W) → List A → S.W
sum S f [] = S.zero
sum S f (x ∷ xs) = S.plus (f x) (sum S f xs)
