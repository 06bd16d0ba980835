-- The laws of sums over lists, in any semiring: append, map, the order of two sums, distribution.
use Rattle.std.specs.Prelude.{◌≡◌}
use Rattle.std.proofs.Math.Path.{refl, sym, ap, ap₂}
use Rattle.std.proofs.Common.{◌∙◌}
use mathlib.Core.List.{List, [], ◌∷◌, ◌++◌, map}
use Rattle.basics.specs.Lists.{All, pairs}
use Rattle.weight.specs.Semiring.{Semi, sum}

module _ (S : Semi) where
  open S use {W, plus, times, zero, plus_comm, plus_assoc, zero_zero, zero_plus, times_zero, times_plus}

  pub zero_sum : {A : Type 0} (f : A → W) (xs : List A) → plus zero (sum S f xs) ≡ sum S f xs
  unfolding sum
  zero_sum f [] = zero_zero
  zero_sum f (x ∷ xs) = zero_plus (f x) (sum S f xs)

  pub sum_append : {A : Type 0} (f : A → W) (xs ys : List A) → sum S f (xs ++ ys) ≡ plus (sum S f xs) (sum S f ys)
  unfolding sum
  sum_append f [] ys = sym (zero_sum f ys)
  sum_append f (x ∷ xs) ys = ap (plus (f x)) (sum_append f xs ys) ∙ sym (plus_assoc (f x) (sum S f xs) (sum S f ys))

  pub sum_map : {A B : Type 0} (f : B → W) (g : A → B) (xs : List A) → sum S f (map g xs) ≡ sum S (λ x. f (g x)) xs
  unfolding sum
  sum_map f g [] = refl
  sum_map f g (x ∷ xs) = ap (plus (f (g x))) (sum_map f g xs)

  pub times_sum : {A : Type 0} (a : W) (f : A → W) (xs : List A) → times a (sum S f xs) ≡ sum S (λ x. times a (f x)) xs
  unfolding sum
  times_sum a f [] = times_zero a
  times_sum a f (x ∷ xs) = times_plus a (f x) (sum S f xs) ∙ ap (plus (times a (f x))) (times_sum a f xs)

  pub sum_zero : {A : Type 0} (xs : List A) → sum S (λ (x : A). zero) xs ≡ zero
  unfolding sum
  sum_zero [] = refl
  sum_zero (x ∷ xs) = ap (plus zero) (sum_zero xs) ∙ zero_zero

  pub sum_ext : {A : Type 0} (f g : A → W) (xs : List A) → ((x : A) → f x ≡ g x) → sum S f xs ≡ sum S g xs
  unfolding sum
  sum_ext f g [] h = refl
  sum_ext f g (x ∷ xs) h = ap₂ plus (h x) (sum_ext f g xs h)

  plus_swap : (a b c d : W) → plus (plus a b) (plus c d) ≡ plus (plus a c) (plus b d)
  plus_swap a b c d =
      plus_assoc a b (plus c d)
      ∙ ap (plus a) (sym (plus_assoc b c d) ∙ ap (λ (z : W). plus z d) (plus_comm b c) ∙ plus_assoc c b d)
      ∙ sym (plus_assoc a c (plus b d))

  pub sum_plus : {A : Type 0} (f g : A → W) (xs : List A) → sum S (λ x. plus (f x) (g x)) xs ≡ plus (sum S f xs) (sum S g xs)
  unfolding sum
  sum_plus f g [] = sym zero_zero
  sum_plus f g (x ∷ xs) =
      ap (plus (plus (f x) (g x))) (sum_plus f g xs)
      ∙ plus_swap (f x) (g x) (sum S f xs) (sum S g xs)

  -- the sum over one list of sums over another may be taken in either order
  pub sum_sum : {A B : Type 0} (f : A → B → W) (xs : List A) (ys : List B) → sum S (λ x. sum S (f x) ys) xs ≡ sum S (λ y. sum S (λ x. f x y) xs) ys
  unfolding sum
  sum_sum f [] ys = sym (sum_zero ys)
  sum_sum f (x ∷ xs) ys =
      ap (plus (sum S (f x) ys)) (sum_sum f xs ys)
      ∙ sym (sum_plus (f x) (λ y. sum S (λ x. f x y) xs) ys)

  pub sum_ext_all : {A : Type 0} (P : A → Type 0) (f g : A → W) (xs : List A) → All P xs → ((x : A) → P x → f x ≡ g x) → sum S f xs ≡ sum S g xs
  unfolding sum
  sum_ext_all P f g [] a h = refl
  sum_ext_all P f g (x ∷ xs) a h = ap₂ plus (h x a.0) (sum_ext_all P f g xs a.1 h)

  -- the sum over all pairs is the sum over the first of the sums over the second
  pub sum_pairs : {A B : Type 0} (f : A → B → W) (xs : List A) (ys : List B) → sum S (λ p. f p.0 p.1) (pairs xs ys) ≡ sum S (λ x. sum S (f x) ys) xs
  unfolding pairs sum
  sum_pairs f [] ys = refl
  sum_pairs f (x ∷ xs) ys =
      sum_append (λ p. f p.0 p.1) (map (λ y. (x, y)) ys) (pairs xs ys)
      ∙ ap₂ plus (sum_map (λ p. f p.0 p.1) (λ y. (x, y)) ys) (sum_pairs f xs ys)
