-- Lists of numbers and lists of lists.
--
-- below n         the numbers below n, in their order
-- conses rs ls    each of rs before each of ls
-- lists m rs      all lists of m elements of rs, each as often as its elements stand in rs
-- pairs xs ys     all pairs of an element of xs and one of ys
-- All P xs        P holds of each element of xs
-- all_map         what follows from P for each element follows for all
-- get_d_inside     below a list's length it does not matter what stands past its end
-- equal xs ys     the test that two lists of numbers are the same
use Rattle.std.specs.Prelude.{◌≡◌, refl, Bool, true, false, ◌&&◌, List, [], ◌∷◌, ◌++◌, map, ℕ, zero, suc, ◌<◌, eqb, length, get_or}
use Rattle.std.proofs.Common.{ap₂, arith, eq-eqb, eqb-true}
use Rattle.std.proofs.lemmas.Bool.{false≢true}
use Rattle.basics.specs.Every.{and_true}

unfoldable pub from : ℕ → ℕ → List ℕ
from i zero = []
from i (suc n) = i ∷ from (suc i) n

abbrev pub below : ℕ → List ℕ
below n = from 0 n

unfoldable pub conses : {R : Type 0} → List R → List (List R) → List (List R)
conses [] ls = []
conses (r ∷ rs) ls = map (λ l. r ∷ l) ls ++ conses rs ls

unfoldable pub lists : {R : Type 0} → ℕ → List R → List (List R)
lists zero rs = [] ∷ []
lists (suc m) rs = conses rs (lists m rs)

unfoldable pub pairs : {A B : Type 0} → List A → List B → List (A × B)
pairs [] ys = []
pairs (x ∷ xs) ys = map (λ y. (x, y)) ys ++ pairs xs ys

abbrev pub All : {R : Type 0} → (R → Type 0) → List R → Type 0
All P [] = Unit {0}
All P (r ∷ rs) = P r × All P rs

pub all_map : {R : Type 0} {P Q : R → Type 0} → ((r : R) → P r → Q r) → (xs : List R) → All P xs → All Q xs
all_map f [] h = tt
all_map f (x ∷ xs) h = (f x h.0, all_map f xs h.1)

pub get_d_inside : {R : Type 0} (xs : List R) (i : ℕ) (d e : R) → i < length xs → get_or xs i d ≡ get_or xs i e
get_d_inside [] i d e h = absurd (omega arith)
get_d_inside (x ∷ xs) zero d e h = refl
get_d_inside (x ∷ xs) (suc i) d e h = get_d_inside xs i d e (omega arith)

abbrev pub equal : List ℕ → List ℕ → Bool
equal [] [] = true
equal [] (y ∷ ys) = false
equal (x ∷ xs) [] = false
equal (x ∷ xs) (y ∷ ys) = eqb x y && equal xs ys

pub equal_true : (xs ys : List ℕ) → equal xs ys ≡ true → xs ≡ ys
equal_true [] [] e = refl
equal_true [] (y ∷ ys) e = absurd (false≢true e)
equal_true (x ∷ xs) [] e = absurd (false≢true e)
equal_true (x ∷ xs) (y ∷ ys) e = let p = and_true (eqb x y) (equal xs ys) e in ap₂ ◌∷◌ (eqb-true x y p.0) (equal_true xs ys p.1)

pub equal_refl : (xs ys : List ℕ) → xs ≡ ys → equal xs ys ≡ true
equal_refl xs ys e = rw e (self ys)
  where
    self : (ys : List ℕ) → equal ys ys ≡ true
    self [] = refl
    self (y ∷ ys) = rw (eq-eqb y y refl) (self ys)
