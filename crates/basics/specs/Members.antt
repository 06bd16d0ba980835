-- What stands in a list, and in the lists made of it.
--
-- In x xs         x stands in xs
-- all_in          what holds of all elements holds of one
-- in_lists        a list of elements of rs is one of all lists of its length
-- lists_in        one of all lists of m elements has m elements, each of rs
use Rattle.std.specs.Prelude.{◌≡◌, refl, ◌⊎◌, List, [], ◌∷◌, ◌++◌, map, ℕ, zero, suc, ◌+◌, ◌<◌, ◌≤◌, length}
use Rattle.std.proofs.Common.{ap, inl, inr, arith}
use Rattle.std.proofs.Math.Decide.{ℕ_discrete}
use Rattle.basics.specs.Lists.{from, below, conses, lists, pairs, All}

pub data In {A : Type 0} (x : A) : List A → Type 0 where
  first : {l : List A} → In x (x ∷ l)
  later : {y : A} {l : List A} → In x l → In x (y ∷ l)

pub none_in : {A : Type 0} {x : A} → In x [] → ⊥
none_in = elim [ ]

pub lone_in : {A : Type 0} {x y : A} → In x (y ∷ []) → x ≡ y
lone_in first = refl
lone_in (later m) = absurd (none_in m)

pub cons_in : {A : Type 0} {x y : A} {l : List A} → In x (y ∷ l) → (x ≡ y) ⊎ In x l
cons_in first = inl refl
cons_in (later h) = inr h

pub all_in : {A : Type 0} (P : A → Type 0) (x : A) (l : List A) → All P l → In x l → P x
all_in P x l h first = h.0
all_in P x l h (later {l = k} i) = all_in P x k h.1 i

pub in_append_left : {A : Type 0} (x : A) (l m : List A) → In x l → In x (l ++ m)
in_append_left x l m first = first
in_append_left x l m (later {l = k} h) = later (in_append_left x k m h)

pub in_append_right : {A : Type 0} (x : A) (l m : List A) → In x m → In x (l ++ m)
in_append_right x [] m h = h
in_append_right x (y ∷ l) m h = later (in_append_right x l m h)

pub in_map : {A B : Type 0} (f : A → B) (x : A) (l : List A) → In x l → In (f x) (map f l)
in_map f x l first = first
in_map f x l (later {l = k} h) = later (in_map f x k h)

pub append_in : {A : Type 0} (x : A) (l m : List A) → In x (l ++ m) → In x l ⊎ In x m
append_in x [] m h = inr h
append_in x (y ∷ l) m h = split h (append_in x l m)
  where
    split : {z : _} → In x (z ∷ (l ++ m)) → (In x (l ++ m) → In x l ⊎ In x m) → In x (z ∷ l) ⊎ In x m
    split first f = inl first
    split (later h) f = deeper (f h)
      where
        deeper : {z : _} → In x l ⊎ In x m → In x (z ∷ l) ⊎ In x m
        deeper (inl i) = inl (later i)
        deeper (inr i) = inr i

pub record Image {A B : Type 0} (f : A → B) (y : B) (l : List A) : Type 0 where
  pub what : A
  pub among : In what l
  pub is : y ≡ f what

pub map_in : {A B : Type 0} (f : A → B) (y : B) (l : List A) → In y (map f l) → Image f y l
map_in f y [] h = absurd (none_in h)
map_in f y (x ∷ l) h = split x h (map_in f y l)
  where
    split : (x : _) → In y (f x ∷ map f l) → (In y (map f l) → Image f y l) → Image f y (x ∷ l)
    split x h g = cases (f x) refl h
      where
        cases : (z : _) → z ≡ f x → In y (z ∷ map f l) → Image f y (x ∷ l)
        cases z e first = record { what = x; among = first; is = e }
        cases z e (later h) = let r = g h in record { what = r.what; among = later r.among; is = r.is }

-- each element of one list stands in another
abbrev pub AllIn : {A : Type 0} → List A → List A → Type 0
AllIn rs [] = Unit {0}
AllIn rs (r ∷ l) = In r rs × AllIn rs l

pub record Listed {A : Type 0} (rs : List A) (m : ℕ) (l : List A) : Type 0 where
  pub all : AllIn rs l
  pub long : length l ≡ m

pub in_conses : {A : Type 0} (r : A) (l : List A) (rs : List A) (ls : List (List A)) → In r rs → In l ls → In (r ∷ l) (conses rs ls)
unfolding conses
in_conses r l rs ls first h = in_append_left _ _ _ (in_map (λ l. r ∷ l) l ls h)
in_conses r l rs ls (later {y = y} {l = k} m) h = in_append_right _ (map (λ l. y ∷ l) ls) _ (in_conses r l k ls m h)

pub in_lists : {A : Type 0} (rs l : List A) → AllIn rs l → In l (lists (length l) rs)
unfolding lists
in_lists rs [] h = first
in_lists rs (r ∷ l) h = in_conses r l rs _ h.0 (in_lists rs l h.1)

conses_in : {A : Type 0} (rows rs : List A) (ls : List (List A)) (l : List A) (m : ℕ) → ((r : A) → In r rs → In r rows) → ((k : List A) → In k ls → Listed rows m k) → In l (conses rs ls) → Listed rows (suc m) l
unfolding conses
conses_in rows [] ls l m f g h = absurd (none_in h)
conses_in rows (r ∷ rs) ls l m f g h = go (append_in l (map (λ l. r ∷ l) ls) (conses rs ls) h) (conses_in rows rs ls l m (λ q i. f q (later i)) g)
  where
    go : In l (map (λ l. r ∷ l) ls) ⊎ In l (conses rs ls) → (In l (conses rs ls) → Listed rows (suc m) l) → Listed rows (suc m) l
    go (inl i) k = let s = map_in (λ l. r ∷ l) l ls i in let t = g s.what s.among in rw s.is (record { all = (f r first, t.all); long = ap suc t.long })
    go (inr i) k = k i

pub lists_in : {A : Type 0} (rs : List A) (m : ℕ) (l : List A) → In l (lists m rs) → Listed rs m l
unfolding lists
lists_in rs zero l h = rw (lone_in h) (record { all = tt; long = refl })
lists_in rs (suc m) l h = conses_in rs rs (lists m rs) l m (λ r i. i) (lists_in rs m) h

-- the numbers below n
from_in : (i n x : ℕ) → In x (from i n) → (i ≤ x) × (x < i + n)
unfolding from
from_in i zero x h = absurd (none_in h)
from_in i (suc n) x h = go (cons_in h) (from_in (suc i) n x)
  where
    go : (x ≡ i) ⊎ In x (from (suc i) n) → (In x (from (suc i) n) → (suc i ≤ x) × (x < suc i + n)) → (i ≤ x) × (x < i + suc n)
    go (inl e) f = (omega arith, omega arith)
    go (inr h) f = let p = f h in (omega arith, omega arith)

pub below_in : (n x : ℕ) → In x (below n) → x < n
below_in n x h = omega (arith, (from_in 0 n x h).1)

in_from : (i n x : ℕ) → i ≤ x → x < i + n → In x (from i n)
unfolding from
in_from i zero x l h = absurd (omega arith)
in_from i (suc n) x l h = go (ℕ_discrete i x) (λ g. in_from (suc i) n x g (omega arith))
  where
    go : Dec (i ≡ x) → (suc i ≤ x → In x (from (suc i) n)) → In x (i ∷ from (suc i) n)
    go (yes e) f = rw e first
    go (no e) f = later (f (omega arith))

pub in_below : (n x : ℕ) → x < n → In x (below n)
in_below n x h = in_from 0 n x (omega arith) (omega arith)

-- all pairs
pub in_pairs : {A B : Type 0} (x : A) (y : B) (xs : List A) (ys : List B) → In x xs → In y ys → In (x, y) (pairs xs ys)
unfolding pairs
in_pairs x y xs ys first h = in_append_left _ _ _ (in_map (λ y. (x, y)) y ys h)
in_pairs x y xs ys (later {y = z} {l = l} m) h = in_append_right _ (map (λ y. (z, y)) ys) _ (in_pairs x y l ys m h)

pub pairs_in : {A B : Type 0} (p : A × B) (xs : List A) (ys : List B) → In p (pairs xs ys) → In p.0 xs × In p.1 ys
unfolding pairs
pairs_in p [] ys h = absurd (none_in h)
pairs_in p (x ∷ xs) ys h = go (append_in p (map (λ y. (x, y)) ys) (pairs xs ys) h) (pairs_in p xs ys)
  where
    go : In p (map (λ y. (x, y)) ys) ⊎ In p (pairs xs ys) → (In p (pairs xs ys) → In p.0 xs × In p.1 ys) → In p.0 (x ∷ xs) × In p.1 ys
    go (inl i) k = let s = map_in (λ y. (x, y)) p ys i in rw s.is (first, s.among)
    go (inr i) k = let t = k i in (later t.0, t.1)
