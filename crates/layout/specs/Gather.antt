-- METHOD. Lists gathered number by number, and their laws.
--
-- gather f n          what f gives at each number below n, one after another
-- in_all              what holds of each element holds of all
-- gather_same         two that give the same below n are gathered to the same
use Rattle.std.specs.Prelude.{◌≡◌, ◌⊎◌, length}
use Rattle.std.proofs.Math.Path.{refl}
use Rattle.std.proofs.Common.{ap₂, inl, inr, arith}
use mathlib.Core.List.{List, [], ◌∷◌, ◌++◌, append_assoc}
use Prim.Native.Nat.{ℕ, zero, suc, ◌+◌, ◌*◌, ◌≤◌, ◌<◌}
use Rattle.std.proofs.Math.Decide.{ℕ_discrete}
use Rattle.std.proofs.Math.ListN.{get_or, length-append}
use Rattle.std.proofs.lemmas.List.{get_or_at}
use Rattle.basics.specs.Lists.{All}
use Rattle.basics.specs.Members.{In, first, later, none_in, append_in, in_append_left, in_append_right}

unfoldable pub gather : {R : Type 0} → (ℕ → List R) → ℕ → List R
gather f zero = []
gather f (suc n) = gather f n ++ f n

pub in_all : {R : Type 0} (P : R → Type 0) (rs : List R) → ((r : R) → In r rs → P r) → All P rs
in_all P [] f = tt
in_all P (r ∷ rs) f = (f r first, in_all P rs (λ s m. f s (later m)))

pub in_gather : {R : Type 0} (f : ℕ → List R) (n i : ℕ) (r : R) → i < n → In r (f i) → In r (gather f n)
unfolding gather
in_gather f zero i r h m = absurd (omega arith)
in_gather f (suc n) i r h m = go (ℕ_discrete i n) (λ g. in_gather f n i r g m)
  where
    go : Dec (i ≡ n) → (i < n → In r (gather f n)) → In r (gather f n ++ f n)
    go (yes e) k = in_append_right r (gather f n) (f n) (rw e at m)
    go (no e) k = in_append_left r (gather f n) (f n) (k (omega arith))

-- where an element of what is gathered comes from
pub record From {R : Type 0} (f : ℕ → List R) (n : ℕ) (r : R) : Type 0 where
  pub at : ℕ
  pub low : at < n
  pub stands : In r (f at)

pub gather_in : {R : Type 0} (f : ℕ → List R) (n : ℕ) (r : R) → In r (gather f n) → From f n r
unfolding gather
gather_in f zero r m = absurd (none_in m)
gather_in f (suc n) r m = go (append_in r (gather f n) (f n) m) (gather_in f n r)
  where
    go : In r (gather f n) ⊎ In r (f n) → (In r (gather f n) → From f n r) → From f (suc n) r
    go (inl i) k = let s = k i in record { at = s.at; low = omega (arith, s.low); stands = s.stands }
    go (inr i) k = record { at = n; low = omega arith; stands = i }

pub gather_same : {R : Type 0} (f g : ℕ → List R) (n : ℕ) → ((i : ℕ) → i < n → f i ≡ g i) → gather f n ≡ gather g n
unfolding gather
gather_same f g zero h = refl
gather_same f g (suc n) h = ap₂ ◌++◌ (gather_same f g n (λ i l. h i (omega arith))) (h n (omega arith))

-- at most k from each
pub gather_few : {R : Type 0} (f : ℕ → List R) (k n : ℕ) → ((i : ℕ) → length (f i) ≤ k) → length (gather f n) ≤ k * n
unfolding gather
gather_few f k zero h = omega arith
gather_few f k (suc n) h = omega (arith, length-append (gather f n) (f n), h n, gather_few f k n h, step k n)
  where
    step : (k n : ℕ) → k * suc n ≡ k * n + k
    step k n = omega arith

-- one from each
module _ (f : ℕ → ℕ) where
  pub ones_length : (n : ℕ) → length (gather (λ i. f i ∷ []) n) ≡ n
  unfolding gather
  ones_length zero = refl
  ones_length (suc n) = omega (arith, length-append (gather (λ i. f i ∷ []) n) (f n ∷ []), ones_length n)

  pub ones_at : (n i d : ℕ) (rest : List ℕ) → i < n → get_or (gather (λ i. f i ∷ []) n ++ rest) i d ≡ f i
  unfolding gather
  ones_at zero i d rest h = absurd (omega arith)
  ones_at (suc n) i d rest h = rw append_assoc (go (ℕ_discrete i n) (ones_at n i d (f n ∷ rest)))
    where
      go : Dec (i ≡ n) → (i < n → get_or (gather (λ i. f i ∷ []) n ++ f n ∷ rest) i d ≡ f i) → get_or (gather (λ i. f i ∷ []) n ++ f n ∷ rest) i d ≡ f i
      go (yes e) k = rw e (get_or_at (gather (λ i. f i ∷ []) n) (f n) rest d n (ones_length n))
      go (no e) k = k (omega arith)
