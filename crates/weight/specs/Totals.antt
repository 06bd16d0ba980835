-- Total over all runs against the weight to go, for any semiring, any step function and any price of (configuration, row).
--
-- weight          what a run from a configuration weighs: zero where a row of it cannot be taken
-- total           the sum over all runs of m rows
-- togo            the weight to go, with m rows left: computed from the end
-- total_togo      THE THEOREM: they are equal
-- solved          what solves the equation of the weight to go is the weight to go
use Rattle.std.specs.Prelude.{◌≡◌}
use Rattle.std.proofs.Math.Path.{refl, sym, ap, ap₂, fun_ext}
use Rattle.std.proofs.Common.{◌∙◌, arith}
use mathlib.Core.List.{List, [], ◌∷◌, map}
use Rattle.std.proofs.Math.Option.{Option, none, some}
use Prim.Native.Nat.{ℕ, zero, suc}
use Rattle.basics.specs.Lists.{All, conses, lists}
use Rattle.weight.specs.Semiring.{Semi, sum}
use Rattle.weight.specs.Sums.{sum_append, sum_map, sum_ext, sum_zero, times_sum, zero_sum, sum_ext_all}

module _ (S : Semi) {C R : Type 0} (step : C → R → Option C) (price : C → R → S.W) (stop : C → S.W) where
  -- a row's price before what follows: zero where the row cannot be taken
  unfoldable pub after : C → R → (C → S.W) → Option C → S.W
  after c r f none = S.zero
  after c r f (some d) = S.times (price c r) (f d)

  -- what a run from c weighs: zero where a row of it cannot be taken
  unfoldable pub weight : List R → C → S.W
  weight [] c = stop c
  weight (r ∷ rs) c = after c r (weight rs) (step c r)

  -- the weight to go, with m rows left
  unfoldable pub togo : List R → ℕ → C → S.W
  togo rs zero c = stop c
  togo rs (suc m) c = sum S (λ r. after c r (togo rs m) (step c r)) rs

  -- the total of all runs of m rows
  unfoldable pub total : List R → ℕ → C → S.W
  total rs m c = sum S (λ l. weight l c) (lists m rs)

  -- one row drawn before a sum
  after_sum : (c : C) (r : R) (ls : List (List R)) (o : Option C) → sum S (λ l. after c r (weight l) o) ls ≡ after c r (λ d. sum S (λ l. weight l d) ls) o
  unfolding after
  after_sum c r ls none = sum_zero S ls
  after_sum c r ls (some d) = sym (times_sum S (price c r) (λ l. weight l d) ls)

  sum_conses : (rs : List R) (ls : List (List R)) (c : C) → sum S (λ l. weight l c) (conses rs ls) ≡ sum S (λ r. after c r (λ d. sum S (λ l. weight l d) ls) (step c r)) rs
  unfolding sum conses weight
  sum_conses [] ls c = refl
  sum_conses (r ∷ rs) ls c =
      sum_append S (λ l. weight l c) (map (λ l. r ∷ l) ls) (conses rs ls)
      ∙ ap₂ S.plus
      (sum_map S (λ l. weight l c) (λ l. r ∷ l) ls ∙ after_sum c r ls (step c r))
      (sum_conses rs ls c)

  -- THE THEOREM: the total over all runs is the weight to go
  pub total_togo : ((c : C) → S.plus S.zero (stop c) ≡ stop c) → (rs : List R) (m : ℕ) (c : C) → total rs m c ≡ togo rs m c
  unfolding total togo lists sum weight
  total_togo normal rs zero c = S.plus_comm (stop c) S.zero ∙ normal c
  total_togo normal rs (suc m) c =
      sum_conses rs (lists m rs) c
      ∙ sum_ext S _ _ rs (λ r. ap (λ (f : C → S.W). after c r f (step c r)) (fun_ext (total_togo normal rs m)))

-- What solves the equation of the weight to go is the weight to go: for configurations with a number that falls by one at each step.
module _ (S : Semi) {C R : Type 0} (step : C → R → Option C) (price : C → R → S.W) (stop : C → S.W) (μ : C → ℕ) (Fine : R → Type 0) (Good : C → Type 0)
    (falls : (c : C) (r : R) (d : C) → step c r ≡ some d → μ c ≡ suc (μ d))
    (keeps : (c : C) (r : R) (d : C) → Good c → Fine r → step c r ≡ some d → Good d)
    (normal : (c : C) → S.plus S.zero (stop c) ≡ stop c)
    (early : (c : C) (k : ℕ) → μ c ≡ suc k → stop c ≡ S.zero)
    (rs : List R) (fine : All Fine rs) (F : C → S.W)
    (solves : (c : C) → Good c → F c ≡ S.plus (stop c) (sum S (λ r. after S step price stop c r F (step c r)) rs)) where
  none_left : (c : C) (r : R) → μ c ≡ zero → (o : Option C) → step c r ≡ o → after S step price stop c r F o ≡ S.zero
  unfolding after
  none_left c r z none e = refl
  none_left c r z (some d) e = let h : zero ≡ suc (μ d) = sym z ∙ falls c r d e in absurd (omega arith)

  one_step : (m : ℕ) (c : C) (r : R) → μ c ≡ suc m → Good c → Fine r → ((d : C) → μ d ≡ m → Good d → F d ≡ togo S step price stop rs m d) → (o : Option C) → step c r ≡ o → after S step price stop c r F o ≡ after S step price stop c r (togo S step price stop rs m) o
  unfolding after
  one_step m c r z g f ih none e = refl
  one_step m c r z g f ih (some d) e = ap (S.times (price c r)) (ih d (let h : μ c ≡ suc (μ d) = falls c r d e in omega arith) (keeps c r d g f e))

  pub solved : (m : ℕ) (c : C) → μ c ≡ m → Good c → F c ≡ togo S step price stop rs m c
  unfolding togo
  solved zero c z g =
      solves c g
      ∙ ap (S.plus (stop c)) (sum_ext S _ _ rs (λ r. none_left c r z (step c r) refl) ∙ sum_zero S rs)
      ∙ S.plus_comm (stop c) S.zero
      ∙ normal c
  solved (suc m) c z g =
      solves c g
      ∙ ap₂ S.plus (early c m z) (sum_ext_all S Fine _ _ rs fine (λ r f. one_step m c r z g f (solved m) (step c r) refl))
      ∙ zero_sum S _ rs
