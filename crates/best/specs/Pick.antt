-- The least of cost × base + tag over a list: the least cost of all tags, and among the tags of that cost the least.
--
-- cost_if          what x costs, if it fits
-- picked          the least of cost × base + tag over those that fit
-- cost_of k        the least cost of one tag
-- Picked w k      no tag that is ok is lighter than k, whose cost is w, and none of that cost is less
-- picked_weight   the weight part of picked is the least cost
-- picked_best     its two parts are a cost and a tag that are picked
-- picked_none     where it is the cap, every tag that is ok costs the mark
use Rattle.std.specs.Prelude.{◌≡◌, Bool, eqb}
use Rattle.std.proofs.Math.Path.{refl}
use Rattle.std.proofs.Common.{◌∙◌, eq-eqb, ne_eqb}
use Rattle.std.proofs.Math.Bool.{true, false, cond}
use mathlib.Core.List.{List, [], ◌∷◌}
use Prim.Native.Nat.{ℕ, ◌+◌, ◌*◌, ◌≤◌, ◌<◌, min}
use native.Mathlib.Omega.{arith}
use Rattle.std.proofs.Math.Decide.{dec_lt, ℕ_discrete}
use Rattle.basics.specs.Members.{In, first, later}
use Rattle.weight.specs.Weight.{mark, lighter_to}
use Rattle.weight.specs.Semiring.{sum}
use Rattle.weight.specs.Tropical.{least, tropical, sum_cap, sum_le, sum_at}
use Rattle.togo.specs.Price.{base, cap}

unfoldable pub picked : {X : Type 0} → (X → ℕ) → (X → ℕ) → List X → ℕ
picked cost tag xs = sum (least cap) (λ x. min cap (cost x * base + tag x)) xs

unfoldable pub cost_if : {X : Type 0} → (X → Bool) → (X → ℕ) → X → ℕ
cost_if fits cost x = cond (fits x) (cost x) mark

unfoldable pub cost_of : {X : Type 0} → (X → ℕ) → (X → ℕ) → List X → ℕ → ℕ
cost_of cost tag xs k = sum tropical (λ x. cond (eqb (tag x) k) (cost x) mark) xs

pub record Picked {X : Type 0} (cost tag : X → ℕ) (xs : List X) (ok : ℕ → Type 0) (w k : ℕ) : Type 0 where
  pub real : w < mark
  pub may : ok k
  pub own : cost_of cost tag xs k ≡ w
  pub lightest : (j : ℕ) → ok j → w ≤ cost_of cost tag xs j
  pub first : (j : ℕ) → ok j → cost_of cost tag xs j ≡ w → k ≤ j

one_more : (c t p w : ℕ) → (c < mark → t < base) → w * base ≤ p → p < w * base + base → Dec (c < mark)
    → (min mark (min c w) * base ≤ min cap (min (min cap (c * base + t)) p)) × (min cap (min (min cap (c * base + t)) p) < min mark (min c w) * base + base)
one_more c t p w h l g (yes k) = let s = h k in (omega arith, omega arith)
one_more c t p w h l g (no k) = (omega arith, omega arith)

module _ {X : Type 0} (cost tag : X → ℕ) where
  between : (xs : List X) → ((x : X) → In x xs → cost x < mark → tag x < base) → (sum tropical cost xs * base ≤ picked cost tag xs) × (picked cost tag xs < sum tropical cost xs * base + base)
  unfolding picked sum lighter_to
  between [] small = (omega arith, omega arith)
  between (x ∷ xs) small =
      let ih = between xs (λ y i. small y (later i)) in
      one_more (cost x) (tag x) (picked cost tag xs) (sum tropical cost xs) (small x first) ih.0 ih.1 (dec_lt (cost x) mark)

  pub picked_weight : (xs : List X) → ((x : X) → In x xs → cost x < mark → tag x < base) → (w k : ℕ) → k < base → picked cost tag xs ≡ w * base + k → sum tropical cost xs ≡ w
  picked_weight xs small w k h e = let b = between xs small in omega arith

module _ {X : Type 0} (cost tag : X → ℕ) (xs : List X) (fits : X → Bool) (ok : ℕ → Type 0) where
  if_fits : (x : X) → cost_if fits cost x < mark → (fits x ≡ true) × (cost_if fits cost x ≡ cost x)
  unfolding cost_if
  if_fits x h = go (fits x) refl h
    where
      go : (t : Bool) → fits x ≡ t → cond t (cost x) mark < mark → (fits x ≡ true) × (cond (fits x) (cost x) mark ≡ cost x)
      go true e h = (e, rw e)
      go false e h = absurd (omega arith)

  of_le : (x : X) → In x xs → cost_of cost tag xs (tag x) ≤ cost x
  unfolding cost_of
  of_le x m = let h : cond (eqb (tag x) (tag x)) (cost x) mark ≡ cost x = rw (eq-eqb (tag x) (tag x) refl) in omega (arith, sum_le mark (λ (y : X). cond (eqb (tag y) (tag x)) (cost y) mark) m)

  of_at : (k : ℕ) → cost_of cost tag xs k < mark → (x : X) × In x xs × (tag x ≡ k) × (cost x ≡ cost_of cost tag xs k)
  unfolding cost_of
  of_at k h = let t = sum_at mark (λ (y : X). cond (eqb (tag y) k) (cost y) mark) xs h in go t.0 t.1 t.2 (ℕ_discrete (tag t.0) k)
    where
      go : (x : X) → In x xs → cond (eqb (tag x) k) (cost x) mark ≡ cost_of cost tag xs k → Dec (tag x ≡ k) → (x : X) × In x xs × (tag x ≡ k) × (cost x ≡ cost_of cost tag xs k)
      go x m e (yes q) = (x, m, q, (rw (eq-eqb _ _ q) at e))
      go x m e (no q) = let g : mark ≡ cost_of cost tag xs k = rw (ne_eqb _ _ q) at e in absurd (omega arith)

  abbrev got : ℕ
  got = picked (cost_if fits cost) tag xs

  module _ (small : (x : X) → In x xs → cost x < mark → tag x < base)
      (to : (x : X) → In x xs → cost x < mark → fits x ≡ true → ok (tag x)) (from : (x : X) → In x xs → cost x < mark → ok (tag x) → fits x ≡ true) where
    picked_at : got < cap → (x : X) × In x xs × (fits x ≡ true) × (cost x * base + tag x ≡ got)
    unfolding picked
    picked_at h =
        let t = sum_at cap (λ (x : X). min cap (cost_if fits cost x * base + tag x)) xs h in
        let e : cost_if fits cost t.0 * base + tag t.0 ≡ got = omega (arith, t.2) in
        let g = if_fits t.0 (omega arith) in
        (t.0, t.1, g.0, (rw g.1 at e))

    lower : (j : ℕ) → ok j → cost_of cost tag xs j < mark → (got ≤ cost_of cost tag xs j * base + j) × (j < base)
    unfolding picked cost_if
    lower j o h =
        let t = of_at j h in
        let x = t.0 in
        let s : j < base = rw t.2 at (small x t.1 (omega (arith, t.3))) in
        let e : cond (fits x) (cost x) mark * base + tag x ≡ cost_of cost tag xs j * base + j = rw (from x t.1 (omega (arith, t.3)) (rw t.2 o), t.2, t.3) in
        let l = sum_le cap (λ (y : X). min cap (cost_if fits cost y * base + tag y)) t.1 in
        (omega arith, s)

    under : (w k j : ℕ) → got ≡ w * base + k → k < base → w < mark → ok j → (w ≤ cost_of cost tag xs j) × (cost_of cost tag xs j ≡ w → k ≤ j)
    under w k j e hk hw o = go (dec_lt (cost_of cost tag xs j) mark)
      where
        go : Dec (cost_of cost tag xs j < mark) → (w ≤ cost_of cost tag xs j) × (cost_of cost tag xs j ≡ w → k ≤ j)
        go (yes h) = let l = lower j o h in (omega arith, λ q. omega arith)
        go (no h) = (omega arith, λ q. omega arith)

    pub picked_best : (w k : ℕ) → w < mark → k < base → got ≡ w * base + k → Picked cost tag xs ok w k
    picked_best w k hw hk e =
        let t = picked_at (omega arith) in
        let x = t.0 in
        let f : cost x * base + tag x ≡ w * base + k = t.3 ∙ e in
        let s : tag x < base = small x t.1 (omega arith) in
        let ck : tag x ≡ k = omega arith in
        let o : ok k = rw ck at (to x t.1 (omega arith) t.2) in
        let up : cost_of cost tag xs k ≤ cost x = rw ck at (of_le x t.1) in
        let low = under w k k e hk hw o in
        record { real = hw; may = o; own = omega arith; lightest = λ j q. (under w k j e hk hw q).0; first = λ j q. (under w k j e hk hw q).1 }

    pub picked_none : cap ≤ got → (j : ℕ) → ok j → cost_of cost tag xs j ≡ mark
    unfolding cost_of
    picked_none e j o = go (dec_lt (cost_of cost tag xs j) mark) (sum_cap mark (λ (x : X). cond (eqb (tag x) j) (cost x) mark) xs)
      where
        go : Dec (cost_of cost tag xs j < mark) → cost_of cost tag xs j ≤ mark → cost_of cost tag xs j ≡ mark
        go (yes h) c = let l = lower j o h in absurd (omega arith)
        go (no h) c = omega arith
