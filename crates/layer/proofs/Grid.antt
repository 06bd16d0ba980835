-- A cell of a layer, read and written.
use mathlib.Core.Path.{◌≡◌, sym, ap, ap₂, ◌∙◌}
use mathlib.Core.List.{List, [], ◌∷◌, ◌++◌}
use Prim.Native.Nat.{ℕ, ◌+◌, ◌*◌, ◌≤◌, ◌<◌, min}
use native.Mathlib.Omega.{arith}
use native.Mathlib.Decide.{dec_lt}
use lib.ListN.{length, set}
use lib.Seq.{get_or-set_same, get_or-set_other}
use Rattle.weight.specs.Weight.{mark, lighter_to, joint_to}
use Rattle.weight.specs.Semiring.{sum}
use Rattle.weight.specs.Sums.{sum_append, zero_sum}
use Rattle.weight.specs.Tropical.{least, lighter_assoc, lighter_comm}
use Rattle.togo.specs.Price.{base, cap}
use Rattle.layer.specs.declared.cells.Layer.{Layer}
use Rattle.layer.specs.Layer.{held, cells}
use Rattle.layer.specs.Parts.{Written, Taken}

pub cell_low : (l : Layer) (q u : ℕ) → cells l q u ≤ cap
unfolding cells
cell_low l q u = least_low (held l (q * 27 + u))
  where
    least_low : (x : ℕ) → min cap x ≤ cap
    least_low x = omega arith

pub lighter_cap : (x : ℕ) → x ≤ cap → lighter_to cap x cap ≡ x
unfolding lighter_to
lighter_cap x h = omega arith

pub apart : (q s w u : ℕ) → w < 27 → u < 27 → (q ≡ s → w ≡ u → ⊥) → q * 27 + w ≡ s * 27 + u → ⊥
apart q s w u a b d e = elim (dec_lt q s) [ yes h ↦ omega arith | no h ↦ elim (dec_lt s q) [ yes k ↦ omega arith | no k ↦ d (omega arith) (omega arith) ] ]

-- what the code computes from two cells, cut off at "no run"
cut_twice : (x y : ℕ) → min cap (lighter_to cap x y) ≡ lighter_to cap x y
unfolding lighter_to
cut_twice x y = omega arith

cut_lighter : (x y : ℕ) → lighter_to cap x y ≡ lighter_to cap (min cap x) y
unfolding lighter_to
cut_lighter x y = omega arith

cut_joint : (p x : ℕ) → joint_to cap p x ≡ joint_to cap p (min cap x)
unfolding joint_to
cut_joint p x = omega arith

cut : (a b p x y : ℕ) → x ≡ joint_to cap p b → y ≡ lighter_to cap a x → min cap y ≡ lighter_to cap (min cap a) (joint_to cap p (min cap b))
cut a b p x y ex ey = ap (min cap) ey ∙ cut_twice a x ∙ cut_lighter a x ∙ ap (lighter_to cap (min cap a)) (ex ∙ cut_joint p b)

pub written_set : (l : Layer) (here w k x : ℕ) → here < length l.weights → here < length l.keys → w * base + k ≡ x → Written x here l (record { weights = set l.weights here w; keys = set l.keys here k })
unfolding held
written_set l here w k x h g e =
    record {
      cell = rw (get_or-set_same l.weights here w 0 h, get_or-set_same l.keys here k 0 g) e;
      others = λ c d. rw (get_or-set_other l.weights here c w 0 d, get_or-set_other l.keys here c k 0 d);
    }

-- what is written is the lighter of what was there and of x
pub taken_written : (new last : Layer) (here near far v x : ℕ) → near ≡ held new here → far ≡ x → v ≡ lighter_to cap near far → Written v here new last → Taken x here new last
taken_written new last here near far v x e f g w = record { cell = w.cell ∙ g ∙ ap₂ (lighter_to cap) e f; others = w.others }

module _ (new last : Layer) (q u x : ℕ) (t : Taken x (q * 27 + u) new last) where
  pub taken_other : u < 27 → (s v : ℕ) → v < 27 → (s ≡ q → v ≡ u → ⊥) → cells last s v ≡ cells new s v
  unfolding cells
  taken_other hu s v hv d = rw (t.others (s * 27 + v) (apart s q v u hv hu d))

  -- what came is cell (s, v) of a layer, with the price p
  pub taken_same : (old : Layer) (s v p : ℕ) → x ≡ joint_to cap p (held old (s * 27 + v)) → cells last q u ≡ lighter_to cap (cells new q u) (joint_to cap p (cells old s v))
  unfolding cells
  taken_same old s v p e = cut _ _ p x _ e t.cell

-- a cell whose weight is the mark is none, and brings nothing
pub dead : (l : Layer) (q u w k : ℕ) → w * base + k ≡ held l (q * 27 + u) → w ≡ mark → cells l q u ≡ cap
unfolding cells
dead l q u w k e m = ap (min cap) (sym e) ∙ over w m
  where
    over : (w : ℕ) → w ≡ mark → min cap (w * base + k) ≡ cap
    over w m = omega arith

-- a sum over one row more
pub sum_snoc : {A : Type 0} (f : A → ℕ) (xs : List A) (x : A) → sum (least cap) f (xs ++ (x ∷ [])) ≡ lighter_to cap (sum (least cap) f xs) (f x)
unfolding sum
sum_snoc f xs x =
    sum_append (least cap) f xs (x ∷ [])
    ∙ ap (lighter_to cap (sum (least cap) f xs)) (lighter_comm cap (f x) cap)
    ∙ sym (lighter_assoc cap (sum (least cap) f xs) cap (f x))
    ∙ ap (λ (z : ℕ). lighter_to cap z (f x)) (lighter_comm cap (sum (least cap) f xs) cap ∙ zero_sum (least cap) f xs)
