-- The arcs are the least totals charged between two steps of a tree, and along the steps of a word they add up to its weight.
--
-- any, occurs     a tree has a derivation, and each of its steps stands in one
-- canon A x w     the gaps of the word w by the arcs
-- tight           a derivation that charges no more than the arcs along its steps has the arcs as its gaps
-- tree_layout     an arc is the least total charged between
-- word_low, word_open, word_there   the least charge of the derivations with the steps w is the sum of the arcs along w
use Rattle.std.specs.Prelude.{◌≡◌, List, [], ◌∷◌, ◌++◌, Bool, true, false, cond, ℕ, zero, suc, ◌+◌, ◌≤◌, ◌<◌, eqb}
use Rattle.std.proofs.Common.{ap, subst, append_assoc, arith}
use Rattle.std.proofs.Math.Decide.{dec_lt}
use Rattle.basics.specs.Members.{In, first, later}
use Rattle.weight.specs.Weight.{mark, lighter_to, joint_to, Least}
use Rattle.pattern.specs.Derivations.{Item, step, charged, steps, charges, Gap, gaps}
use Rattle.arcs.specs.Tree.{Tree, leaf, toll, empty, alt, cat, star, size, tolls, TreeDer, taken, paid, blank, left, right, then, stop, pass, Derives, Meets}
use Rattle.arcs.specs.Arcs.{arc, path, Open}
use Rattle.arcs.specs.Fits.{Each, each_gap, bound, Under, fits}
use Rattle.arcs.specs.Apart.{Out, above, out_from, out_to}
use Rattle.arcs.specs.Made.{made, steps_append}

-- some derivation
record Some (a : Tree) (o : ℕ) : Type 0 where
  trace : List Item
  derived : TreeDer a o trace

any : (a : Tree) (o : ℕ) → Some a o
any (leaf k v) o = record { trace = _; derived = taken }
any (toll n) o = record { trace = _; derived = paid }
any empty o = record { trace = _; derived = blank }
any (alt a b) o = record { trace = _; derived = left (any a o).derived }
any (cat a b) o = record { trace = _; derived = then (any a o).derived (any b (o + size a)).derived }
any (star a) o = record { trace = _; derived = stop }

-- a derivation with the step p
record Occurs (a : Tree) (o p : ℕ) : Type 0 where
  trace : List Item
  derived : TreeDer a o trace
  before : List ℕ
  after : List ℕ
  word : steps trace ≡ before ++ p ∷ after

within_left : (t s : List Item) (u v : List ℕ) (p : ℕ) → steps t ≡ u ++ p ∷ v → steps (t ++ s) ≡ u ++ p ∷ (v ++ steps s)
within_left t s u v p e = rw (steps_append t s, e, append_assoc)

within_right : (t s : List Item) (u v : List ℕ) (p : ℕ) → steps s ≡ u ++ p ∷ v → steps (t ++ s) ≡ (steps t ++ u) ++ p ∷ v
within_right t s u v p e = rw (steps_append t s, e, append_assoc)

occurs : (a : Tree) (o p : ℕ) → o ≤ p → p < o + size a → Occurs a o p
unfolding size
occurs (leaf k v) o p l h = record { trace = _; derived = taken; before = []; after = []; word = ap (λ (z : ℕ). z ∷ []) (omega arith) }
occurs (toll n) o p l h = absurd (omega arith)
occurs empty o p l h = absurd (omega arith)
occurs (alt a b) o p l h = go (dec_lt p (o + size a)) (occurs a o p l) (λ g. occurs b (o + size a) p g (omega arith))
  where
    go : Dec (p < o + size a) → (p < o + size a → Occurs a o p) → (o + size a ≤ p → Occurs b (o + size a) p) → Occurs (alt a b) o p
    go (yes g) f e = let r = f g in record { trace = _; derived = left r.derived; before = r.before; after = r.after; word = r.word }
    go (no g) f e = let r = e (omega arith) in record { trace = _; derived = right r.derived; before = r.before; after = r.after; word = r.word }
occurs (cat a b) o p l h = go (dec_lt p (o + size a)) (occurs a o p l) (λ g. occurs b (o + size a) p g (omega arith))
  where
    go : Dec (p < o + size a) → (p < o + size a → Occurs a o p) → (o + size a ≤ p → Occurs b (o + size a) p) → Occurs (cat a b) o p
    go (yes g) f e = let r = f g in record { trace = _; derived = then r.derived (any b (o + size a)).derived; before = r.before; after = r.after ++ steps (any b (o + size a)).trace; word = within_left r.trace (any b (o + size a)).trace r.before r.after p r.word }
    go (no g) f e = let r = e (omega arith) in record { trace = _; derived = then (any a o).derived r.derived; before = steps (any a o).trace ++ r.before; after = r.after; word = within_right (any a o).trace r.trace r.before r.after p r.word }
occurs (star a) o p l h = let r = occurs a o p l h in record { trace = _; derived = pass r.derived stop; before = r.before; after = r.after ++ []; word = within_left r.trace [] r.before r.after p r.word }

abbrev gap : ℕ → ℕ → ℕ → Gap
gap x y c = record { from = x; to = y; total = c }

-- the gaps of a word by the arcs
abbrev canon : (ℕ → ℕ → ℕ) → ℕ → List ℕ → List Gap
canon A x [] = gap x 0 (A x 0) ∷ []
canon A x (p ∷ w) = gap x (suc p) (A x (suc p)) ∷ canon A (suc p) w

pub bound_twice : (n x y : ℕ) → bound n x y ≤ n + n
bound_twice n zero y = omega arith
bound_twice n (suc x) zero = omega arith
bound_twice n (suc x) (suc y) = omega arith

module _ (A : ℕ → ℕ → ℕ) (n : ℕ) where
  opens : n + n < mark → (x c : ℕ) (t : List Item) → Each (Under A n) x c t → Open A x (steps t)
  opens s x c [] h = (omega (arith, h.0.1, bound_twice n x 0), tt)
  opens s x c (step p ∷ t) h = (omega (arith, h.0.1, bound_twice n x (suc p)), opens s (suc p) 0 t h.1)
  opens s x c (charged k ∷ t) h = opens s x (c + k) t h

  heavier : (x c : ℕ) (t : List Item) → Each (Under A n) x c t → path A x (steps t) ≤ c + charges t
  heavier x c [] h = omega (arith, h.0.0)
  heavier x c (step p ∷ t) h = omega (arith, h.0.0, heavier (suc p) 0 t h.1)
  heavier x c (charged k ∷ t) h = omega (arith, heavier x (c + k) t h)

  tight : (x c : ℕ) (t : List Item) → Each (Under A n) x c t → c + charges t ≤ path A x (steps t) → gaps x c t ≡ canon A x (steps t)
  tight x c [] h l = ap (λ (z : ℕ). gap x 0 z ∷ []) (omega (arith, h.0.0))
  tight x c (step p ∷ t) h l =
      let g = heavier (suc p) 0 t h.1 in
      let e : c ≡ A x (suc p) = omega (arith, h.0.0) in
      rw (e, tight (suc p) 0 t h.1 (omega (arith, h.0.0)))
  tight x c (charged k ∷ t) h l = tight x (c + k) t h (omega arith)

open_tail : (A : ℕ → ℕ → ℕ) (x p : ℕ) (u v : List ℕ) → Open A x (u ++ p ∷ v) → Open A (suc p) v
open_tail A x p [] v h = h.1
open_tail A x p (q ∷ u) v h = open_tail A (suc q) p u v h.1

open_join : (A : ℕ → ℕ → ℕ) (x p : ℕ) (u v w : List ℕ) → Open A x (u ++ p ∷ v) → Open A (suc p) w → Open A x (u ++ p ∷ w)
open_join A x p [] v w h k = (h.0, k)
open_join A x p (q ∷ u) v w h k = (h.0, open_join A (suc q) p u v w h.1 k)

canon_join : (A : ℕ → ℕ → ℕ) (x p : ℕ) (u w : List ℕ) (g : Gap) → In g (canon A (suc p) w) → In g (canon A x (u ++ p ∷ w))
canon_join A x p [] w g m = later m
canon_join A x p (q ∷ u) w g m = later (canon_join A (suc q) p u w g m)

-- a way from x on by a gap
record Way (A : ℕ → ℕ → ℕ) (x : ℕ) (g : Gap) : Type 0 where
  word : List ℕ
  open_all : Open A x word
  has : In g (canon A x word)

cond_cap : (t : Bool) → cond t 0 mark ≤ mark
cond_cap true = omega arith
cond_cap false = omega arith

pub arc_cap : (a : Tree) (o x y : ℕ) → tolls a ≤ mark → arc a o x y ≤ mark
unfolding arc tolls lighter_to joint_to
arc_cap (leaf k v) o zero zero h = omega arith
arc_cap (leaf k v) o zero (suc y) h = cond_cap (eqb y o)
arc_cap (leaf k v) o (suc x) zero h = cond_cap (eqb x o)
arc_cap (leaf k v) o (suc x) (suc y) h = omega arith
arc_cap (toll n) o zero zero h = h
arc_cap (toll n) o zero (suc y) h = omega arith
arc_cap (toll n) o (suc x) y h = omega arith
arc_cap empty o zero zero h = omega arith
arc_cap empty o zero (suc y) h = omega arith
arc_cap empty o (suc x) y h = omega arith
arc_cap (alt a b) o x y h = omega arith
arc_cap (cat a b) o zero zero h = omega arith
arc_cap (cat a b) o zero (suc y) h = omega arith
arc_cap (cat a b) o (suc x) zero h = omega arith
arc_cap (cat a b) o (suc x) (suc y) h = omega arith
arc_cap (star a) o zero zero h = omega arith
arc_cap (star a) o zero (suc y) h = arc_cap a o 0 (suc y) h
arc_cap (star a) o (suc x) zero h = arc_cap a o (suc x) 0 h
arc_cap (star a) o (suc x) (suc y) h = omega arith

module _ (a : Tree) (small : tolls a + tolls a < mark) where
  -- a step that has an arc has a way to it and from it
  through : (p : ℕ) → p < size a → Occurs a 0 p
  through p h = occurs a 0 p (omega arith) (omega arith)

  open_through : (p : ℕ) (h : p < size a) → Open (arc a 0) 0 ((through p h).before ++ p ∷ (through p h).after)
  open_through p h = let r = through p h in subst (Open (arc a 0) 0) r.word (opens (arc a 0) (tolls a) small 0 0 r.trace (fits r.derived))

  inside : (p : ℕ) (m : ℕ) → m < mark → (Out 0 (0 + size a) p → mark ≤ m) → Dec (p < size a) → p < size a
  inside p m h f (yes g) = g
  inside p m h f (no g) = absurd (omega (arith, f (above (omega arith))))

  onward : (x y : ℕ) → arc a 0 x y < mark → Way (arc a 0) x (gap x y (arc a 0 x y))
  onward x zero h = record { word = []; open_all = (h, tt); has = first }
  onward x (suc q) h =
      let g = inside q _ h (out_to a 0 x q) (dec_lt q (size a)) in
      record { word = q ∷ (through q g).after; open_all = (h, open_tail (arc a 0) 0 q (through q g).before _ (open_through q g)); has = first }

  whole : (x y : ℕ) → arc a 0 x y < mark → Way (arc a 0) 0 (gap x y (arc a 0 x y))
  whole zero y h = onward 0 y h
  whole (suc p) y h =
      let g = inside p _ h (out_from a 0 p y) (dec_lt p (size a)) in
      let r = onward (suc p) y h in
      record {
        word = (through p g).before ++ p ∷ r.word;
        open_all = open_join (arc a 0) 0 p (through p g).before _ r.word (open_through p g) r.open_all;
        has = canon_join (arc a 0) 0 p (through p g).before r.word _ r.has;
      }

  -- where y comes directly after x, the arc is no heavier, and not heavy
  pub gap_low : (x y c : ℕ) → Meets a x y c → Under (arc a 0) (tolls a) x y c
  gap_low x y c f = each_gap (Under (arc a 0) (tolls a)) 0 0 f.trace (fits f.derived) f.taken

  pub gap_there : (x y : ℕ) → arc a 0 x y < mark → Meets a x y (arc a 0 x y)
  gap_there x y h =
      let r = whole x y h in
      let m = made a 0 r.word r.open_all in
      let e = tight (arc a 0) (tolls a) 0 0 m.trace (fits m.derived) (rw m.word (omega (arith, m.light))) in
      record { trace = m.trace; derived = m.derived; taken = rw (e, m.word) r.has }

  pub tree_layout : (x y : ℕ) → Least (Meets a x y) (arc a 0 x y)
  tree_layout x y = record { cap = arc_cap a 0 x y (omega arith); low = λ c f. (gap_low x y c f).0; attained = gap_there x y }

  -- there is an arc exactly where y comes directly after x
  pub tree_present : (x y c : ℕ) → Meets a x y c → arc a 0 x y < mark
  tree_present x y c f = omega (arith, (gap_low x y c f).1, bound_twice (tolls a) x y)

  -- no arc is heavy
  pub tree_light : (x y : ℕ) → arc a 0 x y < mark → arc a 0 x y ≤ bound (tolls a) x y
  tree_light x y h = (gap_low x y _ (gap_there x y h)).1

  pub word_low : (w : List ℕ) (c : ℕ) → Derives a w c → path (arc a 0) 0 w ≤ c
  word_low w c d = rw (← d.word) (omega (arith, heavier (arc a 0) (tolls a) 0 0 d.trace (fits d.derived), d.cost))

  pub word_open : (w : List ℕ) (c : ℕ) → Derives a w c → Open (arc a 0) 0 w
  word_open w c d = rw (← d.word) (opens (arc a 0) (tolls a) small 0 0 d.trace (fits d.derived))

  pub word_there : (w : List ℕ) → Open (arc a 0) 0 w → Derives a w (path (arc a 0) 0 w)
  word_there w h =
      let m = made a 0 w h in
      let g = heavier (arc a 0) (tolls a) 0 0 m.trace (fits m.derived) in
      let k : path (arc a 0) 0 w ≤ 0 + charges m.trace = rw m.word at g in
      record { trace = m.trace; derived = m.derived; word = m.word; cost = omega (arith, m.light) }
