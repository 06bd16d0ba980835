-- No derivation charges less between two steps than the arc.
--
-- Each R x c t    R holds at each gap of t, where x was last and c is charged since
-- bound n x y     first, last and null weights are at most the sum n of the tolls, the others twice that
-- Under A n x y c the arc is no more than c, and within the bound
use Rattle.std.specs.Prelude.{◌≡◌, refl, List, [], ◌∷◌, ◌++◌}
use Prim.Native.Nat.{ℕ, zero, suc, ◌+◌, ◌≤◌}
use native.Mathlib.Omega.{arith}
use Rattle.std.proofs.Common.{eq-eqb}
use Rattle.basics.specs.Members.{In, first, later}
use Rattle.weight.specs.Weight.{lighter_to, joint_to}
use Rattle.pattern.specs.Derivations.{Item, step, charged, Gap, gaps}
use Rattle.arcs.specs.Tree.{Tree, alt, size, tolls, TreeDer, taken, paid, blank, left, right, then, stop, pass}
use Rattle.arcs.specs.Arcs.{alt_arc, cat_arc, star_arc, arc}

abbrev pub Each : (ℕ → ℕ → ℕ → Type 0) → ℕ → ℕ → List Item → Type 0
Each R x c [] = R x 0 c × Unit {0}
Each R x c (step p ∷ t) = R x (suc p) c × Each R (suc p) 0 t
Each R x c (charged n ∷ t) = Each R x (c + n) t

pub each_gap : (R : ℕ → ℕ → ℕ → Type 0) (x c : ℕ) (t : List Item) → Each R x c t → {g : Gap} → In g (gaps x c t) → R g.from g.to g.total
each_gap R x c [] h first = h.0
each_gap R x c [] h (later m) = elim m [ ]
each_gap R x c (step p ∷ t) h first = h.0
each_gap R x c (step p ∷ t) h (later m) = each_gap R (suc p) 0 t h.1 m
each_gap R x c (charged n ∷ t) h m = each_gap R x (c + n) t h m

each_map : (P R : ℕ → ℕ → ℕ → Type 0) → ((x y c : ℕ) → P x y c → R x y c) → (x c : ℕ) (t : List Item) → Each P x c t → Each R x c t
each_map P R f x c [] h = (f x 0 c h.0, tt)
each_map P R f x c (step p ∷ t) h = (f x (suc p) c h.0, each_map P R f (suc p) 0 t h.1)
each_map P R f x c (charged n ∷ t) h = each_map P R f x (c + n) t h

-- one trace after another
module _ (P Q R : ℕ → ℕ → ℕ → Type 0)
    (l : (x y c : ℕ) → P x (suc y) c → R x (suc y) c)
    (r : (x y c : ℕ) → Q (suc x) y c → R (suc x) y c)
    (m : (x y c d e : ℕ) → e ≡ c + d → P x 0 c → Q 0 y d → R x y e) where
  second : (x c : ℕ) (s : List Item) → Each Q (suc x) c s → Each R (suc x) c s
  second x c [] k = (r x 0 c k.0, tt)
  second x c (step q ∷ s) k = (r x (suc q) c k.0, second q 0 s k.1)
  second x c (charged n ∷ s) k = second x (c + n) s k

  middle : (x c d e : ℕ) → e ≡ c + d → P x 0 c → (s : List Item) → Each Q 0 d s → Each R x e s
  middle x c d e i h [] k = (m x 0 c d e i h k.0, tt)
  middle x c d e i h (step q ∷ s) k = (m x (suc q) c d e i h k.0, second q 0 s k.1)
  middle x c d e i h (charged n ∷ s) k = middle x c (d + n) (e + n) (omega arith) h s k

  pub joined : (x c : ℕ) (t : List Item) → Each P x c t → (s : List Item) → Each Q 0 0 s → Each R x c (t ++ s)
  joined x c [] h s k = middle x c 0 c (omega arith) h.0 s k
  joined x c (step q ∷ t) h s k = (l x q c h.0, joined (suc q) 0 t h.1 s k)
  joined x c (charged n ∷ t) h s k = joined x (c + n) t h s k

abbrev pub bound : ℕ → ℕ → ℕ → ℕ
bound n zero y = n
bound n (suc x) zero = n
bound n (suc x) (suc y) = n + n

abbrev pub Under : (ℕ → ℕ → ℕ) → ℕ → ℕ → ℕ → ℕ → Type 0
Under A n x y c = (A x y ≤ c) × (A x y ≤ bound n x y)

module _ (A B : ℕ → ℕ → ℕ) (n m : ℕ) where
  alt_left : (x y c : ℕ) → Under A n x y c → Under (alt_arc A B) (n + m) x y c
  unfolding lighter_to
  alt_left zero y c h = omega arith
  alt_left (suc x) zero c h = omega arith
  alt_left (suc x) (suc y) c h = omega arith

  alt_right : (x y c : ℕ) → Under B m x y c → Under (alt_arc A B) (n + m) x y c
  unfolding lighter_to
  alt_right zero y c h = omega arith
  alt_right (suc x) zero c h = omega arith
  alt_right (suc x) (suc y) c h = omega arith

  cat_left : (x y c : ℕ) → Under A n x (suc y) c → Under (cat_arc A B) (n + m) x (suc y) c
  unfolding lighter_to joint_to
  cat_left zero y c h = omega arith
  cat_left (suc x) y c h = omega arith

  cat_right : (x y c : ℕ) → Under B m (suc x) y c → Under (cat_arc A B) (n + m) (suc x) y c
  unfolding lighter_to joint_to
  cat_right x zero c h = omega arith
  cat_right x (suc y) c h = omega arith

  cat_middle : (x y c d e : ℕ) → e ≡ c + d → Under A n x 0 c → Under B m 0 y d → Under (cat_arc A B) (n + m) x y e
  unfolding lighter_to joint_to
  cat_middle zero zero c d e i h k = omega arith
  cat_middle zero (suc y) c d e i h k = omega arith
  cat_middle (suc x) zero c d e i h k = omega arith
  cat_middle (suc x) (suc y) c d e i h k = omega arith

module _ (A : ℕ → ℕ → ℕ) (n : ℕ) where
  star_left : (x y c : ℕ) → Under A n x (suc y) c → Under (star_arc A) n x (suc y) c
  unfolding lighter_to joint_to
  star_left zero y c h = h
  star_left (suc x) y c h = omega arith

  star_middle : (x y c d e : ℕ) → e ≡ c + d → Under A n x 0 c → Under (star_arc A) n 0 y d → Under (star_arc A) n x y e
  unfolding lighter_to joint_to
  star_middle zero zero c d e i h k = omega arith
  star_middle zero (suc y) c d e i h k = omega arith
  star_middle (suc x) zero c d e i h k = omega arith
  star_middle (suc x) (suc y) c d e i h k = omega arith

pub fits : {a : Tree} {o : ℕ} {t : List Item} → TreeDer a o t → Each (Under (arc a o) (tolls a)) 0 0 t
unfolding arc tolls
fits {o = o} taken = rw (eq-eqb o o refl) (omega arith)
fits {o = o} paid = omega arith
fits blank = omega arith
fits (left {a = a} {b = b} {o = o} {t = t} d) = each_map (Under (arc a o) (tolls a)) (Under (arc (alt a b) o) (tolls a + tolls b)) (alt_left (arc a o) (arc b (o + size a)) (tolls a) (tolls b)) 0 0 t (fits d)
fits (right {a = a} {b = b} {o = o} {t = t} d) = each_map (Under (arc b (o + size a)) (tolls b)) (Under (arc (alt a b) o) (tolls a + tolls b)) (alt_right (arc a o) (arc b (o + size a)) (tolls a) (tolls b)) 0 0 t (fits d)
fits (then {a = a} {b = b} {o = o} {t = t} {s = s} d e) =
    let A = arc a o in
    let B = arc b (o + size a) in
    joined (Under A (tolls a)) (Under B (tolls b)) (Under (cat_arc A B) (tolls a + tolls b)) (cat_left A B (tolls a) (tolls b)) (cat_right A B (tolls a) (tolls b)) (cat_middle A B (tolls a) (tolls b)) 0 0 t (fits d) s (fits e)
fits (stop {a = a}) = omega arith
fits (pass {a = a} {o = o} {t = t} {s = s} d e) =
    let A = arc a o in
    joined (Under A (tolls a)) (Under (star_arc A) (tolls a)) (Under (star_arc A) (tolls a)) (star_left A (tolls a)) (λ x y c h. h) (star_middle A (tolls a)) 0 0 t (fits d) s (fits e)
