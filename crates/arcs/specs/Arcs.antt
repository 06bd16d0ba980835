-- METHOD. The weights of the table by recursion on the tree. From 0: the first step; to 0: the end; p + 1: step p was last.
--
-- leaf_arc o, toll_arc n, alt_arc, cat_arc, star_arc   what each kind of tree makes of the arcs of its parts
-- arc a o x y     the arc from x to y of a tree whose steps are numbered from o on; the mark where there is none
-- path A x w      the sum of the arcs from x along the steps w to the end
-- Open A x w      each of these arcs is there
use Rattle.std.specs.Prelude.{cond, List, [], ◌∷◌, ℕ, zero, suc, ◌+◌, ◌<◌, eqb}
use Rattle.weight.specs.Weight.{mark, lighter, joint}
use Rattle.arcs.specs.Tree.{Tree, leaf, toll, empty, alt, cat, star, size}

abbrev pub leaf_arc : ℕ → ℕ → ℕ → ℕ
leaf_arc o zero zero = mark
leaf_arc o zero (suc y) = cond (eqb y o) 0 mark
leaf_arc o (suc x) zero = cond (eqb x o) 0 mark
leaf_arc o (suc x) (suc y) = mark

abbrev pub toll_arc : ℕ → ℕ → ℕ → ℕ
toll_arc n zero zero = n
toll_arc n zero (suc y) = mark
toll_arc n (suc x) y = mark

abbrev pub alt_arc : (ℕ → ℕ → ℕ) → (ℕ → ℕ → ℕ) → ℕ → ℕ → ℕ
alt_arc A B x y = lighter (A x y) (B x y)

abbrev pub cat_arc : (ℕ → ℕ → ℕ) → (ℕ → ℕ → ℕ) → ℕ → ℕ → ℕ
cat_arc A B zero zero = joint (A 0 0) (B 0 0)
cat_arc A B zero (suc y) = lighter (A 0 (suc y)) (joint (A 0 0) (B 0 (suc y)))
cat_arc A B (suc x) zero = lighter (B (suc x) 0) (joint (A (suc x) 0) (B 0 0))
cat_arc A B (suc x) (suc y) = lighter (lighter (A (suc x) (suc y)) (B (suc x) (suc y))) (joint (A (suc x) 0) (B 0 (suc y)))

abbrev pub star_arc : (ℕ → ℕ → ℕ) → ℕ → ℕ → ℕ
star_arc A zero zero = 0
star_arc A zero (suc y) = A 0 (suc y)
star_arc A (suc x) zero = A (suc x) 0
star_arc A (suc x) (suc y) = lighter (A (suc x) (suc y)) (joint (A (suc x) 0) (A 0 (suc y)))

unfoldable pub arc : Tree → ℕ → ℕ → ℕ → ℕ
arc (leaf k v) o = leaf_arc o
arc (toll n) o = toll_arc n
arc empty o = toll_arc 0
arc (alt a b) o = alt_arc (arc a o) (arc b (o + size a))
arc (cat a b) o = cat_arc (arc a o) (arc b (o + size a))
arc (star a) o = star_arc (arc a o)

abbrev pub path : (ℕ → ℕ → ℕ) → ℕ → List ℕ → ℕ
path A x [] = A x 0
path A x (p ∷ w) = A x (suc p) + path A (suc p) w

abbrev pub Open : (ℕ → ℕ → ℕ) → ℕ → List ℕ → Type 0
Open A x [] = (A x 0 < mark) × Unit {0}
Open A x (p ∷ w) = (A x (suc p) < mark) × Open A (suc p) w
