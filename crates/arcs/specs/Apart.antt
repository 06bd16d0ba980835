-- The arcs of a tree lie between its own steps.
--
-- Out lo hi x     x is not one of the numbers from lo on below hi
use Rattle.std.specs.Prelude.{◌≡◌, ℕ, zero, suc, ◌+◌, ◌≤◌, ◌<◌}
use Rattle.std.proofs.Common.{arith, ne_eqb}
use Rattle.weight.specs.Weight.{mark, lighter_to, joint_to}
use Rattle.arcs.specs.Tree.{Tree, leaf, toll, empty, alt, cat, star, size}
use Rattle.arcs.specs.Arcs.{arc}

pub data Out (lo hi x : ℕ) : Type 0 where
  below : x < lo → Out lo hi x
  above : hi ≤ x → Out lo hi x

out_one : (o x : ℕ) → Out o (o + 1) x → x ≡ o → ⊥
out_one o x (below h) e = omega arith
out_one o x (above h) e = omega arith

out_left : (o m n x : ℕ) → Out o (o + (m + n)) x → Out o (o + m) x
out_left o m n x (below h) = below h
out_left o m n x (above h) = above (omega arith)

out_right : (o m n x : ℕ) → Out o (o + (m + n)) x → Out (o + m) (o + m + n) x
out_right o m n x (below h) = below (omega arith)
out_right o m n x (above h) = above (omega arith)

pub out_from : (a : Tree) (o x y : ℕ) → Out o (o + size a) x → mark ≤ arc a o (suc x) y
unfolding arc size lighter_to joint_to
out_from (leaf k v) o x zero h = rw (ne_eqb x o (out_one o x h)) (omega arith)
out_from (leaf k v) o x (suc y) h = omega arith
out_from (toll n) o x y h = omega arith
out_from empty o x y h = omega arith
out_from (alt a b) o x y h = omega (arith, out_from a o x y (out_left o _ _ x h), out_from b (o + size a) x y (out_right o _ _ x h))
out_from (cat a b) o x zero h = omega (arith, out_from a o x 0 (out_left o _ _ x h), out_from b (o + size a) x 0 (out_right o _ _ x h))
out_from (cat a b) o x (suc y) h = omega (arith, out_from a o x (suc y) (out_left o _ _ x h), out_from a o x 0 (out_left o _ _ x h), out_from b (o + size a) x (suc y) (out_right o _ _ x h))
out_from (star a) o x zero h = out_from a o x 0 h
out_from (star a) o x (suc y) h = omega (arith, out_from a o x (suc y) h, out_from a o x 0 h)

pub out_to : (a : Tree) (o x y : ℕ) → Out o (o + size a) y → mark ≤ arc a o x (suc y)
unfolding arc size lighter_to joint_to
out_to (leaf k v) o zero y h = rw (ne_eqb y o (out_one o y h)) (omega arith)
out_to (leaf k v) o (suc x) y h = omega arith
out_to (toll n) o zero y h = omega arith
out_to (toll n) o (suc x) y h = omega arith
out_to empty o zero y h = omega arith
out_to empty o (suc x) y h = omega arith
out_to (alt a b) o x y h = omega (arith, out_to a o x y (out_left o _ _ y h), out_to b (o + size a) x y (out_right o _ _ y h))
out_to (cat a b) o zero y h = omega (arith, out_to a o 0 y (out_left o _ _ y h), out_to b (o + size a) 0 y (out_right o _ _ y h))
out_to (cat a b) o (suc x) y h = omega (arith, out_to a o (suc x) y (out_left o _ _ y h), out_to b (o + size a) 0 y (out_right o _ _ y h), out_to b (o + size a) (suc x) y (out_right o _ _ y h))
out_to (star a) o zero y h = out_to a o 0 y h
out_to (star a) o (suc x) y h = omega (arith, out_to a o (suc x) y h, out_to a o 0 y h)
