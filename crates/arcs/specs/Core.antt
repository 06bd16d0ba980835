-- A pattern as a tree of steps and tolls: the same derivations, trace for trace, the same steps, and how much can be charged.
--
-- core a          a capture opens, is as inside, and closes; a weight mark is a toll after what stands before it
-- to_core, from_core   a derivation of the pattern is one of the tree, and the other way round
-- text_toll       at most 999 is charged for each four bytes of a text
use Rattle.std.specs.Prelude.{◌≡◌, refl, List, [], ◌∷◌, ◌++◌, ℕ, ◌+◌, ◌*◌, ◌≤◌, length}
use Rattle.std.proofs.Common.{sym, ap, ap₂, ◌∙◌, subst, arith, length-append}
use Rattle.marks.specs.Labels.{Label}
use Rattle.pattern.specs.Grammar.{Pat, reads, nothing, alt, cat, star, charge, capture, grouped, steps_of, Posts, none, starred, marked, Pattern, lone, either, last, thence, with, Atom, plain, escaped, any, range, empty, group, named}
use Rattle.pattern.specs.Derivations.{Item, step, Der, labels_of}
use Rattle.pattern.specs.Derivations
use Rattle.arcs.specs.Tree.{Tree, size, tolls, leaves, TreeDer, taken, paid, blank, left, right, then, stop, pass}

unfoldable pub core : Pat → Tree
core (reads lo hi) = Tree.leaf 0 (lo * 256 + hi)
core nothing = Tree.empty
core (alt a b) = Tree.alt (core a) (core b)
core (cat a b) = Tree.cat (core a) (core b)
core (star a) = Tree.star (core a)
core (charge n a) = Tree.cat (core a) (Tree.toll n)
core (capture v a) = Tree.cat (Tree.leaf 1 v) (Tree.cat (core a) (Tree.leaf 2 v))
core (grouped a) = core a

pub core_size : (a : Pat) → size (core a) ≡ steps_of a
unfolding core size steps_of
core_size (reads lo hi) = refl
core_size nothing = refl
core_size (alt a b) = omega (arith, core_size a, core_size b)
core_size (cat a b) = omega (arith, core_size a, core_size b)
core_size (star a) = core_size a
core_size (charge n a) = omega (arith, core_size a)
core_size (capture v a) = omega (arith, core_size a)
core_size (grouped a) = core_size a

append_none : (l : List Label) → l ++ [] ≡ l
append_none [] = refl
append_none (x ∷ l) = ap (λ k. x ∷ k) (append_none l)

pub core_leaves : (a : Pat) → leaves (core a) ≡ labels_of a
unfolding core leaves labels_of
core_leaves (reads lo hi) = refl
core_leaves nothing = refl
core_leaves (alt a b) = ap₂ ◌++◌ (core_leaves a) (core_leaves b)
core_leaves (cat a b) = ap₂ ◌++◌ (core_leaves a) (core_leaves b)
core_leaves (star a) = core_leaves a
core_leaves (charge n a) = append_none (leaves (core a)) ∙ core_leaves a
core_leaves (capture v a) = rw (core_leaves a)
core_leaves (grouped a) = core_leaves a

-- a derivation whose steps are numbered from an equal number
der_from : {a : Pat} {o p : ℕ} {t : List Item} → o ≡ p → Der a o t → Der a p t
der_from {a} {t = t} e d = subst (λ (z : ℕ). Der a z t) e d

tree_from : {a : Tree} {o p : ℕ} {t : List Item} → o ≡ p → TreeDer a o t → TreeDer a p t
tree_from {a} {t = t} e d = subst (λ (z : ℕ). TreeDer a z t) e d

after : (o : ℕ) (a : Pat) → o + steps_of a ≡ o + size (core a)
after o a = omega (arith, core_size a)

capture_core : (v o : ℕ) (a : Pat) (t : List Item) → TreeDer (core a) (o + 1) t → TreeDer (core (capture v a)) o (step o ∷ (t ++ step (o + 1 + steps_of a) ∷ []))
unfolding core size
capture_core v o a t d = then taken (then d (subst (λ (z : ℕ). TreeDer (Tree.leaf 2 v) (o + 1 + size (core a)) (step (o + 1 + z) ∷ [])) (core_size a) taken))

pub to_core : {a : Pat} {o : ℕ} {t : List Item} → Der a o t → TreeDer (core a) o t
unfolding core size
to_core Derivations.read = taken
to_core Derivations.empty = blank
to_core (Derivations.left d) = left (to_core d)
to_core (Derivations.right {a = a} d) = right {a = core a} (tree_from (after _ a) (to_core d))
to_core (Derivations.then {a = a} d e) = then {a = core a} (to_core d) (tree_from (after _ a) (to_core e))
to_core Derivations.stop = stop
to_core (Derivations.pass d e) = pass (to_core d) (to_core e)
to_core (Derivations.left_at d) = then (to_core d) paid
to_core (Derivations.captured {v = v} {o = o} {a = a} {t = t} d) = capture_core v o a t (to_core d)
to_core (Derivations.inside d) = to_core d

passes_core : {a : Pat} {x : Tree} {o : ℕ} {t : List Item} → ((t : List Item) → TreeDer x o t → Der a o t) → TreeDer (Tree.star x) o t → Der (star a) o t
passes_core f stop = Derivations.stop
passes_core f (pass d e) = Derivations.pass (f _ d) (passes_core f e)

core_capture : {v o : ℕ} {a : Pat} {t s : List Item} → Der a (o + 1) t → TreeDer (Tree.leaf 2 v) (o + 1 + size (core a)) s → Der (capture v a) o (step o ∷ (t ++ s))
core_capture {o = o} {a = a} {t = t} d taken = rw (core_size a) (Derivations.captured d)

pub from_core : (a : Pat) {o : ℕ} {t : List Item} → TreeDer (core a) o t → Der a o t
unfolding core size
from_core (reads lo hi) taken = Derivations.read
from_core nothing blank = Derivations.empty
from_core (alt a b) (left d) = Derivations.left (from_core a d)
from_core (alt a b) (right d) = Derivations.right (der_from (sym (after _ a)) (from_core b d))
from_core (cat a b) (then d e) = Derivations.then (from_core a d) (der_from (sym (after _ a)) (from_core b e))
from_core (star a) d = passes_core (λ t e. from_core a e) d
from_core (charge n a) (then d paid) = Derivations.left_at (from_core a d)
from_core (capture v a) (then taken (then d e)) = core_capture (from_core a d) e
from_core (grouped a) d = Derivations.inside (from_core a d)

posts_toll : {w : List ℕ} {a b : Pat} → Posts w a b → tolls (core b) * 4 ≤ tolls (core a) * 4 + 999 * length w
unfolding core tolls
posts_toll none = omega arith
posts_toll (starred p) = omega (arith, posts_toll p)
posts_toll (marked dx dy dz p) = omega (arith, posts_toll p, dx.high, dy.high, dz.high)

-- at most 999 for each four bytes
record Paid (w : List ℕ) (a : Pat) : Type 0 where
  most : tolls (core a) * 4 ≤ 999 * length w

either_toll : {u v : List ℕ} {a b : Pat} → Paid u a → Paid v b → Paid (u ++ 124 ∷ v) (alt a b)
unfolding core tolls
either_toll {u} {v} h g = record { most = omega (arith, length-append u (124 ∷ v)) }

thence_toll : {u v : List ℕ} {a b : Pat} → Paid u a → Paid v b → Paid (u ++ v) (cat a b)
unfolding core tolls
thence_toll {u} {v} h g = record { most = omega (arith, length-append u v) }

with_toll : {u v : List ℕ} {a b : Pat} → Paid u a → Posts v a b → Paid (u ++ v) b
with_toll {u} {v} h q = record { most = omega (arith, posts_toll q, length-append u v) }

reads_toll : {w : List ℕ} {lo hi : ℕ} → Paid w (reads lo hi)
unfolding core tolls
reads_toll = record { most = omega arith }

empty_toll : {w : List ℕ} → Paid w nothing
unfolding core tolls
empty_toll = record { most = omega arith }

group_toll : {w : List ℕ} {a : Pat} → Paid w a → Paid (40 ∷ (w ++ 41 ∷ [])) (grouped a)
unfolding core tolls
group_toll {w} h = record { most = omega (arith, length-append w (41 ∷ [])) }

named_toll : {d v : ℕ} {w : List ℕ} {a : Pat} → Paid w a → Paid (123 ∷ d ∷ 58 ∷ (w ++ 125 ∷ [])) (capture v a)
unfolding core tolls
named_toll {w = w} h = record { most = omega (arith, length-append w (125 ∷ [])) }

pub text_toll : {k : ℕ} {w : List ℕ} {a : Pat} → Pattern k w a → tolls (core a) * 4 ≤ 999 * length w
text_toll {w = w} {a = a} p =
    let r : Paid w a = elim p as (λ w a x. Paid w a) (λ w a x. Paid w a) (λ w a x. Paid w a) (λ w a x. Paid w a) [
      | lone (t → h) ↦ h
      | either (t → h) (q → g) ↦ either_toll h g
      | last (f → h) ↦ h
      | thence (f → h) (t → g) ↦ thence_toll h g
      | with (x → h) q ↦ with_toll h q
      | plain h ↦ reads_toll
      | escaped h ↦ reads_toll
      | any ↦ reads_toll
      | range p q l ↦ reads_toll
      | empty ↦ empty_toll
      | group (p → h) ↦ group_toll h
      | named l m (p → h) ↦ named_toll h
    ] in r.most

pub atom_toll : {k : ℕ} {w : List ℕ} {a : Pat} → Atom k w a → tolls (core a) * 4 ≤ 999 * length w
atom_toll {w = w} p = omega (arith, text_toll (lone (last (with p none))), length-append w [])

-- in 255 bytes
pub few_tolls : {k : ℕ} {w : List ℕ} {a : Pat} → Pattern k w a → length w ≤ 255 → tolls (core a) ≤ 63686
few_tolls p h = omega (arith, text_toll p)
