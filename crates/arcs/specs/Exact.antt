-- The arcs of a text: each is the least total charged between two steps in the text's derivations, and along the steps of a
-- derivation they add up to the least charge of the derivations with these steps. For every text of at most 255 bytes.
--
-- arc_of a x y     the arc of the pattern a from x to y: state 0 is the start and the end, state p + 1 is "step p was last"
-- layout          THE EXACT LAYOUT: an arc is the least total charged between, the mark where y never comes directly after x
-- present         where y comes directly after x, there is an arc
-- weights         an arc that is there is at most 1,000,000
-- arc_inside      and lies between states of the text
-- trace_open, trace_low   along the steps of a derivation each arc is there, and their sum is no more than the charge
-- word_trace      a way along arcs that are there is the steps of a derivation whose charge is their sum
use Rattle.std.specs.Prelude.{◌≡◌, refl, List, ℕ, zero, suc, ◌+◌, ◌≤◌, ◌<◌, length}
use Rattle.std.proofs.Common.{arith}
use Rattle.std.proofs.Math.Decide.{dec_le}
use Rattle.weight.specs.Weight.{mark, Least}
use Rattle.pattern.specs.Grammar.{Pat, Pattern, steps_of}
use Rattle.pattern.specs.Derivations.{Item, Der, steps, charges, Follows}
use Rattle.arcs.specs.Tree.{Tree, size, tolls, Derives, Meets}
use Rattle.arcs.specs.Core.{core, core_size, to_core, from_core, few_tolls}
use Rattle.arcs.specs.Arcs.{arc, path, Open}
use Rattle.arcs.specs.Apart.{above, out_from, out_to}
use Rattle.arcs.specs.Tight.{bound_twice, tree_layout, tree_present, tree_light, word_low, word_open, word_there}

abbrev pub arc_of : Pat → ℕ → ℕ → ℕ
arc_of a x y = arc (core a) 0 x y

-- a derivation with the steps w that charges the sum of the arcs along w
pub record Along (a : Pat) (w : List ℕ) : Type 0 where
  pub trace : List Item
  pub derived : Der a 0 trace
  pub word : steps trace ≡ w
  pub cost : charges trace ≡ path (arc_of a) 0 w

-- the pattern and its tree have the same derivations
to_meets : {a : Pat} (x y c : ℕ) → Follows a x y c → Meets (core a) x y c
to_meets x y c f = record { trace = f.trace; derived = to_core f.derived; taken = f.taken }

from_meets : (a : Pat) (x y c : ℕ) → Meets (core a) x y c → Follows a x y c
from_meets a x y c f = record { trace = f.trace; derived = from_core a f.derived; taken = f.taken }

to_derives : {a : Pat} {t : List Item} → Der a 0 t → Derives (core a) (steps t) (charges t)
to_derives {t = t} d = record { trace = t; derived = to_core d; word = refl; cost = refl }

from_inside : (a : Tree) (x y : ℕ) → arc a 0 x y < mark → x ≤ size a
from_inside a zero y h = omega arith
from_inside a (suc x) y h = go (dec_le (suc x) (size a))
  where
    go : Dec (suc x ≤ size a) → suc x ≤ size a
    go (yes g) = g
    go (no g) = absurd (omega (arith, out_from a 0 x y (above (omega arith))))

to_inside : (a : Tree) (x y : ℕ) → arc a 0 x y < mark → y ≤ size a
to_inside a x zero h = omega arith
to_inside a x (suc y) h = go (dec_le (suc y) (size a))
  where
    go : Dec (suc y ≤ size a) → suc y ≤ size a
    go (yes g) = g
    go (no g) = absurd (omega (arith, out_to a 0 x y (above (omega arith))))

pub arc_inside : (a : Pat) (x y : ℕ) → arc_of a x y < mark → (x ≤ steps_of a) × (y ≤ steps_of a)
arc_inside a x y h = rw (← core_size a) (from_inside (core a) x y h, to_inside (core a) x y h)

module _ {K : ℕ} {s : List ℕ} {a : Pat} (p : Pattern K s a) (few : length s ≤ 255) where
  small : tolls (core a) + tolls (core a) < mark
  small = omega (arith, few_tolls p few)

  pub layout : (x y : ℕ) → Least (Follows a x y) (arc_of a x y)
  layout x y =
      let l = tree_layout (core a) small x y in
      record { cap = l.cap; low = λ c f. l.low c (to_meets x y c f); attained = λ h. from_meets a x y _ (l.attained h) }

  pub present : (x y c : ℕ) → Follows a x y c → arc_of a x y < mark
  present x y c f = tree_present (core a) small x y c (to_meets x y c f)

  pub weights : (x y : ℕ) → arc_of a x y < mark → arc_of a x y ≤ 1000000
  weights x y h = omega (arith, few_tolls p few, tree_light (core a) small x y h, bound_twice (tolls (core a)) x y)

  pub trace_open : {t : List Item} → Der a 0 t → Open (arc_of a) 0 (steps t)
  trace_open {t} d = word_open (core a) small (steps t) (charges t) (to_derives d)

  pub trace_low : {t : List Item} → Der a 0 t → path (arc_of a) 0 (steps t) ≤ charges t
  trace_low {t} d = word_low (core a) small (steps t) (charges t) (to_derives d)

  pub word_trace : (w : List ℕ) → Open (arc_of a) 0 w → Along a w
  word_trace w h = let d = word_there (core a) small w h in record { trace = d.trace; derived = from_core a d.derived; word = d.word; cost = d.cost }
