-- A pattern built into the cells: the laws of Grow, for what a text is made of. The steps of a part are counted by steps_of.
--
-- grown_reads, grown_nothing   a byte or a range by leaf; `~` by nothing
-- grown_alt, grown_cat         one or the other by nothing; one after the other by join
-- grown_star, grown_charge     `*` by again; a weight mark by join with nothing built after it
-- grown_capture                a leaf, the inside, a leaf, and two times join
-- grown_whole                  the pattern of a text, built into a cleared grid: each word is the arc
use Rattle.std.specs.Prelude.{◌≡◌, List, ℕ, ◌+◌, ◌≤◌, ◌<◌, length}
use Rattle.std.proofs.Common.{arith}
use Rattle.weight.specs.Weight.{lighter, joint, mark}
use Rattle.pattern.specs.Grammar.{Pat, reads, nothing, alt, cat, star, charge, capture, steps_of, Pattern}
use Rattle.arcs.specs.Tree.{Tree, size, tolls}
use Rattle.arcs.specs.Core.{core, core_size, few_tolls}
use Rattle.arcs.specs.Exact.{arc_of}
use Rattle.grid.specs.Cells.{Cleared, Leafed, Linked, Joined}
use Rattle.grid.specs.Grow.{at, Fresh, Built, fresh_on, built_leaf, built_toll, built_empty, built_alt, built_join, built_star, built_whole}

pub grown_on : (a : Pat) (o : ℕ) (old new : List ℕ) (n : ℕ) → Fresh o old → Built (core a) o old new n → Fresh (o + steps_of a) new
grown_on a o old new n f b = rw (core_size a) at (fresh_on (core a) o old new n f b)

pub grown_reads : (lo hi o : ℕ) (old new : List ℕ) → o < 31 → Fresh o old → Leafed o old new → Built (core (reads lo hi)) o old new mark
unfolding core
grown_reads lo hi o old new h f l = built_leaf _ _ o old new (omega arith) f l

pub grown_nothing : (o : ℕ) (old : List ℕ) → Fresh o old → Built (core nothing) o old old 0
unfolding core
grown_nothing o old f = built_empty o old f

pub grown_alt : (a b : Pat) (o : ℕ) (old mid new : List ℕ) (n m : ℕ) → Built (core a) o old mid n → Built (core b) (o + steps_of a) mid new m → Built (core (alt a b)) o old new (lighter n m)
unfolding core
grown_alt a b o old mid new n m p q = built_alt (core a) (core b) o old mid new n m p (rw (← core_size a) at q)

pub grown_cat : (a b : Pat) (o : ℕ) (old one two new : List ℕ) (n m : ℕ) → tolls (core a) ≤ mark → tolls (core b) ≤ mark → Fresh o old → Built (core a) o old one n → Built (core b) (o + steps_of a) one two m → Joined o (o + steps_of a) n m two new → Built (core (cat a b)) o old new (joint n m)
unfolding core
grown_cat a b o old one two new n m sa sb f p q j = built_join (core a) (core b) o old one two new n m sa sb f p (rw (← core_size a) at q) (rw (← core_size a) at j)

pub grown_star : (a : Pat) (o : ℕ) (old mid new : List ℕ) (n : ℕ) → tolls (core a) ≤ mark → Fresh o old → Built (core a) o old mid n → Linked o 31 o mid new → Built (core (star a)) o old new 0
unfolding core
grown_star a o old mid new n small f b k = built_star (core a) o old mid new n small f b k

pub grown_charge : (c : ℕ) (a : Pat) (o : ℕ) (old mid new : List ℕ) (n : ℕ) → tolls (core a) ≤ mark → c ≤ mark → Fresh o old → Built (core a) o old mid n → Joined o (o + steps_of a) n c mid new → Built (core (charge c a)) o old new (joint n c)
unfolding core tolls
grown_charge c a o old mid new n small low f b j =
    built_join (core a) (Tree.toll c) o old mid mid new n c small low f b (built_toll c (o + size (core a)) mid (fresh_on (core a) o old mid n f b)) (rw (← core_size a) at j)

-- the cells after the opening leaf, the inside, the closing leaf, and the inside joined to it
pub grown_capture : (v : ℕ) (a : Pat) (o : ℕ) (old one two three four new : List ℕ) (n : ℕ) → tolls (core a) ≤ mark → o + 1 + steps_of a < 31 → Fresh o old
    → Leafed o old one → Built (core a) (o + 1) one two n → Leafed (o + 1 + steps_of a) two three
    → Joined (o + 1) (o + 1 + steps_of a) n mark three four → Joined o (o + 1) mark (joint n mark) four new
    → Built (core (capture v a)) o old new (joint mark (joint n mark))
unfolding core size tolls
grown_capture v a o old one two three four new n small h f opening inside closing inner outer =
    let p = built_leaf 1 v o old one (omega arith) f opening in
    let g = fresh_on (Tree.leaf 1 v) o old one mark f p in
    let e : o + 1 + steps_of a ≡ o + 1 + size (core a) = omega (arith, core_size a) in
    let q = built_leaf 2 v (o + 1 + steps_of a) two three (omega arith) (grown_on a (o + 1) one two n g inside) closing in
    let r = built_join (core a) (Tree.leaf 2 v) (o + 1) one two three four n mark small (omega arith) g inside (rw e at q) (rw e at inner) in
    built_join (Tree.leaf 1 v) (Tree.cat (core a) (Tree.leaf 2 v)) o old one four new mark (joint n mark) (omega arith) (omega arith) f p r outer

pub grown_whole : {K : ℕ} {s : List ℕ} {a : Pat} → Pattern K s a → length s ≤ 255 → (old new : List ℕ) (n : ℕ) → Cleared old → Built (core a) 0 old new n → (x y : ℕ) → 0 < x + y → x < 32 → y < 32 → at new x y ≡ arc_of a x y
grown_whole {a = a} p few old new n c b = built_whole (core a) old new n (omega (arith, few_tolls p few)) c b
