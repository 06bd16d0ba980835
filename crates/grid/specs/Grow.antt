-- A tree built into the cells, over what was there: what the functions of the crate make of its parts.
--
-- at l x y            the word of the arc from x to y
-- Fresh o l           nothing is built of the states after o
-- Built a o old new n the arcs of a tree, whose steps are numbered from o on, over the old cells; n is its weight for no step
-- fresh_cleared, fresh_on   a cleared grid is fresh, and where a tree was built it is so after its steps
-- built_whole         a tree built into a cleared grid: each word is its arc
-- built_leaf, built_toll, built_empty, built_alt, built_join, built_star   each kind of tree, built by leaf, nothing, nothing,
--                     nothing, join, again
use Rattle.std.specs.Prelude.{◌≡◌, refl, Bool, true, false, cond, List, get_or, leb, ltb, eqb}
use Rattle.std.proofs.Common.{sym, ap, ◌∙◌}
use Rattle.std.proofs.Math.Path.{ap₂}
use Prim.Native.Nat.{ℕ, zero, suc, ◌+◌, ◌*◌, ◌/◌, ◌%◌, ◌≤◌, ◌<◌, min}
use native.Mathlib.Omega.{arith}
use Rattle.std.proofs.Math.Decide.{dec_le, ℕ_discrete}
use borrow.Author.Tests.{lt-ltb, le-ltb, le-leb, lt-leb, eq-eqb, ne_eqb}
use Rattle.weight.specs.Weight.{lighter, joint, mark, lighter_to, joint_to}
use Rattle.weight.specs.Tropical.{lighter_comm, lighter_assoc, joint_comm}
use Rattle.arcs.specs.Tree.{Tree, leaf, toll, empty, alt, cat, star, size, tolls}
use Rattle.arcs.specs.Arcs.{arc, cat_arc, star_arc}
use Rattle.arcs.specs.Apart.{below, above, out_from, out_to}
use Rattle.arcs.specs.Tight.{arc_cap}
use Rattle.grid.specs.Cells.{bridge, extra, Cleared, Leafed, Linked, Raised, Joined}

abbrev pub at : List ℕ → ℕ → ℕ → ℕ
at l x y = get_or l (x * 32 + y) 0

pub record Fresh (o : ℕ) (l : List ℕ) : Type 0 where
  pub capped : (x y : ℕ) → 0 < x + y → x < 32 → y < 32 → at l x y ≤ mark
  pub rows : (x y : ℕ) → o ≤ x → suc x < 32 → y < 32 → at l (suc x) y ≡ mark
  pub columns : (x y : ℕ) → o ≤ y → x < 32 → suc y < 32 → at l x (suc y) ≡ mark

pub record Built (a : Tree) (o : ℕ) (old new : List ℕ) (nul : ℕ) : Type 0 where
  pub root : nul ≡ arc a o 0 0
  pub cell : (x y : ℕ) → 0 < x + y → x < 32 → y < 32 → at new x y ≡ lighter (at old x y) (arc a o x y)

assoc : (a b c : ℕ) → lighter (lighter a b) c ≡ lighter a (lighter b c)
assoc a b c = lighter_assoc mark a b c

swap : (u v w : ℕ) → lighter (lighter u v) w ≡ lighter (lighter u w) v
swap u v w = assoc u v w ∙ ap (lighter u) (lighter_comm mark v w) ∙ sym (assoc u w v)

no_more : (a b : ℕ) → joint (lighter a b) 0 ≡ lighter a b
unfolding lighter_to joint_to
no_more a b = omega arith

still : (a b : ℕ) → lighter (lighter a b) mark ≡ lighter a b
unfolding lighter_to
still a b = omega arith

drop_right : (a b c : ℕ) → mark ≤ c → lighter (lighter a b) c ≡ lighter a b
unfolding lighter_to
drop_right a b c h = omega arith

just : (a b : ℕ) → a ≡ mark → b ≤ mark → lighter a b ≡ b
unfolding lighter_to
just a b e h = omega arith

-- at an edge the link does nothing
pub flat : (s t : Bool) → cond s mark (cond t mark mark) ≡ mark
flat true t = refl
flat false true = refl
flat false false = refl

-- one more lookup in place of an index
linked : (lo hi next : ℕ) (old new : List ℕ) → Linked lo hi next old new → (x y : ℕ) → x < 32 → y < 32
    → at new x y ≡ lighter (at old x y) (cond (leb x lo) mark (cond (ltb hi x) mark (cond (leb y next) mark (joint (at old x 0) (at old 0 y)))))
unfolding bridge
linked lo hi next old new k x y hx hy =
    k.cell (x * 32 + y) (omega arith)
    ∙ ap (lighter (at old x y)) (there ((x * 32 + y) / 32) ((x * 32 + y) % 32) (omega arith) (omega arith))
  where
    there : (u v : ℕ) → u ≡ x → v ≡ y → cond (leb u lo) mark (cond (ltb hi u) mark (cond (leb v next) mark (joint (get_or old (u * 32) 0) (get_or old v 0)))) ≡ cond (leb x lo) mark (cond (ltb hi x) mark (cond (leb y next) mark (joint (at old x 0) (at old 0 y))))
    there u v e f =
        let i : x * 32 ≡ x * 32 + 0 = omega arith in
        let j : y ≡ 0 * 32 + y = omega arith in
        rw (e, f) (ap₂ (λ (p q : ℕ). cond (leb x lo) mark (cond (ltb hi x) mark (cond (leb y next) mark (joint (get_or old p 0) (get_or old q 0))))) i j)

raised : (lo hi ending next beginning : ℕ) (old new : List ℕ) → Raised lo hi ending next beginning old new → (x y : ℕ) → x < 32 → y < 32
    → at new x y ≡ joint (at old x y) (cond (eqb y 0) (cond (leb x lo) 0 (cond (ltb hi x) 0 ending)) (cond (eqb x 0) (cond (leb y next) 0 beginning) 0))
unfolding extra
raised lo hi ending next beginning old new k x y hx hy =
    let e : (x * 32 + y) / 32 ≡ x = omega arith in
    let f : (x * 32 + y) % 32 ≡ y = omega arith in
    rw (e, f) at (k.cell (x * 32 + y) (omega arith))

pub fresh_cleared : (l : List ℕ) → Cleared l → Fresh 0 l
fresh_cleared l c =
    record {
      capped = λ x y h hx hy. omega (arith, c.cell (x * 32 + y) (omega arith));
      rows = λ x y h hx hy. c.cell (suc x * 32 + y) (omega arith);
      columns = λ x y h hx hy. c.cell (x * 32 + suc y) (omega arith);
    }

-- a whole tree: its arcs, and nothing else
pub built_whole : (a : Tree) (old new : List ℕ) (n : ℕ) → tolls a ≤ mark → Cleared old → Built a 0 old new n → (x y : ℕ) → 0 < x + y → x < 32 → y < 32 → at new x y ≡ arc a 0 x y
built_whole a old new n small c b x y h hx hy = b.cell x y h hx hy ∙ just _ _ (c.cell (x * 32 + y) (omega arith)) (arc_cap a 0 x y small)

-- what is built stays so where the rest goes on
pub fresh_on : (a : Tree) (o : ℕ) (old new : List ℕ) (n : ℕ) → Fresh o old → Built a o old new n → Fresh (o + size a) new
unfolding lighter_to
fresh_on a o old new n f b =
    record {
      capped = λ x y h hx hy. omega (arith, b.cell x y h hx hy);
      rows = λ x y h hx hy. b.cell (suc x) y (omega arith) hx hy ∙ ap (λ (z : ℕ). lighter z (arc a o (suc x) y)) (f.rows x y (omega arith) hx hy) ∙ top (arc a o (suc x) y) (out_from a o x y (above h));
      columns = λ x y h hx hy. b.cell x (suc y) (omega arith) hx hy ∙ ap (λ (z : ℕ). lighter z (arc a o x (suc y))) (f.columns x y (omega arith) hx hy) ∙ top (arc a o x (suc y)) (out_to a o x y (above h));
    }
  where
    top : (z : ℕ) → mark ≤ z → lighter mark z ≡ mark
    top z h = omega arith

-- one or the other: nothing to do
pub built_alt : (a b : Tree) (o : ℕ) (old mid new : List ℕ) (n m : ℕ) → Built a o old mid n → Built b (o + size a) mid new m → Built (alt a b) o old new (lighter n m)
unfolding arc
built_alt a b o old mid new n m p q =
    record {
      root = ap₂ lighter p.root q.root;
      cell = λ x y h hx hy. q.cell x y h hx hy ∙ ap (λ (z : ℕ). lighter z (arc b (o + size a) x y)) (p.cell x y h hx hy) ∙ assoc (at old x y) (arc a o x y) (arc b (o + size a) x y);
    }

-- again and again
module _ (a : Tree) (o : ℕ) (old mid new : List ℕ) (n : ℕ) (small : tolls a ≤ mark) (f : Fresh o old) (b : Built a o old mid n) (k : Linked o 31 o mid new) where
  star_row : (y : ℕ) → suc y < 32 → at new 0 (suc y) ≡ lighter (at old 0 (suc y)) (arc a o 0 (suc y))
  star_row y hy = linked o 31 o mid new k 0 (suc y) (omega arith) hy ∙ rw (le-leb 0 o (omega arith)) (ap (λ (z : ℕ). lighter z mark) (b.cell 0 (suc y) (omega arith) (omega arith) hy) ∙ still (at old 0 (suc y)) (arc a o 0 (suc y)))

  star_column : (x : ℕ) → suc x < 32 → at new (suc x) 0 ≡ lighter (at old (suc x) 0) (arc a o (suc x) 0)
  star_column x hx = linked o 31 o mid new k (suc x) 0 hx (omega arith) ∙ rw (le-leb 0 o (omega arith)) (ap₂ lighter (b.cell (suc x) 0 (omega arith) hx (omega arith)) (flat (leb (suc x) o) (ltb 31 (suc x))) ∙ still (at old (suc x) 0) (arc a o (suc x) 0))

  star_bridge : (x y : ℕ) → suc x < 32 → suc y < 32 → Dec (suc x ≤ o) → Dec (suc y ≤ o)
      → cond (leb (suc x) o) mark (cond (ltb 31 (suc x)) mark (cond (leb (suc y) o) mark (joint (at mid (suc x) 0) (at mid 0 (suc y))))) ≡ joint (arc a o (suc x) 0) (arc a o 0 (suc y))
  unfolding joint_to
  star_bridge x y hx hy (yes h) e = rw (le-leb (suc x) o h) (omega (arith, out_from a o x 0 (below h)))
  star_bridge x y hx hy (no h) (yes e) = rw (lt-leb (suc x) o (omega arith), le-ltb 31 (suc x) (omega arith), le-leb (suc y) o e) (omega (arith, out_to a o 0 y (below e)))
  star_bridge x y hx hy (no h) (no e) =
      rw (lt-leb (suc x) o (omega arith), le-ltb 31 (suc x) (omega arith), lt-leb (suc y) o (omega arith))
      (ap₂ joint
      (b.cell (suc x) 0 (omega arith) hx (omega arith) ∙ just _ _ (f.rows x 0 (omega arith) hx (omega arith)) (arc_cap a o (suc x) 0 small))
      (b.cell 0 (suc y) (omega arith) (omega arith) hy ∙ just _ _ (f.columns 0 y (omega arith) (omega arith) hy) (arc_cap a o 0 (suc y) small)))

  pub built_star : Built (star a) o old new 0
  unfolding arc
  built_star = record { root = refl; cell = go }
    where
      go : (x y : ℕ) → 0 < x + y → x < 32 → y < 32 → at new x y ≡ lighter (at old x y) (star_arc (arc a o) x y)
      go zero zero h hx hy = absurd (omega arith)
      go zero (suc y) h hx hy = star_row y hy
      go (suc x) zero h hx hy = star_column x hx
      go (suc x) (suc y) h hx hy =
          linked o 31 o mid new k (suc x) (suc y) hx hy
          ∙ ap₂ lighter (b.cell (suc x) (suc y) h hx hy) (star_bridge x y hx hy (dec_le (suc x) o) (dec_le (suc y) o))
          ∙ assoc (at old (suc x) (suc y)) (arc a o (suc x) (suc y)) (joint (arc a o (suc x) 0) (arc a o 0 (suc y)))

-- one after the other
module _ (a b : Tree) (o : ℕ) (old one two three four : List ℕ) (n m : ℕ) (small_a : tolls a ≤ mark) (small_b : tolls b ≤ mark)
    (f : Fresh o old) (p : Built a o old one n) (q : Built b (o + size a) one two m)
    (k : Linked o (o + size a) (o + size a) two three) (r : Raised o (o + size a) m (o + size a) n three four) where
  abbrev mid : ℕ
  mid = o + size a

  abbrev A : ℕ → ℕ → ℕ
  A = arc a o

  abbrev B : ℕ → ℕ → ℕ
  B = arc b mid

  both : (x y : ℕ) → 0 < x + y → x < 32 → y < 32 → at two x y ≡ lighter (lighter (at old x y) (A x y)) (B x y)
  both x y h hx hy = q.cell x y h hx hy ∙ ap (λ (z : ℕ). lighter z (B x y)) (p.cell x y h hx hy)

  edge_row : (y : ℕ) → suc y < 32 → at three 0 (suc y) ≡ lighter (lighter (at old 0 (suc y)) (A 0 (suc y))) (B 0 (suc y))
  edge_row y hy =
      linked o mid mid two three k 0 (suc y) (omega arith) hy
      ∙ rw (le-leb 0 o (omega arith)) (ap (λ (z : ℕ). lighter z mark) (both 0 (suc y) (omega arith) (omega arith) hy) ∙ still (lighter (at old 0 (suc y)) (A 0 (suc y))) (B 0 (suc y)))

  edge_column : (x : ℕ) → suc x < 32 → at three (suc x) 0 ≡ lighter (lighter (at old (suc x) 0) (A (suc x) 0)) (B (suc x) 0)
  edge_column x hx =
      linked o mid mid two three k (suc x) 0 hx (omega arith)
      ∙ rw (le-leb 0 mid (omega arith)) (ap₂ lighter (both (suc x) 0 (omega arith) hx (omega arith)) (flat (leb (suc x) o) (ltb mid (suc x))) ∙ still (lighter (at old (suc x) 0) (A (suc x) 0)) (B (suc x) 0))

  -- an edge in the other part's range, and in its own
  low_edge : (u v w c : ℕ) → mark ≤ w → joint (lighter (lighter u v) w) 0 ≡ lighter u (lighter v (joint c w))
  unfolding lighter_to joint_to
  low_edge u v w c h =
      let e : joint c w ≡ mark = omega arith in
      no_more (lighter u v) w ∙ drop_right u v w h ∙ rw e (sym (still u v) ∙ assoc u v mark)

  high_edge : (u v w c : ℕ) → u ≡ mark → mark ≤ v → joint (lighter (lighter u v) w) c ≡ lighter u (lighter v (joint c w))
  unfolding lighter_to joint_to
  high_edge u v w c e h = left ∙ right
    where
      left : joint (lighter (lighter u v) w) c ≡ joint c w
      left = let i : lighter u v ≡ mark = omega arith in rw i (let j : lighter mark w ≡ min mark w = omega arith in rw j (omega arith))

      right : joint c w ≡ lighter u (lighter v (joint c w))
      right = let i : lighter v (joint c w) ≡ joint c w = omega arith in rw i (omega arith)

  cat_row : (y : ℕ) → suc y < 32 → Dec (suc y ≤ mid) → at four 0 (suc y) ≡ lighter (at old 0 (suc y)) (cat_arc A B 0 (suc y))
  cat_row y hy (yes h) =
      raised o mid m mid n three four r 0 (suc y) (omega arith) hy
      ∙ rw (ne_eqb (suc y) 0 (omega arith), le-leb (suc y) mid h) (ap (λ (z : ℕ). joint z 0) (edge_row y hy) ∙ low_edge _ _ _ (A 0 0) (out_to b mid 0 y (below h)))
  cat_row y hy (no h) =
      raised o mid m mid n three four r 0 (suc y) (omega arith) hy
      ∙ rw (ne_eqb (suc y) 0 (omega arith), lt-leb (suc y) mid (omega arith)) (ap₂ joint (edge_row y hy) p.root ∙ high_edge _ _ _ (A 0 0) (f.columns 0 y (omega arith) (omega arith) hy) (out_to a o 0 y (above (omega arith))))

  turn : (v c : ℕ) → joint c v ≡ joint v c
  turn v c = joint_comm mark c v

  cat_column : (x : ℕ) → suc x < 32 → Dec (suc x ≤ o) → Dec (suc x ≤ mid) → at four (suc x) 0 ≡ lighter (at old (suc x) 0) (cat_arc A B (suc x) 0)
  cat_column x hx (yes h) e =
      raised o mid m mid n three four r (suc x) 0 hx (omega arith)
      ∙ rw (le-leb (suc x) o h) (ap (λ (z : ℕ). joint z 0) (edge_column x hx ∙ swap _ _ _) ∙ low_edge _ _ _ (B 0 0) (out_from a o x 0 (below h)) ∙ ap (λ (z : ℕ). lighter (at old (suc x) 0) (lighter (B (suc x) 0) z)) (turn (A (suc x) 0) (B 0 0)))
  cat_column x hx (no h) (no e) =
      raised o mid m mid n three four r (suc x) 0 hx (omega arith)
      ∙ rw (lt-leb (suc x) o (omega arith), lt-ltb mid (suc x) (omega arith)) (ap (λ (z : ℕ). joint z 0) (edge_column x hx ∙ swap _ _ _) ∙ low_edge _ _ _ (B 0 0) (out_from a o x 0 (above (omega arith))) ∙ ap (λ (z : ℕ). lighter (at old (suc x) 0) (lighter (B (suc x) 0) z)) (turn (A (suc x) 0) (B 0 0)))
  cat_column x hx (no h) (yes e) =
      raised o mid m mid n three four r (suc x) 0 hx (omega arith)
      ∙ rw (lt-leb (suc x) o (omega arith), le-ltb mid (suc x) e) (ap₂ joint (edge_column x hx ∙ swap _ _ _) q.root ∙ high_edge _ _ _ (B 0 0) (f.rows x 0 (omega arith) hx (omega arith)) (out_from b mid x 0 (below e)) ∙ ap (λ (z : ℕ). lighter (at old (suc x) 0) (lighter (B (suc x) 0) z)) (turn (A (suc x) 0) (B 0 0)))

  only_first : (u v w : ℕ) → u ≡ mark → v ≤ mark → mark ≤ w → lighter (lighter u v) w ≡ v
  only_first u v w e h i = drop_right u v w i ∙ just u v e h

  cat_bridge : (x y : ℕ) → suc x < 32 → suc y < 32 → Dec (suc x ≤ o) → Dec (suc x ≤ mid) → Dec (suc y ≤ mid)
      → cond (leb (suc x) o) mark (cond (ltb mid (suc x)) mark (cond (leb (suc y) mid) mark (joint (at two (suc x) 0) (at two 0 (suc y))))) ≡ joint (A (suc x) 0) (B 0 (suc y))
  unfolding joint_to
  cat_bridge x y hx hy (yes h) e g = rw (le-leb (suc x) o h) (omega (arith, out_from a o x 0 (below h)))
  cat_bridge x y hx hy (no h) (no e) g = rw (lt-leb (suc x) o (omega arith), lt-ltb mid (suc x) (omega arith)) (omega (arith, out_from a o x 0 (above (omega arith))))
  cat_bridge x y hx hy (no h) (yes e) (yes g) = rw (lt-leb (suc x) o (omega arith), le-ltb mid (suc x) e, le-leb (suc y) mid g) (omega (arith, out_to b mid 0 y (below g)))
  cat_bridge x y hx hy (no h) (yes e) (no g) =
      rw (lt-leb (suc x) o (omega arith), le-ltb mid (suc x) e, lt-leb (suc y) mid (omega arith))
      (ap₂ joint
      (both (suc x) 0 (omega arith) hx (omega arith) ∙ only_first _ _ _ (f.rows x 0 (omega arith) hx (omega arith)) (arc_cap a o (suc x) 0 small_a) (out_from b mid x 0 (below e)))
      (both 0 (suc y) (omega arith) (omega arith) hy ∙ swap _ _ _ ∙ only_first _ _ _ (f.columns 0 y (omega arith) (omega arith) hy) (arc_cap b mid 0 (suc y) small_b) (out_to a o 0 y (above (omega arith)))))

  cat_inner : (x y : ℕ) → suc x < 32 → suc y < 32 → at four (suc x) (suc y) ≡ lighter (at old (suc x) (suc y)) (cat_arc A B (suc x) (suc y))
  cat_inner x y hx hy =
      raised o mid m mid n three four r (suc x) (suc y) hx hy
      ∙ rw (ne_eqb (suc x) 0 (omega arith), ne_eqb (suc y) 0 (omega arith))
      (ap (λ (z : ℕ). joint z 0)
      (linked o mid mid two three k (suc x) (suc y) hx hy
      ∙ ap₂ lighter (both (suc x) (suc y) (omega arith) hx hy ∙ assoc _ _ _) (cat_bridge x y hx hy (dec_le (suc x) o) (dec_le (suc x) mid) (dec_le (suc y) mid)))
      ∙ no_more _ _
      ∙ assoc _ _ _)

  pub built_cat : Built (cat a b) o old four (joint n m)
  unfolding arc
  built_cat = record { root = ap₂ joint p.root q.root; cell = go }
    where
      go : (x y : ℕ) → 0 < x + y → x < 32 → y < 32 → at four x y ≡ lighter (at old x y) (cat_arc A B x y)
      go zero zero h hx hy = absurd (omega arith)
      go zero (suc y) h hx hy = cat_row y hy (dec_le (suc y) mid)
      go (suc x) zero h hx hy = cat_column x hx (dec_le (suc x) o) (dec_le (suc x) mid)
      go (suc x) (suc y) h hx hy = cat_inner x y hx hy

pub built_join : (a b : Tree) (o : ℕ) (old one two new : List ℕ) (n m : ℕ) → tolls a ≤ mark → tolls b ≤ mark → Fresh o old → Built a o old one n → Built b (o + size a) one two m → Joined o (o + size a) n m two new → Built (cat a b) o old new (joint n m)
built_join a b o old one two new n m sa sb f p q j = built_cat a b o old one two j.between new n m sa sb f p q j.link j.raise

-- a toll is built by nothing
pub built_toll : (n o : ℕ) (old : List ℕ) → Fresh o old → Built (toll n) o old old n
unfolding arc lighter_to
built_toll n o old f = record { root = refl; cell = go }
  where
    same : (v : ℕ) → v ≤ mark → v ≡ lighter v mark
    same v h = omega arith

    go : (x y : ℕ) → 0 < x + y → x < 32 → y < 32 → at old x y ≡ lighter (at old x y) (arc (toll n) o x y)
    go zero zero h hx hy = absurd (omega arith)
    go zero (suc y) h hx hy = same _ (f.capped 0 (suc y) h hx hy)
    go (suc x) y h hx hy = same _ (f.capped (suc x) y h hx hy)

pub built_empty : (o : ℕ) (old : List ℕ) → Fresh o old → Built empty o old old 0
unfolding arc
built_empty o old f = let b = built_toll 0 o old f in record { root = b.root; cell = b.cell }

pub built_leaf : (k v o : ℕ) (old new : List ℕ) → o + 1 < 32 → Fresh o old → Leafed o old new → Built (leaf k v) o old new mark
unfolding arc lighter_to
built_leaf k v o old new b f l = record { root = refl; cell = go }
  where
    same : (v : ℕ) → v ≤ mark → v ≡ lighter v mark
    same v h = omega arith

    other : (x y : ℕ) → (x * 32 + y ≡ o + 1 → ⊥) → (x * 32 + y ≡ (o + 1) * 32 → ⊥) → at new x y ≡ at old x y
    other x y g h = l.cell (x * 32 + y) ∙ rw (ne_eqb (x * 32 + y) (o + 1) g, ne_eqb (x * 32 + y) ((o + 1) * 32) h)

    first : (y : ℕ) → suc y < 32 → Dec (y ≡ o) → at new 0 (suc y) ≡ lighter (at old 0 (suc y)) (cond (eqb y o) 0 mark)
    first y hy (yes e) = l.cell (0 * 32 + suc y) ∙ rw (eq-eqb (0 * 32 + suc y) (o + 1) (omega arith), eq-eqb y o e) (omega arith)
    first y hy (no e) = rw (ne_eqb y o e) (other 0 (suc y) (omega arith) (omega arith) ∙ same _ (f.capped 0 (suc y) (omega arith) (omega arith) hy))

    last : (x : ℕ) → suc x < 32 → Dec (x ≡ o) → at new (suc x) 0 ≡ lighter (at old (suc x) 0) (cond (eqb x o) 0 mark)
    last x hx (yes e) = l.cell (suc x * 32 + 0) ∙ rw (ne_eqb (suc x * 32 + 0) (o + 1) (omega arith), eq-eqb (suc x * 32 + 0) ((o + 1) * 32) (omega arith), eq-eqb x o e) (omega arith)
    last x hx (no e) = rw (ne_eqb x o e) (other (suc x) 0 (omega arith) (omega arith) ∙ same _ (f.capped (suc x) 0 (omega arith) hx (omega arith)))

    go : (x y : ℕ) → 0 < x + y → x < 32 → y < 32 → at new x y ≡ lighter (at old x y) (arc (leaf k v) o x y)
    go zero zero h hx hy = absurd (omega arith)
    go zero (suc y) h hx hy = first y hy (ℕ_discrete y o)
    go (suc x) zero h hx hy = last x hx (ℕ_discrete x o)
    go (suc x) (suc y) h hx hy = other (suc x) (suc y) (omega arith) (omega arith) ∙ same _ (f.capped (suc x) (suc y) h hx hy)
