-- Each way along arcs that are there is taken by a derivation of no more charge.
--
-- Made a o w n    some derivation of a, whose steps are numbered from o on, has the steps w, and at most n is charged in it
-- Split A B x w n w in two parts, the one along A and the other along B, of at most n together
-- Tail a o x w n  w as what is left of a pass after x, and the passes after it
use Rattle.std.specs.Prelude.{◌≡◌, refl, ◌⊎◌}
use Rattle.std.proofs.Math.Path.{ap}
use Rattle.std.proofs.Common.{◌∙◌, ne_eqb}
use Rattle.std.proofs.Math.Logic.{inl, inr}
use mathlib.Core.List.{List, [], ◌∷◌, ◌++◌}
use Prim.Native.Nat.{ℕ, zero, suc, ◌+◌, ◌≤◌, ◌<◌}
use native.Mathlib.Omega.{arith}
use Rattle.std.proofs.Math.Decide.{dec_lt, dec_le, ℕ_discrete}
use Rattle.weight.specs.Weight.{mark, lighter_to, joint_to}
use Rattle.pattern.specs.Derivations.{Item, step, charged, steps, charges}
use Rattle.arcs.specs.Tree.{Tree, leaf, toll, empty, alt, cat, star, size, TreeDer, taken, paid, blank, left, right, then, stop, pass}
use Rattle.arcs.specs.Arcs.{leaf_arc, toll_arc, alt_arc, cat_arc, star_arc, arc, path, Open}
use Rattle.arcs.specs.Apart.{below, above, out_from, out_to}

pub steps_append : (t s : List Item) → steps (t ++ s) ≡ steps t ++ steps s
steps_append [] s = refl
steps_append (step p ∷ t) s = ap (λ l. p ∷ l) (steps_append t s)
steps_append (charged n ∷ t) s = steps_append t s

pub charges_append : (t s : List Item) → charges (t ++ s) ≡ charges t + charges s
charges_append [] s = omega arith
charges_append (step p ∷ t) s = charges_append t s
charges_append (charged n ∷ t) s = omega (arith, charges_append t s)

pub record Made (a : Tree) (o : ℕ) (w : List ℕ) (n : ℕ) : Type 0 where
  pub trace : List Item
  pub derived : TreeDer a o trace
  pub word : steps trace ≡ w
  pub light : charges trace ≤ n

record Split (A B : ℕ → ℕ → ℕ) (x : ℕ) (w : List ℕ) (n : ℕ) : Type 0 where
  one : List ℕ
  two : List ℕ
  whole : w ≡ one ++ two
  first : Open A x one
  second : Open B 0 two
  light : path A x one + path B 0 two ≤ n

abbrev Low : ℕ → ℕ → Type 0
Low mid zero = Unit {0}
Low mid (suc x) = x < mid

-- the way w is there along A, and no heavier than along C
abbrev Along : (ℕ → ℕ → ℕ) → (ℕ → ℕ → ℕ) → ℕ → List ℕ → Type 0
Along A C x w = Open A x w × (path A x w ≤ path C x w)

-- where C keeps to A in the states of P
only : (A C : ℕ → ℕ → ℕ) (P : ℕ → Type 0)
    → ((x y : ℕ) → P x → C (suc x) y < mark → (A (suc x) y < mark) × (A (suc x) y ≤ C (suc x) y))
    → ((x y : ℕ) → A x (suc y) < mark → P y)
    → (x : ℕ) (w : List ℕ) → P x → Open C (suc x) w → Along A C (suc x) w
only A C P keeps on x [] h k = let e = keeps x 0 h k.0 in ((e.0, tt), e.1)
only A C P keeps on x (q ∷ w) h k =
    let e = keeps x (suc q) h k.0 in
    let r = only A C P keeps on q w (on (suc x) q e.0) k.1 in
    ((e.0, r.0), omega (arith, e.1, r.1))

module _ (A B : ℕ → ℕ → ℕ) (mid : ℕ)
    (a_from : (x y : ℕ) → mid ≤ x → mark ≤ A (suc x) y) (a_to : (x y : ℕ) → mid ≤ y → mark ≤ A x (suc y))
    (b_from : (x y : ℕ) → x < mid → mark ≤ B (suc x) y) (b_to : (x y : ℕ) → y < mid → mark ≤ B x (suc y)) where
  stay : (x q : ℕ) → Low mid x → q < mid → cat_arc A B x (suc q) < mark → (A x (suc q) < mark) × (A x (suc q) ≤ cat_arc A B x (suc q))
  unfolding lighter_to joint_to
  stay zero q l h k = omega (arith, b_to 0 q h)
  stay (suc x) q l h k = omega (arith, b_to 0 q h, b_to (suc x) q h)

  move : (x q : ℕ) → Low mid x → mid ≤ q → cat_arc A B x (suc q) < mark → (A x 0 < mark) × (B 0 (suc q) < mark) × (A x 0 + B 0 (suc q) ≤ cat_arc A B x (suc q))
  unfolding lighter_to joint_to
  move zero q l h k = omega (arith, a_to 0 q h)
  move (suc x) q l h k = omega (arith, a_to (suc x) q h, b_from x (suc q) l)

  end : (x : ℕ) → Low mid x → cat_arc A B x 0 < mark → (A x 0 < mark) × (B 0 0 < mark) × (A x 0 + B 0 0 ≤ cat_arc A B x 0)
  unfolding lighter_to joint_to
  end zero l k = omega arith
  end (suc x) l k = omega (arith, b_from x 0 l)

  beyond : (x : ℕ) (w : List ℕ) → mid ≤ x → Open (cat_arc A B) (suc x) w → Along B (cat_arc A B) (suc x) w
  unfolding lighter_to joint_to
  beyond = only B (cat_arc A B) (λ x. mid ≤ x) within (λ x y h. at_least x y h (dec_le mid y))
    where
      within : (x y : ℕ) → mid ≤ x → cat_arc A B (suc x) y < mark → (B (suc x) y < mark) × (B (suc x) y ≤ cat_arc A B (suc x) y)
      within x zero h k = omega (arith, a_from x 0 h)
      within x (suc y) h k = omega (arith, a_from x (suc y) h, a_from x 0 h)

      at_least : (x y : ℕ) → B x (suc y) < mark → Dec (mid ≤ y) → mid ≤ y
      at_least x y h (yes g) = g
      at_least x y h (no g) = absurd (omega (arith, b_to x y (omega arith)))

  parts : (x : ℕ) (w : List ℕ) → Low mid x → Open (cat_arc A B) x w → Split A B x w (path (cat_arc A B) x w)
  parts x [] l k = let e = end x l k.0 in record { one = []; two = []; whole = refl; first = (e.0, tt); second = (e.1, tt); light = e.2 }
  parts x (q ∷ w) l k = go (dec_lt q mid) (parts (suc q) w)
    where
      go : Dec (q < mid) → (Low mid (suc q) → Open (cat_arc A B) (suc q) w → Split A B (suc q) w (path (cat_arc A B) (suc q) w)) → Split A B x (q ∷ w) (path (cat_arc A B) x (q ∷ w))
      go (yes h) ih =
          let r = ih h k.1 in
          let e = stay x q l h k.0 in
          record { one = q ∷ r.one; two = r.two; whole = ap (λ l. q ∷ l) r.whole; first = (e.0, r.first); second = r.second; light = omega (arith, e.1, r.light) }
      go (no h) ih =
          let e = move x q l (omega arith) k.0 in
          let r = beyond q w (omega arith) k.1 in
          record { one = []; two = q ∷ w; whole = refl; first = (e.0, tt); second = (e.1, r.0); light = omega (arith, e.2, r.1) }

  sides : (w : List ℕ) → Open (alt_arc A B) 0 w → Along A (alt_arc A B) 0 w ⊎ Along B (alt_arc A B) 0 w
  unfolding lighter_to
  sides [] k = go (dec_le (A 0 0) (B 0 0))
    where
      go : Dec (A 0 0 ≤ B 0 0) → Along A (alt_arc A B) 0 [] ⊎ Along B (alt_arc A B) 0 []
      go (yes h) = inl ((omega (arith, k.0), tt), omega arith)
      go (no h) = inr ((omega (arith, k.0), tt), omega arith)
  sides (q ∷ w) k = go (dec_lt q mid)
    where
      under : (x y : ℕ) → A x (suc y) < mark → Dec (y < mid) → y < mid
      under x y h (yes g) = g
      under x y h (no g) = absurd (omega (arith, a_to x y (omega arith)))

      over : (x y : ℕ) → B x (suc y) < mark → Dec (mid ≤ y) → mid ≤ y
      over x y h (yes g) = g
      over x y h (no g) = absurd (omega (arith, b_to x y (omega arith)))

      go : Dec (q < mid) → Along A (alt_arc A B) 0 (q ∷ w) ⊎ Along B (alt_arc A B) 0 (q ∷ w)
      go (yes h) =
          let r = only A (alt_arc A B) (λ x. x < mid) (λ x y g e. omega (arith, b_from x y g)) (λ x y e. under x y e (dec_lt y mid)) q w h k.1 in
          inl ((omega (arith, k.0, b_to 0 q h), r.0), omega (arith, k.0, b_to 0 q h, r.1))
      go (no h) =
          let f : mid ≤ q = omega arith in
          let r = only B (alt_arc A B) (λ x. mid ≤ x) (λ x y g e. omega (arith, a_from x y g)) (λ x y e. over x y e (dec_le mid y)) q w f k.1 in
          inr ((omega (arith, k.0, a_to 0 q f), r.0), omega (arith, k.0, a_to 0 q f, r.1))

made_cat : {a b : Tree} {o : ℕ} {w : List ℕ} {n : ℕ} (u v : List ℕ) (i j : ℕ) → w ≡ u ++ v → i + j ≤ n → Made a o u i → Made b (o + size a) v j → Made (cat a b) o w n
made_cat u v i j e h p q =
    record {
      trace = p.trace ++ q.trace;
      derived = then p.derived q.derived;
      word = steps_append p.trace q.trace ∙ cc;
      light = omega (arith, charges_append p.trace q.trace, p.light, q.light);
    }

made_pass : {a : Tree} {o : ℕ} {w : List ℕ} {n : ℕ} (u v : List ℕ) (i j : ℕ) → w ≡ u ++ v → i + j ≤ n → Made a o u i → Made (star a) o v j → Made (star a) o w n
made_pass u v i j e h p q =
    record {
      trace = p.trace ++ q.trace;
      derived = pass p.derived q.derived;
      word = steps_append p.trace q.trace ∙ cc;
      light = omega (arith, charges_append p.trace q.trace, p.light, q.light);
    }

record Tail (a : Tree) (o x : ℕ) (w : List ℕ) (n : ℕ) : Type 0 where
  one : List ℕ
  two : List ℕ
  cost : ℕ
  whole : w ≡ one ++ two
  first : Open (arc a o) x one
  second : Made (star a) o two cost
  light : path (arc a o) x one + cost ≤ n

module _ (a : Tree) (o : ℕ) (ih : (w : List ℕ) → Open (arc a o) 0 w → Made a o w (path (arc a o) 0 w)) where
  none : Made (star a) o [] 0
  none = record { trace = []; derived = stop; word = refl; light = omega arith }

  -- a pass that begins with q
  again : (q n : ℕ) (w : List ℕ) → arc a o 0 (suc q) < mark → Tail a o (suc q) w n → Made (star a) o (q ∷ w) (arc a o 0 (suc q) + n)
  again q n w h r =
      made_pass (q ∷ r.one) r.two (path (arc a o) 0 (q ∷ r.one)) r.cost (ap (λ l. q ∷ l) r.whole) (omega (arith, r.light)) (ih (q ∷ r.one) (h, r.first)) r.second

  tail : (x : ℕ) (w : List ℕ) → Open (star_arc (arc a o)) (suc x) w → Tail a o (suc x) w (path (star_arc (arc a o)) (suc x) w)
  unfolding lighter_to joint_to
  tail x [] k = record { one = []; two = []; cost = 0; whole = refl; first = k; second = none; light = omega arith }
  tail x (q ∷ w) k = go (dec_le (arc a o (suc x) (suc q)) (arc a o (suc x) 0 + arc a o 0 (suc q))) (tail q w k.1)
    where
      go : Dec (arc a o (suc x) (suc q) ≤ arc a o (suc x) 0 + arc a o 0 (suc q)) → Tail a o (suc q) w (path (star_arc (arc a o)) (suc q) w) → Tail a o (suc x) (q ∷ w) (path (star_arc (arc a o)) (suc x) (q ∷ w))
      go (yes h) r =
          record {
            one = q ∷ r.one;
            two = r.two;
            cost = r.cost;
            whole = ap (λ l. q ∷ l) r.whole;
            first = (omega (arith, k.0), r.first);
            second = r.second;
            light = omega (arith, k.0, r.light);
          }
      go (no h) r =
          record {
            one = [];
            two = q ∷ w;
            cost = arc a o 0 (suc q) + path (star_arc (arc a o)) (suc q) w;
            whole = refl;
            first = (omega (arith, k.0), tt);
            second = again q _ w (omega (arith, k.0)) r;
            light = omega (arith, k.0);
          }

  passes : (w : List ℕ) → Open (star_arc (arc a o)) 0 w → Made (star a) o w (path (star_arc (arc a o)) 0 w)
  passes [] k = none
  passes (q ∷ w) k = again q _ w k.0 (tail q w k.1)

one_leaf : (k v o : ℕ) (w : List ℕ) → Open (leaf_arc o) 0 w → Made (leaf k v) o w (path (leaf_arc o) 0 w)
one_leaf k v o [] h = absurd (omega arith)
one_leaf k v o (q ∷ []) h = go (ℕ_discrete q o)
  where
    go : Dec (q ≡ o) → Made (leaf k v) o (q ∷ []) (path (leaf_arc o) 0 (q ∷ []))
    go (yes e) = record { trace = step o ∷ []; derived = taken; word = cc; light = omega arith }
    go (no e) = absurd (omega (arith, rw (ne_eqb q o e) at h.0))
one_leaf k v o (q ∷ p ∷ w) h = absurd (omega (arith, h.1.0))

one_toll : (n o : ℕ) (w : List ℕ) → Open (toll_arc n) 0 w → Made (toll n) o w (path (toll_arc n) 0 w)
one_toll n o [] h = record { trace = charged n ∷ []; derived = paid; word = refl; light = omega arith }
one_toll n o (q ∷ w) h = absurd (omega (arith, h.0))

no_step : (o : ℕ) (w : List ℕ) → Open (toll_arc 0) 0 w → Made empty o w (path (toll_arc 0) 0 w)
no_step o [] h = record { trace = []; derived = blank; word = refl; light = omega arith }
no_step o (q ∷ w) h = absurd (omega (arith, h.0))

pub made : (a : Tree) (o : ℕ) (w : List ℕ) → Open (arc a o) 0 w → Made a o w (path (arc a o) 0 w)
unfolding arc
made (leaf k v) o w h = one_leaf k v o w h
made (toll n) o w h = one_toll n o w h
made empty o w h = no_step o w h
made (alt a b) o w h = go (made a o w) (made b (o + size a) w) (sides (arc a o) (arc b (o + size a)) (o + size a) (λ x y l. out_from a o x y (above l)) (λ x y l. out_to a o x y (above l)) (λ x y l. out_from b _ x y (below l)) (λ x y l. out_to b _ x y (below l)) w h)
  where
    A : ℕ → ℕ → ℕ
    A = arc a o

    B : ℕ → ℕ → ℕ
    B = arc b (o + size a)

    go : (Open A 0 w → Made a o w (path A 0 w)) → (Open B 0 w → Made b (o + size a) w (path B 0 w)) → Along A (alt_arc A B) 0 w ⊎ Along B (alt_arc A B) 0 w → Made (alt a b) o w (path (alt_arc A B) 0 w)
    go f g (inl (p, l)) = let r = f p in record { trace = r.trace; derived = left r.derived; word = r.word; light = omega (arith, r.light) }
    go f g (inr (p, l)) = let r = g p in record { trace = r.trace; derived = right r.derived; word = r.word; light = omega (arith, r.light) }
made (cat a b) o w h =
    let s = parts (arc a o) (arc b (o + size a)) (o + size a) (λ x y l. out_from a o x y (above l)) (λ x y l. out_to a o x y (above l)) (λ x y l. out_from b _ x y (below l)) (λ x y l. out_to b _ x y (below l)) 0 w tt h in
    made_cat s.one s.two _ _ s.whole s.light (made a o s.one s.first) (made b (o + size a) s.two s.second)
made (star a) o w h = passes a o (made a o) w h
