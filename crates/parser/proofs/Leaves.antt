-- What the first bytes of an atom show.
use mathlib.Core.Path.{◌≡◌, refl, subst, sym, ap, ◌∙◌}
use mathlib.Core.Bool.{Bool, true, false, ◌&&◌}
use mathlib.Core.List.{List, [], ◌∷◌, ◌++◌}
use Prim.Native.Nat.{ℕ, zero, suc, ◌+◌, ◌-◌, ◌≤◌, ◌<◌}
use native.Mathlib.Omega.{arith}
use native.Mathlib.Decide.{dec_lt}
use lib.ListN.{length, get_or, get_or-eq_default}
use lib.Seq.{slice, slice_empty}
use lib.Dec.{eqb, leb}
use borrow.Author.Tests.{le-leb, leb-true}
use Rattle.basics.specs.Every.{and_true}
use Rattle.pattern.specs.declared.Class.TheVariants.{Plain}
use Rattle.pattern.specs.Bytes.{byte_class, Shown, Digit, shown}
use Rattle.pattern.specs.Grammar.{Pat, reads, nothing, capture, grouped, steps_of, nesting_of, none, Pattern, lone, last, with, Atom, plain, escaped, any, range, empty, group, named}
use Rattle.pattern.specs.Machine.{round, curly, Todo, St, wants, esc, br1, br2, br3, br4, va1, va2, dead, starts, digit, step, run, done}
use Rattle.pattern.specs.Found.{Done, Stuck, Opened, AtomStop}
use Rattle.pattern.specs.Laws.{run_append, named_opens}
use Rattle.pattern.specs.Joins.{slice_join, slice_one, slice_byte, no_start}

-- a byte that is not 0 stands in the text
pub stands : (s : List ℕ) (p : ℕ) → 0 < get_or s p 0 → p < length s
stands s p h = go (dec_lt p (length s))
  where
    go : Dec (p < length s) → p < length s
    go (yes l) = l
    go (no l) = let e : get_or s p 0 ≡ 0 = get_or-eq_default s 0 {n = p} (omega arith) in absurd (omega arith)

pub one : (s : List ℕ) (a x : ℕ) → a < length s → get_or s a 0 ≡ x → slice a (a + 1) s ≡ x ∷ []
one s a x l e = slice_byte a s l ∙ ap (λ (c : ℕ). c ∷ []) e

pub then_more : (s : List ℕ) (a t x : ℕ) {pre : List ℕ} → a < t → t ≤ length s → get_or s a 0 ≡ x → slice (a + 1) t s ≡ pre → slice a t s ≡ x ∷ pre
then_more s a t x {pre} l m e h = slice_one a t s l m ∙ (ap (λ (c : ℕ). c ∷ slice (a + 1) t s) e ∙ ap (λ (w : List ℕ). x ∷ w) h)

pub snoc : (s : List ℕ) (at p : ℕ) {pre : List ℕ} → at ≤ p → p < length s → slice at p s ≡ pre → slice at (p + 1) s ≡ pre ++ get_or s p 0 ∷ []
snoc s at p {pre} l m h = sym (slice_join at p (p + 1) s l (omega arith)) ∙ (ap (λ (w : List ℕ). w ++ slice p (p + 1) s) h ∙ ap (λ (w : List ℕ). pre ++ w) (slice_byte p s m))

pub leaf_stuck : (k : ℕ) (s : List ℕ) (at p : ℕ) (pre rest : List ℕ) (tree : Pat) (state : Todo → St)
    → at < p → p ≤ length s → slice at p s ≡ pre → Atom k (pre ++ rest) tree
    → ((d : Todo) → run k (wants d) pre ≡ state d) → ((d : Todo) → step k (state d) (get_or s p 0) ≡ dead) → ((d : Todo) → done (state d) ≡ false)
    → Stuck Atom k s at p
leaf_stuck k s at p pre rest tree state l m h v r x y = record {
  from = omega arith;
  within = m;
  rest = rest;
  tree = tree;
  viable = subst (λ (w : List ℕ). Atom k (w ++ rest) tree) (sym h) v;
  dies = λ q d. ap (run k (wants d)) (snoc s at p (omega arith) q h) ∙ (run_append k (wants d) pre (get_or s p 0 ∷ []) ∙ (ap (λ (u : St). run k u (get_or s p 0 ∷ [])) (r d) ∙ x d));
  short = λ d. ap (λ (w : List ℕ). done (run k (wants d) w)) h ∙ (ap done (r d) ∙ y d);
  some = λ _ _. l;
}

-- nothing is read: the byte at `at` starts no atom
pub none_stuck : (k : ℕ) (s : List ℕ) (at : ℕ) → at ≤ length s → starts k (get_or s at 0) ≡ false → Stuck Atom k s at at
none_stuck k s at m h = record {
  from = omega arith;
  within = m;
  rest = 126 ∷ [];
  tree = nothing;
  viable = subst (λ (w : List ℕ). Atom k (w ++ 126 ∷ []) nothing) (sym (slice_empty at s)) empty;
  dies = λ q d. ap (run k (wants d)) (slice_byte at s q) ∙ no_start k d (get_or s at 0) h;
  short = λ d. ap (λ (w : List ℕ). done (run k (wants d) w)) (slice_empty at s);
  some = λ q e. let z : ◌≡◌ {A = Bool} true false = sym e ∙ h in (let y : ◌≡◌ {A = ℕ} 0 1 = cc in absurd (omega arith));
}

pub leaf_done : (k : ℕ) (s : List ℕ) (at n : ℕ) (pre : List ℕ) (tree : Pat) → at < n → n ≤ length s → slice at n s ≡ pre → Atom k pre tree → at + steps_of tree ≤ n → nesting_of tree ≡ 0 → Done Atom AtomStop k s at n tree
leaf_done k s at n pre tree l m h v f z = record {
  past = l;
  within = m;
  derives = subst (λ (w : List ℕ). Atom k w tree) (sym h) v;
  few = f;
  shallow = omega arith;
  stops = λ _. tt;
}

pub to_shown : (c : ℕ) → shown c ≡ true → Shown c
to_shown c h = let p = and_true (leb 0x20 c) (leb c 0x7E) h in record { low = leb-true 0x20 c p.0; high = leb-true c 0x7E p.1 }

pub to_digit : (c : ℕ) → digit c ≡ true → Digit c
to_digit c h = let p = and_true (leb 48 c) (leb c 57) h in record { low = leb-true 48 c p.0; high = leb-true c 57 p.1 }

shown_space : Shown 32
shown_space = record { low = omega arith; high = omega arith }

pub shown_stands : (s : List ℕ) (p : ℕ) → shown (get_or s p 0) ≡ true → p < length s
shown_stands s p h = stands s p (omega (arith, (to_shown (get_or s p 0) h).low))

pub digit_stands : (s : List ℕ) (p : ℕ) → digit (get_or s p 0) ≡ true → p < length s
digit_stands s p h = stands s p (omega (arith, (to_digit (get_or s p 0) h).low))

pub is_stands : (s : List ℕ) (p x : ℕ) → get_or s p 0 ≡ x → 0 < x → p < length s
is_stands s p x e h = stands s p (omega arith)

pub starts_stands : (k : ℕ) (s : List ℕ) (p : ℕ) → starts k (get_or s p 0) ≡ true → p < length s
unfolding byte_class
starts_stands k s p h = stands s p (some (get_or s p 0) h)
  where
    some : (c : ℕ) → starts k c ≡ true → 0 < c
    some zero e = let y : ◌≡◌ {A = ℕ} 0 1 = cc in absurd (omega arith)
    some (suc c) e = omega arith

-- `\`
module _ (k : ℕ) (s : List ℕ) (at : ℕ) (e : get_or s at 0 ≡ 92) where
  pub esc_stuck : shown (get_or s (at + 1) 0) ≡ false → Stuck Atom k s at (at + 1)
  unfolding byte_class
  esc_stuck h =
      let l = is_stands s at 92 e (omega arith) in
      leaf_stuck k s at (at + 1) (92 ∷ []) (32 ∷ []) (reads 32 32) esc (omega arith) (omega arith) (one s at 92 l e) (escaped shown_space) (λ d. refl) (λ d. rw h) (λ d. refl)

  pub esc_done : shown (get_or s (at + 1) 0) ≡ true → Done Atom AtomStop k s at (at + 1 + 1) (reads (get_or s (at + 1) 0) (get_or s (at + 1) 0))
  unfolding steps_of nesting_of
  esc_done h =
      let q = shown_stands s (at + 1) h in
      leaf_done k s at (at + 1 + 1) (92 ∷ get_or s (at + 1) 0 ∷ []) (reads (get_or s (at + 1) 0) (get_or s (at + 1) 0)) (omega arith) (omega arith) (then_more s at (at + 1 + 1) 92 (omega arith) (omega arith) e (one s (at + 1) _ q refl)) (escaped (to_shown (get_or s (at + 1) 0) h)) (omega arith) refl

-- `[`
module _ (k : ℕ) (s : List ℕ) (at : ℕ) (e : get_or s at 0 ≡ 91) where
  pub range_1 : shown (get_or s (at + 1) 0) ≡ false → Stuck Atom k s at (at + 1)
  unfolding byte_class
  range_1 h =
      let l = is_stands s at 91 e (omega arith) in
      leaf_stuck k s at (at + 1) (91 ∷ []) (32 ∷ 45 ∷ 32 ∷ 93 ∷ []) (reads 32 32) br1 (omega arith) (omega arith) (one s at 91 l e) (range shown_space shown_space (omega arith)) (λ d. refl) (λ d. rw h) (λ d. refl)

  module _ (h1 : shown (get_or s (at + 1) 0) ≡ true) where
    pub range_2 : eqb (get_or s (at + 1 + 1) 0) 45 ≡ false → Stuck Atom k s at (at + 1 + 1)
    unfolding byte_class
    range_2 h =
        let lo = get_or s (at + 1) 0 in
        let l1 = shown_stands s (at + 1) h1 in
        leaf_stuck k s at (at + 1 + 1) (91 ∷ lo ∷ []) (45 ∷ lo ∷ 93 ∷ []) (reads lo lo) (λ d. br2 d lo) (omega arith) (omega arith)
        (then_more s at (at + 1 + 1) 91 (omega arith) (omega arith) e (one s (at + 1) lo l1 refl))
        (range (to_shown lo h1) (to_shown lo h1) (omega arith)) (λ d. rw h1) (λ d. rw h) (λ d. refl)

    module _ (e2 : get_or s (at + 1 + 1) 0 ≡ 45) where
      pub range_3 : shown (get_or s (at + 1 + 1 + 1) 0) && leb (get_or s (at + 1) 0) (get_or s (at + 1 + 1 + 1) 0) ≡ false → Stuck Atom k s at (at + 1 + 1 + 1)
      unfolding byte_class
      range_3 h =
          let lo = get_or s (at + 1) 0 in
          let l2 = is_stands s (at + 1 + 1) 45 e2 (omega arith) in
          leaf_stuck k s at (at + 1 + 1 + 1) (91 ∷ lo ∷ 45 ∷ []) (lo ∷ 93 ∷ []) (reads lo lo) (λ d. br3 d lo) (omega arith) (omega arith)
          (then_more s at (at + 1 + 1 + 1) 91 (omega arith) (omega arith) e (then_more s (at + 1) (at + 1 + 1 + 1) lo (omega arith) (omega arith) refl (one s (at + 1 + 1) 45 l2 e2)))
          (range (to_shown lo h1) (to_shown lo h1) (omega arith)) (λ d. rw h1) (λ d. rw h) (λ d. refl)

      module _ (h3 : shown (get_or s (at + 1 + 1 + 1) 0) ≡ true) (g3 : get_or s (at + 1) 0 ≤ get_or s (at + 1 + 1 + 1) 0) where
        four : slice at (at + 1 + 1 + 1 + 1) s ≡ 91 ∷ get_or s (at + 1) 0 ∷ 45 ∷ get_or s (at + 1 + 1 + 1) 0 ∷ []
        four =
            let l3 = shown_stands s (at + 1 + 1 + 1) h3 in
            then_more s at (at + 1 + 1 + 1 + 1) 91 (omega arith) (omega arith) e (then_more s (at + 1) (at + 1 + 1 + 1 + 1) _ (omega arith) (omega arith) refl (then_more s (at + 1 + 1) (at + 1 + 1 + 1 + 1) 45 (omega arith) (omega arith) e2 (one s (at + 1 + 1 + 1) _ l3 refl)))

        pub range_4 : eqb (get_or s (at + 1 + 1 + 1 + 1) 0) 93 ≡ false → Stuck Atom k s at (at + 1 + 1 + 1 + 1)
        unfolding byte_class
        range_4 h =
            let lo = get_or s (at + 1) 0 in
            let hi = get_or s (at + 1 + 1 + 1) 0 in
            let l3 = shown_stands s (at + 1 + 1 + 1) h3 in
            leaf_stuck k s at (at + 1 + 1 + 1 + 1) (91 ∷ lo ∷ 45 ∷ hi ∷ []) (93 ∷ []) (reads lo hi) (λ d. br4 d lo hi) (omega arith) (omega arith) four
            (range (to_shown lo h1) (to_shown hi h3) g3) (λ d. rw (h1, h3, le-leb lo hi g3)) (λ d. rw h) (λ d. refl)

        pub range_5 : get_or s (at + 1 + 1 + 1 + 1) 0 ≡ 93 → Done Atom AtomStop k s at (at + 1 + 1 + 1 + 1 + 1) (reads (get_or s (at + 1) 0) (get_or s (at + 1 + 1 + 1) 0))
        unfolding steps_of nesting_of
        range_5 h =
            let lo = get_or s (at + 1) 0 in
            let hi = get_or s (at + 1 + 1 + 1) 0 in
            let q = is_stands s (at + 1 + 1 + 1 + 1) 93 h (omega arith) in
            leaf_done k s at (at + 1 + 1 + 1 + 1 + 1) (91 ∷ lo ∷ 45 ∷ hi ∷ 93 ∷ []) (reads lo hi) (omega arith) (omega arith)
            (snoc s at (at + 1 + 1 + 1 + 1) (omega arith) q four ∙ ap (λ (c : ℕ). 91 ∷ lo ∷ 45 ∷ hi ∷ c ∷ []) h)
            (range (to_shown lo h1) (to_shown hi h3) g3) (omega arith) refl

-- `{`
module _ (k : ℕ) (s : List ℕ) (at : ℕ) (e : get_or s at 0 ≡ 123) (pos : 0 < k) where
  inner : Pattern k (126 ∷ []) nothing
  inner = lone (last (with empty none))

  pub capture_1 : leb 49 (get_or s (at + 1) 0) && leb (get_or s (at + 1) 0) (48 + k) ≡ false → Stuck Atom k s at (at + 1)
  unfolding byte_class
  capture_1 h =
      let l = is_stands s at 123 e (omega arith) in
      leaf_stuck k s at (at + 1) (123 ∷ []) (49 ∷ 58 ∷ 126 ∷ 125 ∷ []) (capture 1 nothing) va1 (omega arith) (omega arith) (one s at 123 l e) (named (omega arith) (omega arith) inner) (λ d. rw (le-leb 1 k pos)) (λ d. rw h) (λ d. refl)

  module _ (a1 : 49 ≤ get_or s (at + 1) 0) (b1 : get_or s (at + 1) 0 ≤ 48 + k) where
    two : slice at (at + 1 + 1) s ≡ 123 ∷ get_or s (at + 1) 0 ∷ []
    two =
        let l1 = stands s (at + 1) (omega arith) in
        then_more s at (at + 1 + 1) 123 (omega arith) (omega arith) e (one s (at + 1) _ l1 refl)

    pub capture_2 : eqb (get_or s (at + 1 + 1) 0) 58 ≡ false → Stuck Atom k s at (at + 1 + 1)
    unfolding byte_class
    capture_2 h =
        let v = get_or s (at + 1) 0 in
        let l1 = stands s (at + 1) (omega arith) in
        leaf_stuck k s at (at + 1 + 1) (123 ∷ v ∷ []) (58 ∷ 126 ∷ 125 ∷ []) (capture (v - 48) nothing) (λ d. va2 d v) (omega arith) (omega arith) two (named a1 b1 inner) (λ d. rw (le-leb 1 k pos, le-leb 49 v a1, le-leb v (48 + k) b1)) (λ d. rw h) (λ d. refl)

    pub capture_3 : get_or s (at + 1 + 1) 0 ≡ 58 → Opened k s at (at + 1 + 1 + 1) 125 (capture (get_or s (at + 1) 0 - 48))
    unfolding steps_of nesting_of
    capture_3 h =
        let v = get_or s (at + 1) 0 in
        let q = is_stands s (at + 1 + 1) 58 h (omega arith) in
        let t : slice at (at + 1 + 1 + 1) s ≡ 123 ∷ v ∷ 58 ∷ [] = snoc s at (at + 1 + 1) (omega arith) q two ∙ ap (λ (c : ℕ). 123 ∷ v ∷ c ∷ []) h in
        record {
          past = omega arith;
          within = omega arith;
          bracket = curly;
          closes = refl;
          makes = λ {w} {a} p. subst (λ (x : List ℕ). Atom k (x ++ (w ++ 125 ∷ [])) (capture (v - 48) a)) (sym t) (named a1 b1 p);
          opens = λ d. ap (run k (wants d)) t ∙ named_opens k v a1 b1 d;
          few = λ a. omega arith;
          deepens = λ a. refl;
        }

-- `(`
pub group_open : (k : ℕ) (s : List ℕ) (at : ℕ) → get_or s at 0 ≡ 40 → Opened k s at (at + 1) 41 grouped
unfolding byte_class steps_of nesting_of
group_open k s at e =
    let l = is_stands s at 40 e (omega arith) in
    let t : slice at (at + 1) s ≡ 40 ∷ [] = one s at 40 l e in
    record {
      past = omega arith;
      within = omega arith;
      bracket = round;
      closes = refl;
      makes = λ {w} {a} p. subst (λ (x : List ℕ). Atom k (x ++ (w ++ 41 ∷ [])) (grouped a)) (sym t) (group p);
      opens = λ d. ap (run k (wants d)) t;
      few = λ a. omega arith;
      deepens = λ a. refl;
    }

-- the atoms of one byte
plain_some : (c : ℕ) → byte_class c ≡ Plain → 0 < c
unfolding byte_class
plain_some zero h = let y : ◌≡◌ {A = ℕ} 0 1 = cc in absurd (omega arith)
plain_some (suc c) h = omega arith

pub plain_done : (k : ℕ) (s : List ℕ) (at : ℕ) → byte_class (get_or s at 0) ≡ Plain → Done Atom AtomStop k s at (at + 1) (reads (get_or s at 0) (get_or s at 0))
unfolding steps_of nesting_of
plain_done k s at e =
    let l = stands s at (plain_some (get_or s at 0) e) in
    leaf_done k s at (at + 1) (get_or s at 0 ∷ []) (reads (get_or s at 0) (get_or s at 0)) (omega arith) (omega arith) (one s at _ l refl) (plain e) (omega arith) refl

pub any_done : (k : ℕ) (s : List ℕ) (at : ℕ) → get_or s at 0 ≡ 46 → Done Atom AtomStop k s at (at + 1) (reads 0 255)
unfolding steps_of nesting_of
any_done k s at e =
    let l = is_stands s at 46 e (omega arith) in
    leaf_done k s at (at + 1) (46 ∷ []) (reads 0 255) (omega arith) (omega arith) (one s at 46 l e) any (omega arith) refl

pub empty_done : (k : ℕ) (s : List ℕ) (at : ℕ) → get_or s at 0 ≡ 126 → Done Atom AtomStop k s at (at + 1) nothing
unfolding steps_of nesting_of
empty_done k s at e =
    let l = is_stands s at 126 e (omega arith) in
    leaf_done k s at (at + 1) (126 ∷ []) nothing (omega arith) (omega arith) (one s at 126 l e) empty (omega arith) refl
