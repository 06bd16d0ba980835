-- The postfixes: a weight mark, a star, and what stands after them.
use mathlib.Core.Path.{◌≡◌, refl, subst, sym, ap, ◌∙◌}
use mathlib.Core.Bool.{true, false}
use mathlib.Core.List.{List, [], ◌∷◌, ◌++◌}
use Prim.Native.Nat.{ℕ, ◌+◌, ◌-◌, ◌*◌, ◌≤◌, ◌<◌}
use native.Mathlib.Omega.{arith}
use lib.ListN.{length, get_or}
use lib.Seq.{slice, slice_empty}
use lib.Dec.{eqb}
use Rattle.pattern.specs.Bytes.{Digit}
use Rattle.pattern.specs.Grammar.{Pat, star, charge, steps_of, nesting_of, Posts, none, starred, marked}
use Rattle.pattern.specs.Machine.{Todo, St, after, ch1, ch2, ch3, dead, digit, step, run, done}
use Rattle.pattern.specs.Found.{PostsDone, PostsStuck, Marked}
use Rattle.pattern.specs.Laws.{run_append}
use Rattle.pattern.specs.Joins.{slice_join, run_join, join_rest}
use Rattle.parser.specs.declared.Part.{Part}
use Rattle.parser.specs.Parts.{level}
use Rattle.parser.proofs.Leaves.{one, then_more, snoc, to_digit, is_stands, digit_stands}

zero_digit : Digit 48
zero_digit = record { low = omega arith; high = omega arith }

-- the number of three digits
abbrev pub three : ℕ → ℕ → ℕ → ℕ
three x y z = (x - 48) * 100 + (y - 48) * 10 + (z - 48)

mark_stuck : (s : List ℕ) (at p : ℕ) (pre rest : List ℕ) (tree : Pat → Pat) (state : Todo → Pat → St)
    → at < p → p ≤ length s → slice at p s ≡ pre → ((a : Pat) → Posts (pre ++ rest) a (tree a))
    → ((k : ℕ) (d : Todo) (a : Pat) → run k (after d a) pre ≡ state d a) → ((k : ℕ) (d : Todo) (a : Pat) → step k (state d a) (get_or s p 0) ≡ dead) → ((d : Todo) (a : Pat) → done (state d a) ≡ false)
    → PostsStuck s at p
mark_stuck s at p pre rest tree state l m h v r x y = record {
  from = omega arith;
  within = m;
  rest = rest;
  tree = tree;
  viable = λ a. subst (λ (w : List ℕ). Posts (w ++ rest) a (tree a)) (sym h) (v a);
  dies = λ q k d a. ap (run k (after d a)) (snoc s at p (omega arith) q h) ∙ (run_append k (after d a) pre (get_or s p 0 ∷ []) ∙ (ap (λ (u : St). run k u (get_or s p 0 ∷ [])) (r k d a) ∙ x k d a));
  short = λ k d a. ap (λ (w : List ℕ). done (run k (after d a) w)) h ∙ (ap done (r k d a) ∙ y d a);
}

module _ (s : List ℕ) (at : ℕ) (e : get_or s at 0 ≡ 35) where
  pub mark_1 : digit (get_or s (at + 1) 0) ≡ false → PostsStuck s at (at + 1)
  mark_1 h =
      let l = is_stands s at 35 e (omega arith) in
      mark_stuck s at (at + 1) (35 ∷ []) (48 ∷ 48 ∷ 48 ∷ []) (charge (three 48 48 48)) ch1 (omega arith) (omega arith) (one s at 35 l e)
      (λ a. marked zero_digit zero_digit zero_digit none) (λ k d a. refl) (λ k d a. rw h) (λ d a. refl)

  module _ (h1 : digit (get_or s (at + 1) 0) ≡ true) where
    two : slice at (at + 1 + 1) s ≡ 35 ∷ get_or s (at + 1) 0 ∷ []
    two =
        let l1 = digit_stands s (at + 1) h1 in
        then_more s at (at + 1 + 1) 35 (omega arith) (omega arith) e (one s (at + 1) _ l1 refl)

    pub mark_2 : digit (get_or s (at + 1 + 1) 0) ≡ false → PostsStuck s at (at + 1 + 1)
    mark_2 h =
        let x = get_or s (at + 1) 0 in
        let l1 = digit_stands s (at + 1) h1 in
        mark_stuck s at (at + 1 + 1) (35 ∷ x ∷ []) (48 ∷ 48 ∷ []) (charge (three x 48 48)) (λ d a. ch2 d a x) (omega arith) (omega arith) two
        (λ a. marked (to_digit x h1) zero_digit zero_digit none) (λ k d a. rw h1) (λ k d a. rw h) (λ d a. refl)

    module _ (h2 : digit (get_or s (at + 1 + 1) 0) ≡ true) where
      both : slice at (at + 1 + 1 + 1) s ≡ 35 ∷ get_or s (at + 1) 0 ∷ get_or s (at + 1 + 1) 0 ∷ []
      both = snoc s at (at + 1 + 1) (omega arith) (digit_stands s (at + 1 + 1) h2) two

      pub mark_3 : digit (get_or s (at + 1 + 1 + 1) 0) ≡ false → PostsStuck s at (at + 1 + 1 + 1)
      mark_3 h =
          let x = get_or s (at + 1) 0 in
          let y = get_or s (at + 1 + 1) 0 in
          let l2 = digit_stands s (at + 1 + 1) h2 in
          mark_stuck s at (at + 1 + 1 + 1) (35 ∷ x ∷ y ∷ []) (48 ∷ []) (charge (three x y 48)) (λ d a. ch3 d a x y) (omega arith) (omega arith) both
          (λ a. marked (to_digit x h1) (to_digit y h2) zero_digit none) (λ k d a. rw (h1, h2)) (λ k d a. rw h) (λ d a. refl)

      pub mark_4 : digit (get_or s (at + 1 + 1 + 1) 0) ≡ true → Marked s at (at + 1 + 1 + 1 + 1) (three (get_or s (at + 1) 0) (get_or s (at + 1 + 1) 0) (get_or s (at + 1 + 1 + 1) 0))
      mark_4 h =
          let x = get_or s (at + 1) 0 in
          let y = get_or s (at + 1 + 1) 0 in
          let z = get_or s (at + 1 + 1 + 1) 0 in
          let q = digit_stands s (at + 1 + 1 + 1) h in
          let f : slice at (at + 1 + 1 + 1 + 1) s ≡ 35 ∷ x ∷ y ∷ z ∷ [] = snoc s at (at + 1 + 1 + 1) (omega arith) q both in
          record {
            past = omega arith;
            within = omega arith;
            joins = λ {v} {a} {b} p. subst (λ (u : List ℕ). Posts (u ++ v) a b) (sym f) (marked (to_digit x h1) (to_digit y h2) (to_digit z h) p);
            runs = λ k d a. ap (run k (after d a)) f ∙ rw (h1, h2, h);
          }

pub charged : {s : List ℕ} {at n a b c : ℕ} {p : Part} (x y z : ℕ) → a ≡ x - 48 → b ≡ y - 48 → c ≡ z - 48 → p ≡ level n 0 (a * 100 + b * 10 + c) → Marked s at n (three x y z) → Marked s at p.next p.nul
charged x y z e f g h m = rw (h, e, f, g) m

-- none
pub posts_none : (s : List ℕ) (at : ℕ) → at ≤ length s → (eqb (get_or s at 0) 42 ≡ false) × (eqb (get_or s at 0) 35 ≡ false) → PostsDone s at at (λ a. a)
posts_none s at l h = record {
  past = omega arith;
  within = l;
  derives = λ a. subst (λ (w : List ℕ). Posts w a a) (sym (slice_empty at s)) none;
  counts = λ a. refl;
  level = λ a. refl;
  stops = λ _. h;
}

-- a star
module _ (s : List ℕ) (at : ℕ) (e : get_or s at 0 ≡ 42) where
  pub star_done : (n : ℕ) {turn : Pat → Pat} → PostsDone s (at + 1) n turn → PostsDone s at n (λ a. turn (star a))
  unfolding steps_of nesting_of
  star_done n {turn} p = record {
    past = omega arith;
    within = p.within;
    derives = λ a. subst (λ (w : List ℕ). Posts w a (turn (star a))) (sym (then_more s at n 42 (omega arith) p.within e refl)) (starred (p.derives (star a)));
    counts = λ a. p.counts (star a);
    level = λ a. p.level (star a);
    stops = p.stops;
  }

  pub star_stuck : (n : ℕ) → PostsStuck s (at + 1) n → PostsStuck s at n
  star_stuck n p = record {
    from = omega arith;
    within = p.within;
    rest = p.rest;
    tree = λ a. p.tree (star a);
    viable = λ a. subst (λ (w : List ℕ). Posts (w ++ p.rest) a (p.tree (star a))) (sym (then_more s at n 42 (omega arith) p.within e refl)) (starred (p.viable (star a)));
    dies = λ q k d a. ap (run k (after d a)) (then_more s at (n + 1) 42 (omega arith) (omega arith) e refl) ∙ p.dies q k d (star a);
    short = λ k d a. ap (λ (w : List ℕ). done (run k (after d a) w)) (then_more s at n 42 (omega arith) p.within e refl) ∙ p.short k d (star a);
  }

-- a weight mark
module _ (s : List ℕ) (at n w : ℕ) (m : Marked s at n w) where
  past_mark : (k : ℕ) (d : Todo) (a : Pat) (t : ℕ) → n ≤ t → run k (after d a) (slice at t s) ≡ run k (after d (charge w a)) (slice n t s)
  past_mark k d a t l = run_join k (after d a) at n t s (omega arith) l ∙ ap (λ (u : St). run k u (slice n t s)) (m.runs k d a)

  pub mark_done : (e : ℕ) {turn : Pat → Pat} → PostsDone s n e turn → PostsDone s at e (λ a. turn (charge w a))
  unfolding steps_of nesting_of
  mark_done e {turn} p = record {
    past = omega arith;
    within = p.within;
    derives = λ a. subst (λ (v : List ℕ). Posts v a (turn (charge w a))) (slice_join at n e s (omega arith) p.past) (m.joins (p.derives (charge w a)));
    counts = λ a. p.counts (charge w a);
    level = λ a. p.level (charge w a);
    stops = p.stops;
  }

  pub mark_then_stuck : (e : ℕ) → PostsStuck s n e → PostsStuck s at e
  mark_then_stuck e p = record {
    from = omega arith;
    within = p.within;
    rest = p.rest;
    tree = λ a. p.tree (charge w a);
    viable = λ a. subst (λ (v : List ℕ). Posts v a (p.tree (charge w a))) (join_rest at n e s p.rest (omega arith) p.from) (m.joins (p.viable (charge w a)));
    dies = λ q k d a. past_mark k d a (e + 1) (omega arith) ∙ p.dies q k d (charge w a);
    short = λ k d a. ap done (past_mark k d a e p.from) ∙ p.short k d (charge w a);
  }
