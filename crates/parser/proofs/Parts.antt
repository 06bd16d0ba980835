-- The answers by cases, and how the parts that are found join: what stands, what has grown.
use mathlib.Core.Path.{◌≡◌, refl, subst, sym, ap, ap₂, ◌∙◌}
use mathlib.Core.Bool.{false}
use mathlib.Core.List.{List, ◌++◌}
use Prim.Native.Nat.{ℕ, ◌+◌, ◌*◌, ◌≤◌, ◌<◌, max}
use native.Mathlib.Omega.{arith}
use lib.ListN.{length, get_or}
use lib.Dec.{eqb}
use Rattle.weight.specs.Weight.{lighter, joint}
use Rattle.pattern.specs.Grammar.{Pat, reads, nothing, alt, cat, charge, star, steps_of, nesting_of, Pattern, Term, Factor, Atom}
use Rattle.pattern.specs.Machine.{closing, starts}
use Rattle.pattern.specs.Machine
use Rattle.pattern.specs.Places.{Refused}
use Rattle.pattern.specs.Found.{Done, Opened, Marked, AtomStop, FactorStop, TermStop, PatternStop}
use Rattle.pattern.specs.Joins.{factor_good, factor_bad_2, term_good, term_good_2, pattern_good, pattern_good_2, atom_good, accepted}
use Rattle.arcs.specs.Core.{few_tolls}
use Rattle.grid.specs.Cells.{Cleared, Linked, Joined}
use Rattle.grid.specs.Grow.{fresh_cleared}
use Rattle.grid.specs.Patterns.{grown_whole}
use Rattle.parser.specs.declared.Part.{Part}
use Rattle.std.specs.Prelude.{Bool, Result, Ok, Err, MatchResult, IsErrAnd}
use Rattle.std.proofs.lemmas.List.{get_or_append_left}
use Rattle.std.proofs.lemmas.Result.{err_from_is_err_and}
use Rattle.refusal.specs.declared.Refusal.{Refusal}
use Rattle.refusal.specs.declared.Refusal.TheVariants.{NoPattern}
use Rattle.parser.specs.Grown.{Stepped, Entered, Left}
use Rattle.parser.specs.Brackets.{closed_by, wrapped}
use Rattle.parser.specs.declared.Bracket.{Bracket}
use Rattle.parser.specs.Result.{Reads, Fails, fails, Stands, Parses, Posts, Posted, Whole, Read, Answers, no_text}
use Rattle.parser.specs.Parts.{level, postfixed, beside, between}
use Rattle.parser.proofs.Leaves.{is_stands}
use Rattle.parser.proofs.Marks.{star_done, star_stuck, mark_done, mark_then_stuck, posts_none}
use Rattle.parser.proofs.Growth.{labels_count, grow_reads, grow_nothing, grow_alt, grow_cat, grow_turn, turn_none, turn_star, turn_charge, wrap_steps, grow_wrap}

-- a place at which there is no part
pub fails_at : {P : ℕ → Type 0} {r : Refusal} {place : ℕ} → r ≡ NoPattern place → P place → Fails P r
fails_at e p = rw e (fails p)

-- what goes wrong within a part goes wrong for the whole
pub fails_on : {P Q : ℕ → Type 0} {r : Refusal} → Fails P r → ((place : ℕ) → P place → Q place) → Fails Q r
fails_on (fails p) f = fails (f _ p)

-- the exit of a `?`
pub handed : {A : Type 0} (S : A → Type 0) {Q : ℕ → Type 0} (r : Result A Refusal) {e : Refusal} → IsErrAnd r (λ y. y ≡ e) → Fails Q e → MatchResult r S (Fails Q)
handed S r h f = let p = err_from_is_err_and r h in rw (p.1, p.2) f

-- the same, of what has to hold at a place
pub refuted : {A : Type 0} (S : A → Type 0) (Q : ℕ → Type 0) (r : Result A Refusal) {e : Refusal} {b : Bool} {place : ℕ} → IsErrAnd r (λ y. y ≡ e) → (b ≡ false) × (e ≡ NoPattern place) → Q place → MatchResult r S (Fails Q)
refuted S Q r h d q = handed S r h (fails_at d.1 q)

pub no_text_at : {P : ℕ → Type 0} {k : ℕ} {s cells labels : List ℕ} (r : Result Part Refusal) {e : Refusal} → IsErrAnd r (λ y. y ≡ e) → Fails P e → ((place : ℕ) → P place → Refused k s place) → Answers k s cells labels r
no_text_at {P = P} {k = k} {s = s} {cells = cells} {labels = labels} r h f g = let p = err_from_is_err_and r h in rw (p.1, p.2) (go f)
  where
    go : {x : Refusal} → Fails P x → Answers k s cells labels (Err x)
    go (fails q) = no_text (g _ q)

pub stands_as : {G : ℕ → List ℕ → Pat → Type 0} {S : ℕ → ℕ → Type 0} {k : ℕ} {s : List ℕ} {at o : ℕ} {c₀ c₁ l₀ l₁ : List ℕ} {p q : Part} → q ≡ p → Stands G S k s at o c₀ c₁ l₀ l₁ p → Stands G S k s at o c₀ c₁ l₀ l₁ q
stands_as e x = rw e x

-- the postfixes
pub star_posted : (s : List ℕ) {o z : ℕ} (p : Part) {q : Part} {c₀ c₁ : List ℕ} (c₂ : List ℕ) (r : Result Part Refusal) → get_or s p.next 0 ≡ 42 → z ≡ 0 → Linked o 31 o c₀ c₁ → q ≡ postfixed p (p.next + 1) z → Posted s o q c₁ c₂ r → Posted s o p c₀ c₂ r
star_posted s {o} {z} p {c₀ = c₀} {c₁ = c₁} c₂ r e g k i h = go r (subst (λ (x : Part). Posted s o x c₁ c₂ r) i h)
  where
    go : (t : Result Part Refusal) → Posted s o (postfixed p (p.next + 1) z) c₁ c₂ t → Posted s o p c₀ c₂ t
    go (Ok q) d = record { turn = λ a. d.turn (star a); is = star_done s p.next e q.next d.is; same_steps = d.same_steps; same_depth = d.same_depth; turned = turn_star g k d.turned }
    go (Err x) d = fails_on d (star_stuck s p.next e)

pub mark_posted : {s : List ℕ} {o n w z : ℕ} {p q : Part} {c₀ c₁ : List ℕ} (c₂ : List ℕ) (r : Result Part Refusal) → Marked s p.next n w → z ≡ joint p.nul w → Joined o (o + p.steps) p.nul w c₀ c₁ → q ≡ postfixed p n z → Posted s o q c₁ c₂ r → Posted s o p c₀ c₂ r
mark_posted {s} {o} {n} {w} {z} {p} {c₀ = c₀} {c₁ = c₁} c₂ r m g k i h = go r (subst (λ (x : Part). Posted s o x c₁ c₂ r) i h)
  where
    go : (t : Result Part Refusal) → Posted s o (postfixed p n z) c₁ c₂ t → Posted s o p c₀ c₂ t
    go (Ok q) d = record { turn = λ a. d.turn (charge w a); is = mark_done s p.next n w m q.next d.is; same_steps = d.same_steps; same_depth = d.same_depth; turned = turn_charge g k d.turned }
    go (Err x) d = fails_on d (mark_then_stuck s p.next n w m)

pub none_posted : {s : List ℕ} {o : ℕ} {p : Part} {c : List ℕ} → p.next ≤ length s → (eqb (get_or s p.next 0) 42 ≡ false) × (eqb (get_or s p.next 0) 35 ≡ false) → Posted s o p c c (Ok p)
none_posted {s} {p = p} l h = record { turn = λ a. a; is = posts_none s p.next l h; same_steps = refl; same_depth = refl; turned = turn_none }

closing_some : (b : Machine.Bracket) → 0 < closing b
closing_some Machine.round = omega arith
closing_some Machine.curly = omega arith

-- the parts
module _ {k : ℕ} {s : List ℕ} {at o : ℕ} where
  pub byte_part : {n arg r : ℕ} {c₀ c₁ l₀ l₁ : List ℕ} → Reads k s at n arg → Stepped o 0 arg c₀ c₁ l₀ l₁ r → Stands Atom AtomStop k s at o c₀ c₁ l₀ l₁ (level n 1 r)
  unfolding steps_of nesting_of
  byte_part h d = record { tree = reads h.lo h.hi; is = h.done; counts = refl; depth = refl; grown = grow_reads h.argument d }

  pub blank_part : {n : ℕ} {c l : List ℕ} → Done Atom AtomStop k s at n nothing → Stands Atom AtomStop k s at o c c l l (level n 0 0)
  unfolding steps_of nesting_of
  blank_part d = record { tree = nothing; is = d; counts = refl; depth = refl; grown = grow_nothing }

  factor_part : {p q : Part} {c₀ c₁ c₂ l₀ l₁ : List ℕ} → Stands Atom AtomStop k s at o c₀ c₁ l₀ l₁ p → Posts s o p c₁ c₂ q → Stands Factor FactorStop k s at o c₀ c₂ l₀ l₁ q
  factor_part x y = record {
    tree = y.turn x.tree;
    is = factor_good x.is y.is;
    counts = y.same_steps ∙ x.counts ∙ sym (y.is.counts x.tree);
    depth = y.same_depth ∙ x.depth ∙ sym (y.is.level x.tree);
    grown = grow_turn x.counts (y.is.counts x.tree) x.grown y.turned;
  }

  pub factor_parses : {p : Part} {c₀ c₁ l₀ l₁ : List ℕ} (c₂ : List ℕ) (r : Result Part Refusal) → Stands Atom AtomStop k s at o c₀ c₁ l₀ l₁ p → Posted s o p c₁ c₂ r → Parses Factor FactorStop k s at o c₀ c₂ l₀ l₁ r
  factor_parses c₂ (Ok q) x y = factor_part x y
  factor_parses c₂ (Err e) x d = fails_on d (λ place stuck. factor_bad_2 x.is stuck)

  pub term_part : {p : Part} {c₀ c₁ l₀ l₁ : List ℕ} → Stands Factor FactorStop k s at o c₀ c₁ l₀ l₁ p → starts k (get_or s p.next 0) ≡ false → Stands Term TermStop k s at o c₀ c₁ l₀ l₁ p
  term_part f h = record { tree = f.tree; is = term_good f.is (λ _. h); counts = f.counts; depth = f.depth; grown = f.grown }

  pub term_part_2 : {p q : Part} {r : ℕ} {c₀ c₁ c₂ c₃ l₀ l₁ l₂ : List ℕ} → Stands Factor FactorStop k s at o c₀ c₁ l₀ l₁ p → Stands Term TermStop k s p.next (o + p.steps) c₁ c₂ l₁ l₂ q
      → Joined o (o + p.steps) p.nul q.nul c₂ c₃ → r ≡ joint p.nul q.nul → Stands Term TermStop k s at o c₀ c₃ l₀ l₂ (beside p q r)
  unfolding steps_of nesting_of
  term_part_2 f t j g = record {
    tree = cat f.tree t.tree;
    is = term_good_2 f.is t.is;
    counts = ap₂ ◌+◌ f.counts t.counts;
    depth = ap₂ max f.depth t.depth;
    grown = grow_cat f.counts f.grown t.grown j g;
  }

  pub pattern_part : {p : Part} {c₀ c₁ l₀ l₁ : List ℕ} → Stands Term TermStop k s at o c₀ c₁ l₀ l₁ p → eqb (get_or s p.next 0) 124 ≡ false → Stands Pattern PatternStop k s at o c₀ c₁ l₀ l₁ p
  pattern_part f h = record { tree = f.tree; is = pattern_good f.is (λ _. h); counts = f.counts; depth = f.depth; grown = f.grown }

  pub pattern_part_2 : {p q : Part} {r : ℕ} {c₀ c₁ c₂ l₀ l₁ l₂ : List ℕ} → Stands Term TermStop k s at o c₀ c₁ l₀ l₁ p → get_or s p.next 0 ≡ 124 → Stands Pattern PatternStop k s (p.next + 1) (o + p.steps) c₁ c₂ l₁ l₂ q
      → r ≡ lighter p.nul q.nul → Stands Pattern PatternStop k s at o c₀ c₂ l₀ l₂ (beside p q r)
  unfolding steps_of nesting_of
  pattern_part_2 {p} f b t g = record {
    tree = alt f.tree t.tree;
    is = pattern_good_2 f.is (is_stands s p.next 124 b (omega arith)) b t.is;
    counts = ap₂ ◌+◌ f.counts t.counts;
    depth = ap₂ max f.depth t.depth;
    grown = grow_alt f.counts f.grown t.grown g;
  }

  pub atom_part : (b : Bracket) (own : ℕ) {i r : ℕ} {p : Part} {c₀ c₁ c₂ c₃ l₀ l₁ l₂ l₃ : List ℕ} → Opened k s at i (closed_by b) (wrapped b) → Entered o b c₀ c₁ l₀ l₁ own → Stands Pattern PatternStop k s i (o + own) c₁ c₂ l₁ l₂ p
      → get_or s p.next 0 ≡ closed_by b → Left o b p.steps p.nul c₂ c₃ l₂ l₃ r → Stands Atom AtomStop k s at o c₀ c₃ l₀ l₃ (between p own r)
  atom_part b own {p = p} h i x e j = record {
    tree = wrapped b x.tree;
    is = atom_good h x.is (is_stands s p.next (closed_by b) e (rw h.closes (closing_some h.bracket))) e;
    counts = ap (λ (n : ℕ). own + n + own) x.counts ∙ wrap_steps b _ _ _ _ _ _ i x.tree;
    depth = ap (λ (n : ℕ). 1 + n) x.depth ∙ sym (h.deepens x.tree);
    grown = grow_wrap b own x.counts i x.grown j;
  }

-- the whole text
pub read_whole : {k : ℕ} {p : Part} {s c₀ c₁ l₀ l₁ : List ℕ} → length s ≤ 255 → Cleared c₀ → Stands Pattern PatternStop k s 0 0 c₀ c₁ l₀ l₁ p → length s ≤ p.next → Read k s c₁ l₁ p.next p.steps p.deep p.nul
read_whole {p = p} {s = s} {c₀ = c₀} {c₁ = c₁} {l₁ = l₁} b clear x h = record {
  tree = x.tree;
  parsed = accepted x.is h;
  all = omega (arith, x.is.within);
  counts = x.counts;
  deep = x.depth;
  root = x.grown.root;
  whole = whole;
}
  where
    whole : steps_of x.tree ≤ 31 → Whole x.tree c₁ l₁
    whole few =
        let t = accepted x.is h in
        let g = x.grown.built (omega arith) (omega (arith, few_tolls t b)) (fresh_cleared c₀ clear) in
        let l = x.grown.labelled (omega arith) in
        record {
          arcs = grown_whole t b c₀ c₁ p.nul clear g;
          kinds = λ i j. (let z : 0 + i ≡ i = omega arith in rw z at (l.kinds i (omega (arith, labels_count x.tree))));
          arguments = λ i j. (let z : 0 + i ≡ i = omega arith in rw z at (l.arguments i (omega (arith, labels_count x.tree))));
        }

-- and what else is in the slices, after the arcs and the labels
pub read_on : {k n st dp nul : ℕ} {s cells labels : List ℕ} (more rest : List ℕ) → 1024 ≤ length cells → 64 ≤ length labels → Read k s cells labels n st dp nul → Read k s (cells ++ more) (labels ++ rest) n st dp nul
read_on {cells = cells} {labels = labels} more rest c l r = record {
  tree = r.tree;
  parsed = r.parsed;
  all = r.all;
  counts = r.counts;
  deep = r.deep;
  root = r.root;
  whole = λ few. (let w = r.whole few in record {
    arcs = λ x y h i j. get_or_append_left cells more 0 (x * 32 + y) (omega arith) ∙ w.arcs x y h i j;
    kinds = λ i h. get_or_append_left labels rest 0 (2 * i) (omega arith) ∙ w.kinds i h;
    arguments = λ i h. get_or_append_left labels rest 0 (2 * i + 1) (omega arith) ∙ w.arguments i h;
  });
}
