-- What grows with each part of a text: its weight for no step, its arcs, its labels.
use mathlib.Core.Path.{◌≡◌, refl, sym, ap, ap₂, ◌∙◌}
use mathlib.Core.List.{List, [], ◌∷◌, ◌++◌}
use Prim.Native.Nat.{ℕ, zero, suc, ◌+◌, ◌*◌, ◌-◌, ◌≤◌, ◌<◌}
use native.Mathlib.Omega.{arith}
use native.Mathlib.Decide.{dec_lt}
use lib.ListN.{length, get_or, set, length-append, length-set}
use lib.Seq.{get_or-set_same, get_or-set_other}
use Rattle.weight.specs.Weight.{mark, lighter, joint}
use Rattle.marks.specs.Labels.{Label}
use Rattle.pattern.specs.Grammar.{Pat, reads, nothing, alt, cat, star, charge, capture, grouped, steps_of}
use Rattle.pattern.specs.Derivations.{labels_of, nth_label}
use Rattle.arcs.specs.Tree.{size, tolls}
use Rattle.arcs.specs.Core.{core, core_size}
use Rattle.arcs.specs.Arcs.{arc}
use Rattle.grid.specs.Cells.{Linked, Joined}
use Rattle.grid.specs.Grow.{Fresh, Built}
use Rattle.grid.specs.Patterns.{grown_on, grown_reads, grown_nothing, grown_alt, grown_cat, grown_star, grown_charge, grown_capture}
use Rattle.parser.specs.Grown.{Labelled, Grown, Turned, Stepped, Entered, Shut, Left}
use Rattle.parser.specs.Brackets.{wrapped}
use Rattle.parser.specs.declared.Bracket.{Bracket}
use Rattle.parser.specs.declared.Bracket.TheVariants.{Group, Capture}

-- as many labels as steps
pub labels_count : (a : Pat) → length (labels_of a) ≡ steps_of a
unfolding labels_of steps_of
labels_count (reads lo hi) = refl
labels_count nothing = refl
labels_count (alt a b) = length-append (labels_of a) (labels_of b) ∙ ap₂ ◌+◌ (labels_count a) (labels_count b)
labels_count (cat a b) = length-append (labels_of a) (labels_of b) ∙ ap₂ ◌+◌ (labels_count a) (labels_count b)
labels_count (star a) = labels_count a
labels_count (charge n a) = labels_count a
labels_count (capture v a) = simp length-append (omega (arith, labels_count a))
labels_count (grouped a) = labels_count a

-- labels one after another
nth_left : (ls ms : List Label) (i : ℕ) → i < length ls → nth_label (ls ++ ms) i ≡ nth_label ls i
unfolding nth_label
nth_left [] ms i h = absurd (omega arith)
nth_left (l ∷ ls) ms zero h = refl
nth_left (l ∷ ls) ms (suc i) h = nth_left ls ms i (omega arith)

nth_right : (ls ms : List Label) (i : ℕ) → nth_label (ls ++ ms) (length ls + i) ≡ nth_label ms i
unfolding nth_label
nth_right [] ms i = let e : 0 + i ≡ i = omega arith in ap (nth_label ms) e
nth_right (l ∷ ls) ms i = let e : suc (length ls) + i ≡ suc (length ls + i) = omega arith in rw e (nth_right ls ms i)

pub labelled_none : (o : ℕ) (l : List ℕ) → Labelled [] o l l
labelled_none o l = record { kinds = λ i h. absurd (omega arith); arguments = λ i h. absurd (omega arith); before = λ j h. refl }

module _ (ls ms : List Label) (o : ℕ) (l₀ l₁ l₂ : List ℕ) (p : Labelled ls o l₀ l₁) (q : Labelled ms (o + length ls) l₁ l₂) where
  first : (f : Label → ℕ) (i x : ℕ) → i < length ls → x < 2 * (o + length ls) → get_or l₁ x 0 ≡ f (nth_label ls i) → get_or l₂ x 0 ≡ f (nth_label (ls ++ ms) i)
  first f i x h b e = q.before x b ∙ e ∙ ap f (sym (nth_left ls ms i h))

  second : (f : Label → ℕ) (i x y : ℕ) → x ≡ y → length ls ≤ i → get_or l₂ y 0 ≡ f (nth_label ms (i - length ls)) → get_or l₂ x 0 ≡ f (nth_label (ls ++ ms) i)
  second f i x y g h e =
      let j : length ls + (i - length ls) ≡ i = omega arith in
      rw g (e ∙ ap f (sym (nth_right ls ms (i - length ls)) ∙ ap (nth_label (ls ++ ms)) j))

  pub labelled_join : Labelled (ls ++ ms) o l₀ l₂
  labelled_join = record {
    kinds = λ i h. kind i (omega (arith, length-append ls ms)) (dec_lt i (length ls));
    arguments = λ i h. argument i (omega (arith, length-append ls ms)) (dec_lt i (length ls));
    before = λ j h. q.before j (omega arith) ∙ p.before j h;
  }
    where
      kind : (i : ℕ) → i < length ls + length ms → Dec (i < length ls) → get_or l₂ (2 * (o + i)) 0 ≡ (nth_label (ls ++ ms) i).kind
      kind i h (yes b) = first (λ l. l.kind) i (2 * (o + i)) b (omega arith) (p.kinds i b)
      kind i h (no b) = second (λ l. l.kind) i (2 * (o + i)) (2 * (o + length ls + (i - length ls))) (omega arith) (omega arith) (q.kinds (i - length ls) (omega arith))

      argument : (i : ℕ) → i < length ls + length ms → Dec (i < length ls) → get_or l₂ (2 * (o + i) + 1) 0 ≡ (nth_label (ls ++ ms) i).argument
      argument i h (yes b) = first (λ l. l.argument) i (2 * (o + i) + 1) b (omega arith) (p.arguments i b)
      argument i h (no b) = second (λ l. l.argument) i (2 * (o + i) + 1) (2 * (o + length ls + (i - length ls)) + 1) (omega arith) (omega arith) (q.arguments (i - length ls) (omega arith))

pub labelled_one : (k v o : ℕ) (l : List ℕ) → 2 * o + 1 < length l → Labelled (record { kind = k; argument = v } ∷ []) o l (set (set l (2 * o) k) (2 * o + 1) v)
unfolding nth_label
labelled_one k v o l h = record { kinds = kind; arguments = argument; before = λ j b. get_or-set_other (set l (2 * o) k) (2 * o + 1) j v 0 (omega arith) ∙ get_or-set_other l (2 * o) j k 0 (omega arith) }
  where
    kind : (i : ℕ) → i < 1 → get_or (set (set l (2 * o) k) (2 * o + 1) v) (2 * (o + i)) 0 ≡ (nth_label (record { kind = k; argument = v } ∷ []) i).kind
    kind zero b =
        let e : 2 * (o + 0) ≡ 2 * o = omega arith in
        rw e (get_or-set_other (set l (2 * o) k) (2 * o + 1) (2 * o) v 0 (omega arith) ∙ get_or-set_same l (2 * o) k 0 (omega arith))
    kind (suc i) b = absurd (omega arith)

    argument : (i : ℕ) → i < 1 → get_or (set (set l (2 * o) k) (2 * o + 1) v) (2 * (o + i) + 1) 0 ≡ (nth_label (record { kind = k; argument = v } ∷ []) i).argument
    argument zero b =
        let e : 2 * (o + 0) + 1 ≡ 2 * o + 1 = omega arith in
        rw e (get_or-set_same (set l (2 * o) k) (2 * o + 1) v 0 (simp length-set h))
    argument (suc i) b = absurd (omega arith)

-- the weight of the second part for no step, whose steps are numbered from where the first ends
root_on : (a b : Pat) (o m : ℕ) → m ≡ arc (core b) (o + steps_of a) 0 0 → m ≡ arc (core b) (o + size (core a)) 0 0
root_on a b o m e = rw core_size e

-- a part that reads a byte, and one that reads nothing
pub grow_reads : {lo hi arg o n : ℕ} {c₀ c₁ l₀ l₁ : List ℕ} → arg ≡ lo * 256 + hi → Stepped o 0 arg c₀ c₁ l₀ l₁ n → Grown (reads lo hi) o c₀ c₁ l₀ l₁ n
unfolding steps_of labels_of arc core
grow_reads {lo} {hi} {arg} {o} {n} {c₀} {c₁} e s = record {
  root = s.root;
  built = λ h t f. rw s.root (grown_reads lo hi o c₀ c₁ (omega arith) f (s.leaf (omega arith)));
  labelled = λ h. rw e at (s.labelled (omega arith));
}

pub grow_nothing : {o : ℕ} {c l : List ℕ} → Grown nothing o c c l l 0
unfolding steps_of labels_of arc core
grow_nothing {o} {c} {l} = record { root = refl; built = λ h t f. grown_nothing o c f; labelled = λ h. labelled_none o l }

-- one or the other, and one after the other
module _ {a b : Pat} {o st n m : ℕ} {c₀ c₁ c₂ l₀ l₁ l₂ : List ℕ} (e : st ≡ steps_of a) (p : Grown a o c₀ c₁ l₀ l₁ n) (q : Grown b (o + st) c₁ c₂ l₁ l₂ m) where
  second_root : m ≡ arc (core b) (o + size (core a)) 0 0
  second_root = root_on a b o m (rw e at q.root)

  both_labelled : o + (steps_of a + steps_of b) ≤ 31 → Labelled (labels_of a ++ labels_of b) o l₀ l₂
  both_labelled h =
      let c : o + st ≡ o + length (labels_of a) = omega (arith, labels_count a) in
      labelled_join (labels_of a) (labels_of b) o l₀ l₁ l₂ (p.labelled (omega arith)) (rw c at (q.labelled (omega arith)))

  second_built : o + (steps_of a + steps_of b) ≤ 31 → tolls (core b) ≤ mark → Fresh o c₀ → Built (core a) o c₀ c₁ n → Built (core b) (o + steps_of a) c₁ c₂ m
  second_built h t f x = rw e at (q.built (omega arith) t (rw (← e) at (grown_on a o c₀ c₁ n f x)))

  pub grow_alt : {r : ℕ} → r ≡ lighter n m → Grown (alt a b) o c₀ c₂ l₀ l₂ r
  unfolding steps_of labels_of arc core tolls
  grow_alt {r} g = record {
    root = g ∙ ap₂ lighter p.root second_root;
    built = λ h t f. (let x = p.built (omega arith) (omega arith) f in rw g (grown_alt a b o c₀ c₁ c₂ n m x (second_built h (omega arith) f x)));
    labelled = both_labelled;
  }

  pub grow_cat : {r : ℕ} {c₃ : List ℕ} → Joined o (o + st) n m c₂ c₃ → r ≡ joint n m → Grown (cat a b) o c₀ c₃ l₀ l₂ r
  unfolding steps_of labels_of arc core tolls
  grow_cat {r} {c₃} j g = record {
    root = g ∙ ap₂ joint p.root second_root;
    built = λ h t f. (let x = p.built (omega arith) (omega arith) f in rw g (grown_cat a b o c₀ c₁ c₂ c₃ n m (omega arith) (omega arith) f x (second_built h (omega arith) f x) (rw e at j)));
    labelled = both_labelled;
  }

-- what postfixes make of a part
pub turn_none : {o mid n : ℕ} {c : List ℕ} → Turned (λ a. a) o mid n c c n
turn_none = record { root = λ a e. e; grows = λ a. omega arith; same = λ a. refl; built = λ a old e t f b. b }

pub turn_star : {turn : Pat → Pat} {o mid n z m : ℕ} {c₀ c₁ c₂ : List ℕ} → z ≡ 0 → Linked o 31 o c₀ c₁ → Turned turn o mid z c₁ c₂ m → Turned (λ a. turn (star a)) o mid n c₀ c₂ m
unfolding tolls core labels_of steps_of arc
turn_star {turn} {o} {mid} {n} {z} {m} {c₀} {c₁} {c₂} e k t = record {
  root = λ a g. t.root (star a) e;
  grows = λ a. t.grows (star a);
  same = λ a. t.same (star a);
  built = λ a old i s f b. t.built (star a) old i s f (rw e (grown_star a o old c₀ c₁ n (omega (arith, t.grows (star a))) f b k));
}

pub turn_charge : {turn : Pat → Pat} {o mid n w z m : ℕ} {c₀ c₁ c₂ : List ℕ} → z ≡ joint n w → Joined o mid n w c₀ c₁ → Turned turn o mid z c₁ c₂ m → Turned (λ a. turn (charge w a)) o mid n c₀ c₂ m
unfolding tolls core labels_of steps_of arc
turn_charge {turn} {o} {mid} {n} {w} {z} {m} {c₀} {c₁} {c₂} e k t = record {
  root = λ a g. t.root (charge w a) (e ∙ ap (λ (x : ℕ). joint x w) g);
  grows = λ a. omega (arith, t.grows (charge w a));
  same = λ a. t.same (charge w a);
  built = λ a old i s f b. t.built (charge w a) old i s f
      (rw e (grown_charge w a o old c₀ c₁ n (omega (arith, t.grows (charge w a))) (omega (arith, t.grows (charge w a))) f b (rw (← i) at k)));
}

pub grow_turn : {turn : Pat → Pat} {a : Pat} {o st n m : ℕ} {c₀ c₁ c₂ l₀ l₁ : List ℕ} → st ≡ steps_of a → steps_of (turn a) ≡ steps_of a → Grown a o c₀ c₁ l₀ l₁ n → Turned turn o (o + st) n c₁ c₂ m → Grown (turn a) o c₀ c₂ l₀ l₁ m
grow_turn {turn} {a} {o} {st} {n} {m} {c₀} {c₁} {c₂} {l₀} {l₁} e g p t = record {
  root = t.root a p.root;
  built = λ h s f. t.built a c₀ (omega arith) s f (p.built (omega arith) (omega (arith, t.grows a)) f);
  labelled = λ h. rw (t.same a) (p.labelled (omega arith));
}

-- what stands in a bracket
pub wrap_steps : (b : Bracket) (o r : ℕ) (c₀ c₁ l₀ l₁ : List ℕ) → Entered o b c₀ c₁ l₀ l₁ r → (a : Pat) → r + steps_of a + r ≡ steps_of (wrapped b a)
unfolding steps_of
wrap_steps Group o r c₀ c₁ l₀ l₁ e a = omega (arith, e.0)
wrap_steps (Capture v) o r c₀ c₁ l₀ l₁ e a = omega (arith, e.0)

module _ {v o n r : ℕ} {a : Pat} {c₀ c₁ c₂ c₃ l₀ l₁ l₂ l₃ : List ℕ} (opening : Stepped o 1 v c₀ c₁ l₀ l₁ mark) (p : Grown a (o + 1) c₁ c₂ l₁ l₂ n) (s : Shut o v (steps_of a) n c₂ c₃ l₂ l₃ r) where
  fresh_inside : o < 31 → Fresh o c₀ → Fresh (o + 1) c₁
  unfolding steps_of
  fresh_inside h f = grown_on (reads 0 0) o c₀ c₁ mark f (grown_reads 0 0 o c₀ c₁ h f (opening.leaf h))

  capture_built : o + (2 + steps_of a) ≤ 31 → tolls (core a) ≤ mark → Fresh o c₀ → Built (core (capture v a)) o c₀ c₃ r
  capture_built h t f =
      rw s.root (grown_capture v a o c₀ c₁ c₂ s.one s.two c₃ n t (omega arith) f (opening.leaf (omega arith))
      (p.built (omega arith) t (fresh_inside (omega arith) f)) (s.closed.leaf (omega arith)) s.inner s.outer)

  capture_labelled : o + (2 + steps_of a) ≤ 31 → Labelled (labels_of (capture v a)) o l₀ l₃
  unfolding labels_of
  capture_labelled h =
      let c : o + 1 + steps_of a ≡ o + 1 + length (labels_of a) = omega (arith, labels_count a) in
      labelled_join (record { kind = 1; argument = v } ∷ []) (labels_of a ++ record { kind = 2; argument = v } ∷ []) o l₀ l₁ l₃ (opening.labelled (omega arith))
      (labelled_join (labels_of a) (record { kind = 2; argument = v } ∷ []) (o + 1) l₁ l₂ l₃ (p.labelled (omega arith)) (rw c at (s.closed.labelled (omega arith))))

  grow_capture : Grown (capture v a) o c₀ c₃ l₀ l₃ r
  unfolding steps_of core arc tolls size
  grow_capture = record {
    root = s.root ∙ ap (λ (q : ℕ). joint mark (joint q mark)) p.root;
    built = λ h t f. capture_built h (omega arith) f;
    labelled = capture_labelled;
  }

pub grow_group : {o : ℕ} {n : ℕ} {a : Pat} {c₀ c₁ l₀ l₁ : List ℕ} → Grown a o c₀ c₁ l₀ l₁ n → Grown (grouped a) o c₀ c₁ l₀ l₁ n
unfolding steps_of labels_of core
grow_group g = record { root = g.root; built = g.built; labelled = g.labelled }

pub grow_wrap : (b : Bracket) (own : ℕ) {o st n r : ℕ} {a : Pat} {c₀ c₁ c₂ c₃ l₀ l₁ l₂ l₃ : List ℕ} → st ≡ steps_of a → Entered o b c₀ c₁ l₀ l₁ own
    → Grown a (o + own) c₁ c₂ l₁ l₂ n → Left o b st n c₂ c₃ l₂ l₃ r → Grown (wrapped b a) o c₀ c₃ l₀ l₃ r
grow_wrap Group own {o = o} e x p y =
    let z : o + own ≡ o = omega (arith, x.0) in
    rw (y.0, y.1, y.2) (grow_group (rw (z, x.1, x.2) at p))
grow_wrap (Capture v) own {o = o} e x p y =
    let z : o + own ≡ o + 1 = omega (arith, x.0) in
    grow_capture x.1 (rw z at p) (rw e at y)
