-- What the machine does on a text of the grammar: it builds the text's tree, so one text has one tree (tree_one).
use Rattle.std.specs.Prelude.{◌≡◌, true, false, cond, List, [], ◌∷◌, ◌++◌, ℕ, ◌+◌, ◌-◌, ◌≤◌, eqb}
use Rattle.std.proofs.Math.Path.{refl}
use Rattle.std.proofs.Common.{sym, ap, ◌∙◌, arith}
use borrow.Author.Tests.{le-leb, ne_eqb}
use Rattle.pattern.specs.declared.Class.TheVariants.{Plain}
use Rattle.pattern.specs.Bytes.{byte_class, Shown, Digit, shown}
use Rattle.pattern.specs.Grammar.{Pat, reads, nothing, alt, cat, capture, grouped, Posts, none, starred, marked, Pattern, lone, either, Term, last, thence, Factor, with, Atom, plain, escaped, any, range, empty, group, named}
use Rattle.pattern.specs.Machine.{Bracket, round, curly, closing, Frame, Todo, St, wants, after, esc, br1, br2, br3, br4, va1, va2, ch1, ch2, ch3, dead, opened, more, starts, begin, shut, follow, digit, step, run}

pub run_append : (k : ℕ) (s : St) (u v : List ℕ) → run k s (u ++ v) ≡ run k (run k s u) v
run_append k s [] v = refl
run_append k s (c ∷ u) v = run_append k (step k s c) u v

pub run_dead : (k : ℕ) (w : List ℕ) → run k dead w ≡ dead
run_dead k [] = refl
run_dead k (c ∷ w) = run_dead k w

pub is_shown : {c : ℕ} → Shown c → shown c ≡ true
is_shown {c} h = rw (le-leb 0x20 c h.low, le-leb c 0x7E h.high)

pub is_digit : {c : ℕ} → Digit c → digit c ≡ true
is_digit {c} h = rw (le-leb 48 c h.low, le-leb c 57 h.high)

-- a byte that starts an atom is none at which starts computes to false
not_at : (k c x : ℕ) → starts k x ≡ false → starts k c ≡ true → eqb c x ≡ false
not_at k c x f h = ne_eqb c x (λ e. let z : false ≡ true = sym f ∙ (ap (λ (y : ℕ). starts k y) (sym e) ∙ h) in (let y : ◌≡◌ {A = ℕ} 0 1 = cc in omega arith))

not_post : (k c : ℕ) → starts k c ≡ true
    → (eqb c 42 ≡ false) × (eqb c 35 ≡ false) × (eqb c 124 ≡ false) × (eqb c 41 ≡ false) × (eqb c 125 ≡ false)
unfolding byte_class
not_post k c h = (not_at k c 42 refl h, not_at k c 35 refl h, not_at k c 124 refl h, not_at k c 41 refl h, not_at k c 125 refl h)

past : (k : ℕ) (d : Todo) (a : Pat) (c : ℕ) (fs : List Frame) (s : St) → starts k c ≡ true → shut d a fs c s ≡ s
past k d a c [] s h = refl
past k d a c (f ∷ fs) s h = go f.close
  where
    go : (b : Bracket) → cond (eqb c (closing b)) (after (record { outer = f.outer; before = f.before; frames = fs }) (f.wrap (d.outer (d.before a)))) s ≡ s
    go round = rw (not_post k c h).3
    go curly = rw (not_post k c h).4

pub after_starts : (k : ℕ) (d : Todo) (a : Pat) (c : ℕ) → starts k c ≡ true → follow k d a c ≡ begin k (more d a) c
after_starts k d a c h = rw ((not_post k c h).0, (not_post k c h).1, (not_post k c h).2) (past k d a c d.frames (begin k (more d a) c) h)

-- the first byte of an atom starts it
pub record Headed (k : ℕ) (w : List ℕ) : Type 0 where
  pub first : ℕ
  pub rest : List ℕ
  pub is : w ≡ first ∷ rest
  pub begins : starts k first ≡ true

pub atom_headed : {k : ℕ} {w : List ℕ} {a : Pat} → Atom k w a → Headed k w
unfolding byte_class
atom_headed {k} (plain {c = c} h) = record { first = c; rest = []; is = refl; begins = rw h }
atom_headed (escaped {c = c} h) = record { first = 92; rest = c ∷ []; is = refl; begins = refl }
atom_headed any = record { first = 46; rest = []; is = refl; begins = refl }
atom_headed (range {lo = lo} {hi = hi} p q l) = record { first = 91; rest = _; is = refl; begins = refl }
atom_headed empty = record { first = 126; rest = []; is = refl; begins = refl }
atom_headed (group {w = w} p) = record { first = 40; rest = _; is = refl; begins = refl }
atom_headed {k} (named {d = d} {w = w} l h p) = record { first = 123; rest = _; is = refl; begins = le-leb 1 k (omega arith) }

pub headed_append : {k : ℕ} {u : List ℕ} (v : List ℕ) → Headed k u → Headed k (u ++ v)
headed_append {k} {u} v h = record { first = h.first; rest = h.rest ++ v; is = ap (λ (l : List ℕ). l ++ v) h.is; begins = h.begins }

pub factor_headed : {k : ℕ} {w : List ℕ} {a : Pat} → Factor k w a → Headed k w
factor_headed (with {v = v} x p) = headed_append v (atom_headed x)

pub term_headed : {k : ℕ} {w : List ℕ} {a : Pat} → Term k w a → Headed k w
term_headed (last f) = factor_headed f
term_headed (thence {v = v} f t) = headed_append v (factor_headed f)

-- from after a factor, what starts an atom goes on as the next factor
pub run_headed : (k : ℕ) (d : Todo) (a : Pat) (w : List ℕ) → Headed k w → run k (after d a) w ≡ run k (wants (more d a)) w
run_headed k d a w h = rw h.is (ap (λ (s : St). run k s h.rest) (after_starts k d a h.first h.begins))

pub posts_run : {w : List ℕ} {a b : Pat} (k : ℕ) (d : Todo) → Posts w a b → run k (after d a) w ≡ after d b
posts_run k d none = refl
posts_run k d (starred p) = posts_run k d p
posts_run k d (marked x y z p) = rw (is_digit x, is_digit y, is_digit z) (posts_run k d p)

-- a pattern's start: nothing of it waits
abbrev pub fresh : (Pat → Pat) → List Frame → Todo
fresh o fs = record { outer = o; before = λ x. x; frames = fs }

pub record Ran (k : ℕ) (o : Pat → Pat) (fs : List Frame) (w : List ℕ) (a : Pat) : Type 0 where
  pub outer : Pat → Pat
  pub before : Pat → Pat
  pub tree : Pat
  pub runs : run k (wants (fresh o fs)) w ≡ after (record { outer = outer; before = before; frames = fs }) tree
  pub makes : outer (before tree) ≡ o a

pub record RanTerm (k : ℕ) (d : Todo) (w : List ℕ) (a : Pat) : Type 0 where
  pub before : Pat → Pat
  pub tree : Pat
  pub runs : run k (wants d) w ≡ after (record { outer = d.outer; before = before; frames = d.frames }) tree
  pub makes : before tree ≡ d.before a

pub record RanAtom (k : ℕ) (d : Todo) (w : List ℕ) (a : Pat) : Type 0 where
  pub runs : run k (wants d) w ≡ after d a

pub named_opens : (k v : ℕ) → 49 ≤ v → v ≤ 48 + k → (d : Todo) → step k (step k (step k (wants d) 123) v) 58 ≡ wants (opened d curly (capture (v - 48)))
unfolding byte_class
named_opens k v l h d = rw (le-leb 1 k (omega arith), le-leb 49 v l, le-leb v (48 + k) h)

module _ {k : ℕ} where
  either_run : {u v : List ℕ} {a b : Pat} → ((d : Todo) → RanTerm k d u a) → ((o : Pat → Pat) (fs : List Frame) → Ran k o fs v b) → (o : Pat → Pat) (fs : List Frame) → Ran k o fs (u ++ 124 ∷ v) (alt a b)
  either_run {u} {v} {a} {b} t p o fs =
      let r = t (fresh o fs) in
      let q = p (λ x. o (alt (r.before r.tree) x)) fs in
      record {
        outer = q.outer;
        before = q.before;
        tree = q.tree;
        runs = run_append k (wants (fresh o fs)) u (124 ∷ v) ∙ (ap (λ (s : St). run k s (124 ∷ v)) r.runs ∙ q.runs);
        makes = q.makes ∙ ap (λ (x : Pat). o (alt x b)) r.makes;
      }

  thence_run : {u v : List ℕ} {a b : Pat} → ((d : Todo) → RanAtom k d u a) → Headed k v → ((d : Todo) → RanTerm k d v b) → (d : Todo) → RanTerm k d (u ++ v) (cat a b)
  thence_run {u} {v} {a} {b} f h t d =
      let q = t (more d a) in
      record {
        before = q.before;
        tree = q.tree;
        runs = run_append k (wants d) u v ∙ (ap (λ (s : St). run k s v) (f d).runs ∙ (run_headed k d a v h ∙ q.runs));
        makes = q.makes;
      }

  with_run : {u v : List ℕ} {a b : Pat} → ((d : Todo) → RanAtom k d u a) → Posts v a b → (d : Todo) → RanAtom k d (u ++ v) b
  with_run {u} {v} f p d = record { runs = run_append k (wants d) u v ∙ (ap (λ (s : St). run k s v) (f d).runs ∙ posts_run k d p) }

  plain_run : {c : ℕ} → byte_class c ≡ Plain → (d : Todo) → RanAtom k d (c ∷ []) (reads c c)
  plain_run h d = record { runs = rw h }

  escaped_run : {c : ℕ} → Shown c → (d : Todo) → RanAtom k d (92 ∷ c ∷ []) (reads c c)
  unfolding byte_class
  escaped_run h d = record { runs = rw (is_shown h) }

  any_run : (d : Todo) → RanAtom k d (46 ∷ []) (reads 0 255)
  unfolding byte_class
  any_run d = record { runs = refl }

  empty_run : (d : Todo) → RanAtom k d (126 ∷ []) nothing
  unfolding byte_class
  empty_run d = record { runs = refl }

  range_run : {lo hi : ℕ} → Shown lo → Shown hi → lo ≤ hi → (d : Todo) → RanAtom k d (91 ∷ lo ∷ 45 ∷ hi ∷ 93 ∷ []) (reads lo hi)
  unfolding byte_class
  range_run {lo} {hi} p q l d = record { runs = rw (is_shown p, is_shown q, le-leb lo hi l) }

  -- what stands in a bracket
  inside_run : (w : List ℕ) {a : Pat} (b : Bracket) (f : Pat → Pat) (d : Todo) → Ran k (λ x. x) (opened d b f).frames w a
      → run k (wants (opened d b f)) (w ++ closing b ∷ []) ≡ after d (f a)
  inside_run w {a} b f d r =
      run_append k (wants (opened d b f)) w (closing b ∷ []) ∙ (ap (λ (s : St). run k s (closing b ∷ [])) r.runs ∙ (shuts b ∙ ap (λ (x : Pat). after d (f x)) r.makes))
    where
      shuts : (b : Bracket) → run k (after (record { outer = r.outer; before = r.before; frames = (opened d b f).frames }) r.tree) (closing b ∷ [])
          ≡ after d (f (r.outer (r.before r.tree)))
      shuts round = refl
      shuts curly = refl

  group_run : {w : List ℕ} {a : Pat} → ((o : Pat → Pat) (fs : List Frame) → Ran k o fs w a) → (d : Todo) → RanAtom k d (40 ∷ (w ++ 41 ∷ [])) (grouped a)
  unfolding byte_class
  group_run {w} p d = record { runs = inside_run w round grouped d (p (λ x. x) (opened d round grouped).frames) }

  named_run : {v : ℕ} {w : List ℕ} {a : Pat} → 49 ≤ v → v ≤ 48 + k → ((o : Pat → Pat) (fs : List Frame) → Ran k o fs w a) → (d : Todo)
      → RanAtom k d (123 ∷ v ∷ 58 ∷ (w ++ 125 ∷ [])) (capture (v - 48) a)
  named_run {v} {w} l h p d = record { runs = ap (λ (s : St). run k s (w ++ 125 ∷ [])) (named_opens k v l h d) ∙ inside_run w curly (capture (v - 48)) d (p (λ x. x) (opened d curly (capture (v - 48))).frames) }

  lone_run : {w : List ℕ} {a : Pat} → ((d : Todo) → RanTerm k d w a) → (o : Pat → Pat) (fs : List Frame) → Ran k o fs w a
  lone_run t o fs = let r = t (fresh o fs) in record { outer = o; before = r.before; tree = r.tree; runs = r.runs; makes = ap o r.makes }

  last_run : {w : List ℕ} {a : Pat} → ((d : Todo) → RanAtom k d w a) → (d : Todo) → RanTerm k d w a
  last_run {w} {a} f d = record { before = d.before; tree = a; runs = (f d).runs; makes = refl }

pub pattern_run : {k : ℕ} {w : List ℕ} {a : Pat} → Pattern k w a → (o : Pat → Pat) (fs : List Frame) → Ran k o fs w a
pattern_run {k} p =
    elim p as
    (λ w a x. (o : Pat → Pat) (fs : List Frame) → Ran k o fs w a)
    (λ w a x. (d : Todo) → RanTerm k d w a)
    (λ w a x. (d : Todo) → RanAtom k d w a)
    (λ w a x. (d : Todo) → RanAtom k d w a) [
      | lone (t → h) ↦ lone_run h
      | either (t → h) (q → g) ↦ either_run h g
      | last (f → h) ↦ last_run h
      | thence (f → h) (t → g) ↦ thence_run h (term_headed t) g
      | with (x → h) q ↦ with_run h q
      | plain h ↦ plain_run h
      | escaped h ↦ escaped_run h
      | any ↦ any_run
      | range p q l ↦ range_run p q l
      | empty ↦ empty_run
      | group (p → h) ↦ group_run h
      | named l m (p → h) ↦ named_run l m h
    ]

pub atom_run : {k : ℕ} {w : List ℕ} {a : Pat} → Atom k w a → (d : Todo) → RanAtom k d w a
atom_run (plain h) = plain_run h
atom_run (escaped h) = escaped_run h
atom_run any = any_run
atom_run (range p q l) = range_run p q l
atom_run empty = empty_run
atom_run (group p) = group_run (pattern_run p)
atom_run (named l h p) = named_run l h (pattern_run p)

pub factor_run : {k : ℕ} {w : List ℕ} {a : Pat} → Factor k w a → (d : Todo) → RanAtom k d w a
factor_run (with x p) = with_run (atom_run x) p

pub term_run : {k : ℕ} {w : List ℕ} {a : Pat} → Term k w a → (d : Todo) → RanTerm k d w a
term_run (last f) = last_run (factor_run f)
term_run (thence f t) = thence_run (factor_run f) (term_headed t) (term_run t)

-- the tree that a state at the end of a text has made
abbrev pub made : St → Pat
made (wants d) = nothing
made (after d a) = d.outer (d.before a)
made (esc d) = nothing
made (br1 d) = nothing
made (br2 d x) = nothing
made (br3 d x) = nothing
made (br4 d x y) = nothing
made (va1 d) = nothing
made (va2 d x) = nothing
made (ch1 d a) = nothing
made (ch2 d a x) = nothing
made (ch3 d a x y) = nothing
made dead = nothing

pub makes_tree : {k : ℕ} {w : List ℕ} {a : Pat} → Pattern k w a → made (run k (wants (fresh (λ x. x) [])) w) ≡ a
makes_tree p = let r = pattern_run p (λ x. x) [] in ap made r.runs ∙ r.makes

-- one text has one tree
pub tree_one : {k : ℕ} {w : List ℕ} {a b : Pat} → Pattern k w a → Pattern k w b → a ≡ b
tree_one p q = sym (makes_tree p) ∙ makes_tree q
