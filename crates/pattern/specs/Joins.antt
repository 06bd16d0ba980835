-- How the parts of a text that are found join: what is found of each gives what is found of both, and refusal 3 and its place.
use Rattle.std.specs.Prelude.{◌≡◌, refl, Bool, true, false, ◌||◌, ℕ, zero, suc, ◌+◌, ◌≤◌, ◌<◌, length, get_or, take, drop, eqb}
use Rattle.std.proofs.Math.Path.{subst}
use Rattle.std.proofs.Common.{sym, ap, ◌∙◌, le_of_suc-le-suc, not-suc-le-zero, add-one, arith, take-append-drop, ⊎_elim, eq-or-lt_of_le, take_all, take-take, ne_eqb}
use mathlib.Core.List.{List, [], ◌∷◌, ◌++◌, append_assoc, append-nil}
use Rattle.std.proofs.Math.Seq.{take-length, slice, slice-cons, slice_empty}
use Rattle.pattern.specs.Bytes.{byte_class}
use Rattle.pattern.specs.declared.Class.{Class}
use Rattle.pattern.specs.declared.Class.TheVariants.{Plain, Reserved, Illegal}
use Rattle.pattern.specs.Grammar.{Pat, alt, cat, steps_of, nesting_of, none, Pattern, lone, either, Term, last, thence, Factor, with, Atom}
use Rattle.pattern.specs.Machine.{closing, Frame, Todo, St, wants, after, dead, opened, more, other, starting, starts_by, starts, begin, follow, run, done}
use Rattle.pattern.specs.Places.{Begins, Refused}
use Rattle.pattern.specs.Found.{Done, Stuck, Opened, PostsDone, PostsStuck, AtomStop, FactorStop, TermStop, PatternStop}
use Rattle.pattern.specs.Laws.{run_append, run_dead, run_headed, atom_run, factor_run, term_run, pattern_run, fresh}

pub slice_join : (f m t : ℕ) (l : List ℕ) → f ≤ m → m ≤ t → slice f m l ++ slice m t l ≡ slice f t l
slice_join zero m t l p q = ap (λ (x : List ℕ). x ++ drop m (take t l)) (sym (take-take m t l q)) ∙ take-append-drop m (take t l)
slice_join (suc f) zero t l p q = absurd (not-suc-le-zero p)
slice_join (suc f) (suc m) zero l p q = absurd (not-suc-le-zero q)
slice_join (suc f) (suc m) (suc t) [] p q = refl
slice_join (suc f) (suc m) (suc t) (x ∷ l) p q = slice_join f m t l (le_of_suc-le-suc p) (le_of_suc-le-suc q)

pub slice_one : (f t : ℕ) (l : List ℕ) → f < t → t ≤ length l → slice f t l ≡ get_or l f 0 ∷ slice (f + 1) t l
slice_one f t l p q = rw add-one (slice-cons f t l 0 p q)

pub slice_byte : (f : ℕ) (l : List ℕ) → f < length l → slice f (f + 1) l ≡ get_or l f 0 ∷ []
slice_byte f l p = slice_one f (f + 1) l (omega arith) (omega arith) ∙ ap (λ (x : List ℕ). get_or l f 0 ∷ x) (slice_empty (f + 1) l)

-- the run over two parts
pub run_join : (k : ℕ) (s : St) (f m t : ℕ) (l : List ℕ) → f ≤ m → m ≤ t → run k s (slice f t l) ≡ run k (run k s (slice f m l)) (slice m t l)
run_join k s f m t l p q = ap (run k s) (sym (slice_join f m t l p q)) ∙ run_append k s (slice f m l) (slice m t l)

-- a part and one that goes on past the text
pub join_rest : (f m t : ℕ) (l r : List ℕ) → f ≤ m → m ≤ t → slice f m l ++ (slice m t l ++ r) ≡ slice f t l ++ r
join_rest f m t l r p q = sym (append_assoc (slice f m l) (slice m t l) r) ∙ ap (λ (x : List ℕ). x ++ r) (slice_join f m t l p q)

-- a byte that starts no atom is dead where one is wanted
or_left : (a b : Bool) → a || b ≡ false → a ≡ false
or_left true b h = h
or_left false b h = refl

or_right : (a b : Bool) → a || b ≡ false → b ≡ false
or_right true b h = let z : ◌≡◌ {A = Bool} true false = h in (let y : ◌≡◌ {A = ℕ} 0 1 = cc in absurd (omega arith))
or_right false b h = h

pub no_start : (k : ℕ) (d : Todo) (c : ℕ) → starts k c ≡ false → begin k d c ≡ dead
no_start k d c h = go (byte_class c) h
  where
    go : (x : Class) → starts_by x k c ≡ false → starting x k d c ≡ dead
    go Plain e = let z : ◌≡◌ {A = Bool} true false = e in cc
    go Illegal e = refl
    go Reserved e =
        let e1 = or_right (eqb c 92) _ e in
        let e2 = or_right (eqb c 46) _ e1 in
        let e3 = or_right (eqb c 126) _ e2 in
        let e4 = or_right (eqb c 91) _ e3 in
        let e5 = or_right (eqb c 40) _ e4 in
        rw (or_left (eqb c 92) _ e, or_left (eqb c 46) _ e1, or_left (eqb c 126) _ e2, or_left (eqb c 91) _ e3, or_left (eqb c 40) _ e4, e5)

starts_on : (k : ℕ) (s : List ℕ) (n t : ℕ) (d : Todo) (a : Pat) → starts k (get_or s n 0) ≡ true → n < t → t ≤ length s
    → run k (after d a) (slice n t s) ≡ run k (wants (more d a)) (slice n t s)
starts_on k s n t d a h m q =
    run_headed k d a (slice n t s) (record { first = get_or s n 0; rest = slice (n + 1) t s; is = slice_one n t s (omega arith) (omega arith); begins = h })

bar_join : (s : List ℕ) (at n e : ℕ) (r : List ℕ) → at ≤ n → n < length s → get_or s n 0 ≡ 124 → n + 1 ≤ e → e ≤ length s
    → slice at n s ++ 124 ∷ (slice (n + 1) e s ++ r) ≡ slice at e s ++ r
bar_join s at n e r a l h m q =
    ap (λ (c : ℕ). slice at n s ++ c ∷ (slice (n + 1) e s ++ r)) (sym h)
    ∙ (ap (λ (w : List ℕ). slice at n s ++ (w ++ r)) (sym (slice_one n e s (omega arith) q)) ∙ join_rest at n e s r a (omega arith))

-- after a pattern that stops, with another byte than the one that closes the bracket
unclosed : (k : ℕ) (o b : Pat → Pat) (f : Frame) (fs : List Frame) (a : Pat) (c : ℕ) → PatternStop k c → (c ≡ closing f.close → ⊥)
    → follow k (record { outer = o; before = b; frames = f ∷ fs }) a c ≡ dead
unclosed k o b f fs a c h n =
    rw (h.0, h.1, h.3, ne_eqb c (closing f.close) n) (no_start k (more (record { outer = o; before = b; frames = f ∷ fs }) a) c h.2)

-- the run past what stands
past_atom : {k : ℕ} {s : List ℕ} {at n : ℕ} {b : Pat} {S : ℕ → ℕ → Type 0} → Done Atom S k s at n b → (t : ℕ) → n ≤ t → (d : Todo)
    → (a : Pat) × (run k (wants d) (slice at t s) ≡ run k (after d a) (slice n t s))
past_atom {k} {s} {at} {n} {b} x t l d = (b, run_join k (wants d) at n t s (omega arith) l ∙ ap (λ (u : St). run k u (slice n t s)) (atom_run x.derives d).runs)

past_factor : {k : ℕ} {s : List ℕ} {at n : ℕ} {b : Pat} {S : ℕ → ℕ → Type 0} → Done Factor S k s at n b → (t : ℕ) → n ≤ t → (d : Todo)
    → (a : Pat) × (run k (wants d) (slice at t s) ≡ run k (after d a) (slice n t s))
past_factor {k} {s} {at} {n} {b} x t l d = (b, run_join k (wants d) at n t s (omega arith) l ∙ ap (λ (u : St). run k u (slice n t s)) (factor_run x.derives d).runs)

past_term : {k : ℕ} {s : List ℕ} {at n : ℕ} {b : Pat} {S : ℕ → ℕ → Type 0} → Done Term S k s at n b → (t : ℕ) → n ≤ t → (d : Todo)
    → (e : Todo) × (a : Pat) × (run k (wants d) (slice at t s) ≡ run k (after e a) (slice n t s))
past_term {k} {s} {at} {n} x t l d =
    let r = term_run x.derives d in
    (record { outer = d.outer; before = r.before; frames = d.frames }, r.tree, run_join k (wants d) at n t s (omega arith) l ∙ ap (λ (u : St). run k u (slice n t s)) r.runs)

past_bar : {k : ℕ} {s : List ℕ} {at n : ℕ} {b : Pat} {S : ℕ → ℕ → Type 0} → Done Term S k s at n b → get_or s n 0 ≡ 124 → (t : ℕ) → n < t → t ≤ length s → (d : Todo)
    → (e : Todo) × (run k (wants d) (slice at t s) ≡ run k (wants e) (slice (n + 1) t s))
past_bar {k} {s} {at} {n} x h t l m d =
    let r = past_term x t (omega arith) d in
    (other r.0 r.1, r.2 ∙ (ap (run k (after r.0 r.1)) (slice_one n t s (omega arith) m) ∙ ap (λ (c : ℕ). run k (follow k r.0 r.1 c) (slice (n + 1) t s)) h))

past_open : {k : ℕ} {s : List ℕ} {at i c : ℕ} {wrap : Pat → Pat} (o : Opened k s at i c wrap) → (t : ℕ) → i ≤ t → (d : Todo)
    → run k (wants d) (slice at t s) ≡ run k (wants (opened d o.bracket wrap)) (slice i t s)
past_open {k} {s} {at} {i} o t l d = run_join k (wants d) at i t s (omega arith) l ∙ ap (λ (u : St). run k u (slice i t s)) (o.opens d)

module _ {k : ℕ} {s : List ℕ} where
  pub factor_good : {at n e : ℕ} {a : Pat} {turn : Pat → Pat} → Done Atom AtomStop k s at n a → PostsDone s n e turn → Done Factor FactorStop k s at e (turn a)
  factor_good {at} {n} {e} {a} {turn} x p = record {
    past = omega arith;
    within = p.within;
    derives = subst (λ (w : List ℕ). Factor k w (turn a)) (slice_join at n e s (omega arith) p.past) (with x.derives (p.derives a));
    few = omega (arith, p.counts a);
    shallow = omega (arith, p.level a);
    stops = p.stops;
  }

  pub factor_bad : {at p : ℕ} → Stuck Atom k s at p → Stuck Factor k s at p
  factor_bad {at} {p} x = record {
    from = x.from;
    within = x.within;
    rest = x.rest;
    tree = x.tree;
    viable = subst (λ (w : List ℕ). Factor k w x.tree) (append-nil (slice at p s ++ x.rest)) (with x.viable none);
    dies = x.dies;
    short = x.short;
    some = x.some;
  }

  pub factor_bad_2 : {at n p : ℕ} {a : Pat} → Done Atom AtomStop k s at n a → PostsStuck s n p → Stuck Factor k s at p
  factor_bad_2 {at} {n} {p} {a} x q = record {
    from = omega arith;
    within = q.within;
    rest = q.rest;
    tree = q.tree a;
    viable = subst (λ (w : List ℕ). Factor k w (q.tree a)) (join_rest at n p s q.rest (omega arith) q.from) (with x.derives (q.viable a));
    dies = λ l d. let r = past_atom x (p + 1) (omega arith) d in r.1 ∙ q.dies l k d r.0;
    short = λ d. let r = past_atom x p q.from d in ap done r.1 ∙ q.short k d r.0;
    some = λ _ _. omega arith;
  }

  pub term_good : {at n : ℕ} {a : Pat} → Done Factor FactorStop k s at n a → (n < length s → starts k (get_or s n 0) ≡ false) → Done Term TermStop k s at n a
  term_good f h = record { past = f.past; within = f.within; derives = last f.derives; few = f.few; shallow = f.shallow; stops = λ l. ((f.stops l).0, (f.stops l).1, h l) }

  pub term_good_2 : {at n e : ℕ} {a b : Pat} → Done Factor FactorStop k s at n a → Done Term TermStop k s n e b → Done Term TermStop k s at e (cat a b)
  unfolding steps_of nesting_of
  term_good_2 {at} {n} {e} {a} {b} f t = record {
    past = omega arith;
    within = t.within;
    derives = subst (λ (w : List ℕ). Term k w (cat a b)) (slice_join at n e s (omega arith) (omega arith)) (thence f.derives t.derives);
    few = omega arith;
    shallow = omega arith;
    stops = t.stops;
  }

  pub term_bad : {at p : ℕ} → Stuck Factor k s at p → Stuck Term k s at p
  term_bad x = record { from = x.from; within = x.within; rest = x.rest; tree = x.tree; viable = last x.viable; dies = x.dies; short = x.short; some = x.some }

  pub term_bad_2 : {at n p : ℕ} {a : Pat} → Done Factor FactorStop k s at n a → n < length s → starts k (get_or s n 0) ≡ true → Stuck Term k s n p → Stuck Term k s at p
  term_bad_2 {at} {n} {p} {a} f l h t = record {
    from = omega arith;
    within = t.within;
    rest = t.rest;
    tree = cat a t.tree;
    viable = subst (λ (w : List ℕ). Term k w (cat a t.tree)) (join_rest at n p s t.rest (omega arith) t.from) (thence f.derives t.viable);
    dies = λ m d. let r = past_factor f (p + 1) (omega arith) d in r.1 ∙ (starts_on k s n (p + 1) d r.0 h (omega arith) (omega arith) ∙ t.dies m (more d r.0));
    short = λ d. let q = t.some l h in let r = past_factor f p t.from d in ap done (r.1 ∙ starts_on k s n p d r.0 h q t.within) ∙ t.short (more d r.0);
    some = λ _ _. omega arith;
  }

  pub pattern_good : {at n : ℕ} {a : Pat} → Done Term TermStop k s at n a → (n < length s → eqb (get_or s n 0) 124 ≡ false) → Done Pattern PatternStop k s at n a
  pattern_good f h = record { past = f.past; within = f.within; derives = lone f.derives; few = f.few; shallow = f.shallow; stops = λ l. ((f.stops l).0, (f.stops l).1, (f.stops l).2, h l) }

  pub pattern_good_2 : {at n e : ℕ} {a b : Pat} → Done Term TermStop k s at n a → n < length s → get_or s n 0 ≡ 124 → Done Pattern PatternStop k s (n + 1) e b → Done Pattern PatternStop k s at e (alt a b)
  unfolding steps_of nesting_of
  pattern_good_2 {at} {n} {e} {a} {b} f l h t = record {
    past = omega arith;
    within = t.within;
    derives = subst (λ (w : List ℕ). Pattern k w (alt a b))
        (ap (λ (w : List ℕ). slice at n s ++ 124 ∷ w) (sym (append-nil (slice (n + 1) e s))) ∙ (bar_join s at n e [] (omega arith) l h (omega arith) t.within ∙ append-nil (slice at e s)))
        (either f.derives t.derives);
    few = omega arith;
    shallow = omega arith;
    stops = t.stops;
  }

  pub pattern_bad : {at p : ℕ} → Stuck Term k s at p → Stuck Pattern k s at p
  pattern_bad x = record { from = x.from; within = x.within; rest = x.rest; tree = x.tree; viable = lone x.viable; dies = x.dies; short = x.short; some = x.some }

  pub pattern_bad_2 : {at n p : ℕ} {a : Pat} → Done Term TermStop k s at n a → n < length s → get_or s n 0 ≡ 124 → Stuck Pattern k s (n + 1) p → Stuck Pattern k s at p
  pattern_bad_2 {at} {n} {p} {a} f l h t = record {
    from = omega arith;
    within = t.within;
    rest = t.rest;
    tree = alt a t.tree;
    viable = subst (λ (w : List ℕ). Pattern k w (alt a t.tree)) (bar_join s at n p t.rest (omega arith) l h t.from t.within) (either f.derives t.viable);
    dies = λ m d. let r = past_bar f h (p + 1) (omega arith) (omega arith) d in r.1 ∙ t.dies m r.0;
    short = λ d. let r = past_bar f h p (omega arith) t.within d in ap done r.1 ∙ t.short r.0;
    some = λ _ _. omega arith;
  }

  pub atom_good : {at i n c : ℕ} {wrap : Pat → Pat} {a : Pat} → Opened k s at i c wrap → Done Pattern PatternStop k s i n a → n < length s → get_or s n 0 ≡ c → Done Atom AtomStop k s at (n + 1) (wrap a)
  atom_good {at} {i} {n} {c} {wrap} {a} o p l h = record {
    past = omega arith;
    within = omega arith;
    derives = subst (λ (w : List ℕ). Atom k w (wrap a))
        (ap (λ (x : ℕ). slice at i s ++ (slice i n s ++ x ∷ [])) (sym o.closes ∙ sym h)
        ∙ (ap (λ (w : List ℕ). slice at i s ++ (slice i n s ++ w)) (sym (slice_byte n s l))
        ∙ (ap (λ (w : List ℕ). slice at i s ++ w) (slice_join i n (n + 1) s (omega arith) (omega arith))
        ∙ slice_join at i (n + 1) s (omega arith) (omega arith))))
        (o.makes p.derives);
    few = omega (arith, o.few a);
    shallow = omega (arith, o.deepens a);
    stops = λ _. tt;
  }

  pub atom_bad : {at i c p : ℕ} {wrap : Pat → Pat} → Opened k s at i c wrap → Stuck Pattern k s i p → Stuck Atom k s at p
  atom_bad {at} {i} {c} {p} {wrap} o q = record {
    from = omega arith;
    within = q.within;
    rest = q.rest ++ closing o.bracket ∷ [];
    tree = wrap q.tree;
    viable = subst (λ (w : List ℕ). Atom k w (wrap q.tree))
        (ap (λ (w : List ℕ). slice at i s ++ w) (append_assoc (slice i p s) q.rest (closing o.bracket ∷ [])) ∙ join_rest at i p s (q.rest ++ closing o.bracket ∷ []) (omega arith) q.from)
        (o.makes q.viable);
    dies = λ m d. past_open o (p + 1) (omega arith) d ∙ q.dies m (opened d o.bracket wrap);
    short = λ d. ap done (past_open o p q.from d) ∙ q.short (opened d o.bracket wrap);
    some = λ _ _. omega arith;
  }

  pub atom_bad_2 : {at i n c : ℕ} {wrap : Pat → Pat} {a : Pat} → Opened k s at i c wrap → Done Pattern PatternStop k s i n a → (n < length s → get_or s n 0 ≡ c → ⊥) → Stuck Atom k s at n
  atom_bad_2 {at} {i} {n} {c} {wrap} {a} o p h = record {
    from = omega arith;
    within = p.within;
    rest = closing o.bracket ∷ [];
    tree = wrap a;
    viable = subst (λ (w : List ℕ). Atom k w (wrap a)) (join_rest at i n s (closing o.bracket ∷ []) (omega arith) (omega arith)) (o.makes p.derives);
    dies = λ l d.
        let r = pattern_run p.derives (λ x. x) (opened d o.bracket wrap).frames in
        past_open o (n + 1) (omega arith) d
        ∙ (run_join k (wants (opened d o.bracket wrap)) i n (n + 1) s (omega arith) (omega arith)
        ∙ (ap (λ (u : St). run k u (slice n (n + 1) s)) r.runs
        ∙ (ap (run k (after (record { outer = r.outer; before = r.before; frames = (opened d o.bracket wrap).frames }) r.tree)) (slice_byte n s l)
        ∙ unclosed k r.outer r.before _ d.frames r.tree (get_or s n 0) (p.stops l) (λ e. h l (e ∙ sym o.closes)))));
    short = λ d. ap done (past_open o n (omega arith) d ∙ (pattern_run p.derives (λ x. x) (opened d o.bracket wrap).frames).runs);
    some = λ _ _. omega arith;
  }

-- the start of the machine
abbrev pub begun : St
begun = wants (fresh (λ x. x) [])

pub done_pattern : {k : ℕ} {w : List ℕ} {a : Pat} → Pattern k w a → done (run k begun w) ≡ true
done_pattern p = ap done (pattern_run p (λ x. x) []).runs

pub contra : {b : Bool} → b ≡ true → b ≡ false → ⊥
contra h g = let z : ◌≡◌ {A = Bool} true false = sym h ∙ g in (let y : ◌≡◌ {A = ℕ} 0 1 = cc in omega arith)

-- a text that dies with its byte at p, and is not done before it
pub refuses : (k : ℕ) (s : List ℕ) (p : ℕ) → p ≤ length s → Begins k (take p s) → (p < length s → run k begun (take (p + 1) s) ≡ dead) → (p ≡ length s → done (run k begun s) ≡ false) → Refused k s p
refuses k s p l b dies short = record { outside = out; within = l; begins = b; largest = most }
  where
    most : (q : ℕ) → p < q → q ≤ length s → Begins k (take q s) → ⊥
    most q h m g =
        let e = done_pattern g.whole in
        contra e (ap (λ (w : List ℕ). done (run k begun (w ++ g.rest))) (sym (take-append-drop (p + 1) (take q s)))
        ∙ (ap (λ (w : List ℕ). done (run k begun ((w ++ drop (p + 1) (take q s)) ++ g.rest))) (take-take (p + 1) q s (omega arith))
        ∙ ap done (run_append k begun (take (p + 1) s ++ drop (p + 1) (take q s)) g.rest
        ∙ (ap (λ (u : St). run k u g.rest) (run_append k begun (take (p + 1) s) (drop (p + 1) (take q s)) ∙ (ap (λ (u : St). run k u (drop (p + 1) (take q s))) (dies (omega arith)) ∙ run_dead k (drop (p + 1) (take q s))))
        ∙ run_dead k g.rest))))

    out : (a : Pat) → Pattern k s a → ⊥
    out a g = ⊎_elim (λ (e : p ≡ length s). contra (done_pattern g) (short e))
        (λ (h : p < length s). most (length s) h (omega arith) (record { rest = []; tree = a; whole = subst (λ (w : List ℕ). Pattern k w a) (sym (append-nil (take (length s) s) ∙ take-length s)) g }))
        (eq-or-lt_of_le l)

pub refused : {k : ℕ} {s : List ℕ} {p : ℕ} → Stuck Pattern k s 0 p → Refused k s p
refused {k} {s} {p} x =
    refuses k s p x.within (record { rest = x.rest; tree = x.tree; whole = x.viable }) (λ l. x.dies l (fresh (λ y. y) []))
    (λ e. ap (λ (w : List ℕ). done (run k begun w)) (sym (take-length s) ∙ ap (λ (n : ℕ). take n s) (sym e)) ∙ x.short (fresh (λ y. y) []))

-- a pattern, and a byte after it
pub refused_after : {k : ℕ} {s : List ℕ} {n : ℕ} {a : Pat} → Done Pattern PatternStop k s 0 n a → n < length s → Refused k s n
refused_after {k} {s} {n} {a = b} x l =
    let r = pattern_run x.derives (λ y. y) [] in
    refuses k s n x.within (record { rest = []; tree = b; whole = subst (λ (w : List ℕ). Pattern k w b) (sym (append-nil (take n s))) x.derives })
    (λ _. run_join k begun 0 n (n + 1) s (omega arith) (omega arith)
    ∙ (ap (λ (u : St). run k u (slice n (n + 1) s)) r.runs
    ∙ (ap (run k (after (record { outer = r.outer; before = r.before; frames = [] }) r.tree)) (slice_byte n s l)
    ∙ stopped r.outer r.before r.tree (x.stops l))))
    (λ e. absurd (omega arith))
  where
    stopped : (o b : Pat → Pat) (a : Pat) → PatternStop k (get_or s n 0) → follow k (record { outer = o; before = b; frames = [] }) a (get_or s n 0) ≡ dead
    stopped o b a h = rw (h.0, h.1, h.3) (no_start k (more (record { outer = o; before = b; frames = [] }) a) (get_or s n 0) h.2)

pub accepted : {k : ℕ} {s : List ℕ} {n : ℕ} {a : Pat} → Done Pattern PatternStop k s 0 n a → length s ≤ n → Pattern k s a
accepted {k} {s} {n} {a} x l = subst (λ (w : List ℕ). Pattern k w a) (take_all n s l) x.derives
