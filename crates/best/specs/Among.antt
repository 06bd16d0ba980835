-- What the kernel answers in weights and keys, against the weights of sets: the best among the sets whose positions are allowed.
--
-- Allowed allow K t   the positions of t, for the variables in use, are allowed
-- IsBestAmong         as IsBest, among the sets that are allowed
-- run_weight           what a list of rows weighs as a valid run of the line, else the mark
-- answer_picked       the answer is the least of weight × 2^64 + key over the lists of rows that stay within what is allowed
-- set_cost            the weight of a set is the least weight of the runs with its key
-- among_best          where the answer is below the cap, its two parts are the weight and the key of the best set that is allowed
-- among_none          else every set that is allowed has the mark
use Rattle.std.specs.Prelude.{◌≡◌, Bool, ◌&&◌, ℕ, zero, suc, ◌+◌, ◌*◌, ◌/◌, ◌≤◌, ◌<◌, min, eqb, length}
use Rattle.std.proofs.Math.Path.{refl, ap}
use Rattle.std.proofs.Common.{sym, ◌∙◌, subst, arith, eq-eqb, ne_eqb, le-ltb, lt-ltb}
use Rattle.std.proofs.Math.Bool.{true, false, cond}
use Rattle.std.proofs.lemmas.Bool.{false≢true}
use mathlib.Core.List.{List, map}
use Rattle.std.proofs.Math.Decide.{dec_lt, dec_le, ℕ_discrete}
use Rattle.basics.specs.Every.{and_true}
use Rattle.basics.specs.Lists.{All, lists}
use Rattle.basics.specs.Members.{In, lists_in}
use Rattle.weight.specs.Weight.{mark, lighter_to}
use Rattle.weight.specs.Semiring.{sum}
use Rattle.weight.specs.Tropical.{least, tropical}
use Rattle.spans.specs.declared.Spans.{Spans}
use Rattle.spans.specs.Spans.{Part, SetOfSpans, same, NotAfter}
use Rattle.spans.specs.Order.{same_true, same_refl}
use Rattle.marks.specs.Labels.{Label, spells, valid, marked}
use Rattle.setting.specs.Setting.{settles, begin}
use Rattle.setting.specs.Settled.{Settled, settle, settles_valid, begin_low, Right}
use Rattle.table.specs.declared.Row.{Row}
use Rattle.table.specs.Table.{Automaton, label_of}
use Rattle.runs.specs.Runs.{chain, weight_of_set}
use Rattle.runs.specs.Rows.{sum_ext_in}
use Rattle.togo.specs.ToGo.{Spot, begun}
use Rattle.togo.specs.Price.{base, cap, big_price, big_end, key_of, placed, answer}
use Rattle.togo.specs.Runs.{within, plain, plain_chain, kernel_runs}
use Rattle.togo.specs.Marks.{had_marker, within_places, places_within, placed_marked}
use Rattle.togo.specs.Right.{RightAutomaton, right_labels}
use Rattle.togo.specs.Sets.{Pinned, begin_had, pinned_same, rows_left, set_weights}
use Rattle.best.specs.Decode.{spans_of_key}
use Rattle.best.specs.Code.{Fits, key_low, key_order, key_same, key_back}
use Rattle.best.specs.Marked.{marked_set}
use Rattle.best.specs.Keys.{labels_key, key_marked, big_plain}
use Rattle.best.specs.Pick.{picked, cost_if, cost_of, picked_weight, picked_best, picked_none}

abbrev pub Allowed : (ℕ → ℕ → Bool) → ℕ → Spans → Type 0
Allowed allow K t = (m : ℕ) → m < 6 → m / 2 < K → allow m (placed t m) ≡ true

pub record IsBestAmong (allow : ℕ → ℕ → Bool) (A : Automaton) (line : List ℕ) (w : ℕ) (t : Spans) : Type 0 where
  pub set : SetOfSpans A.vars (length line) t
  pub may : Allowed allow A.vars t
  pub own : weight_of_set A line t ≡ w
  pub real : w < mark
  pub lightest : (s : Spans) → SetOfSpans A.vars (length line) s → Allowed allow A.vars s → w ≤ weight_of_set A line s
  pub first : (s : Spans) → SetOfSpans A.vars (length line) s → Allowed allow A.vars s → weight_of_set A line s ≡ w → NotAfter t s

pub set_fits : (K n : ℕ) → n ≤ 1024 → (t : Spans) → SetOfSpans K n t → Fits t
set_fits K n h t s m hm = go m hm (parts 1 _ _ s.one) (parts 2 _ _ s.two) (parts 3 _ _ s.three)
  where
    parts : (v a b : ℕ) → Part K n v a b → (a ≤ 1025) × (b ≤ 1025)
    parts v a b p = cases (dec_le v K)
      where
        cases : Dec (v ≤ K) → (a ≤ 1025) × (b ≤ 1025)
        cases (yes l) = let q = p.used l in (omega arith, omega arith)
        cases (no l) = let q = p.unused (omega arith) in (omega arith, omega arith)

    go : (m : ℕ) → m < 6 → (t.s1 ≤ 1025) × (t.e1 ≤ 1025) → (t.s2 ≤ 1025) × (t.e2 ≤ 1025) → (t.s3 ≤ 1025) × (t.e3 ≤ 1025) → placed t m ≤ 1025
    go zero hm a b c = a.0
    go (suc zero) hm a b c = a.1
    go (suc (suc zero)) hm a b c = b.0
    go (suc (suc (suc zero))) hm a b c = b.1
    go (suc (suc (suc (suc zero)))) hm a b c = c.0
    go (suc (suc (suc (suc (suc m))))) hm a b c = c.1

-- a marker that the setting to begin in has not had is one of the variables in use
in_use : (K m : ℕ) → K ≤ 3 → m < 6 → had_marker m (begin K) ≡ false → m / 2 < K
in_use K m hK hm o = go (dec_lt (m / 2) K)
  where
    go : Dec (m / 2 < K) → m / 2 < K
    go (yes h) = h
    go (no h) = absurd (false≢true (sym o ∙ begin_had K m hK hm ∙ lt-ltb K (suc (m / 2)) (omega arith)))

not_had : (K m : ℕ) → K ≤ 3 → m < 6 → m / 2 < K → had_marker m (begin K) ≡ false
not_had K m hK hm h = begin_had K m hK hm ∙ le-ltb K (suc (m / 2)) (omega arith)

abbrev reads : Automaton → List ℕ → List Row → Bool
reads A line rs = spells (map label_of rs) line && valid A.vars (map label_of rs)

unfoldable pub run_weight : Automaton → List ℕ → List Row → ℕ
run_weight A line rs = cond (reads A line rs) (chain tropical (λ n. n) A 0 rs) mark

abbrev pub run_key : List Row → ℕ
run_key rs = labels_key 1 (map label_of rs)

abbrev pub runs_of : Automaton → List ℕ → List (List Row)
runs_of A line = lists (length line + 2 * A.vars) A.rows

abbrev pub stays : (ℕ → ℕ → Bool) → List Row → Bool
stays allow rs = within allow 1 (map label_of rs)

module _ (A : Automaton) (right : RightAutomaton A) (line : List ℕ) where
  labels_of : (rs : List Row) → In rs (runs_of A line) → All (Right A.vars) (map label_of rs)
  labels_of rs i = right_labels A right rs (lists_in A.rows _ rs i).all

  pub answer_picked : (allow : ℕ → ℕ → Bool) → answer allow A line ≡ picked (cost_if (stays allow) (run_weight A line)) run_key (runs_of A line)
  unfolding answer picked cost_if run_weight big_end
  answer_picked allow =
      kernel_runs (least cap) allow big_price (big_end A) A.rows line (begin A.vars) (λ q. fits (A.end q))
      ∙ ap (λ (n : ℕ). sum (least cap) (λ rs. cond (stays allow rs && settles (begin A.vars) (map label_of rs)) (plain (least cap) big_price (big_end A) rs start) cap) (lists n A.rows)) (rows_left A.vars line right.few)
      ∙ sum_ext_in (least cap) _ _ (runs_of A line)
      (λ rs i. rw (big_plain A rs start, plain_chain tropical (λ n. n) A rs start, settles_valid A.vars right.few (map label_of rs) (labels_of rs i))
      (cases (stays allow rs) (valid A.vars (map label_of rs)) (spells (map label_of rs) line) (chain tropical (λ n. n) A 0 rs) (run_key rs)))
    where
      start : Spot
      start = (begun line (begin A.vars)).spot

      fits : (x : ℕ) → lighter_to cap cap (min cap (x * base)) ≡ min cap (x * base)
      fits x = unfold lighter_to in (omega arith)

      cases : (w s p : Bool) (x k : ℕ) → cond (w && s) (min cap (cond p x mark * base + k)) cap ≡ min cap (cond w (cond (p && s) x mark) mark * base + k)
      cases true true true x k = refl
      cases true true false x k = refl
      cases true false true x k = omega arith
      cases true false false x k = omega arith
      cases false s p x k = omega arith

  -- a list of rows that is a valid run of the line
  module _ (rs : List Row) (i : In rs (runs_of A line)) (counts : reads A line rs ≡ true) where
    abbrev ls : List Label
    ls = map label_of rs

    settled : Settled (begin A.vars) ls
    settled = settle ls (begin A.vars) (settles_valid A.vars right.few ls (labels_of rs i) ∙ (and_true (spells ls line) (valid A.vars ls) counts).1)

    run_set : SetOfSpans A.vars (length line) (marked ls)
    run_set = let p = and_true (spells ls line) (valid A.vars ls) counts in marked_set A.vars line ls (labels_of rs i) p.0 p.1

    run_key_marked : run_key rs ≡ key_of (marked ls)
    run_key_marked = key_marked A.vars ls (labels_of rs i) (begin A.vars) (begin_low A.vars right.few) settled

    within_may : (allow : ℕ → ℕ → Bool) → stays allow rs ≡ true → Allowed allow A.vars (marked ls)
    within_may allow e m hm h = rw (placed_marked A.vars ls (labels_of rs i) m hm) (within_places allow m hm settled (begin_low A.vars right.few) 1 e (not_had A.vars m right.few hm h))

    may_within : (allow : ℕ → ℕ → Bool) → Allowed allow A.vars (marked ls) → stays allow rs ≡ true
    may_within allow f = places_within allow settled (begin_low A.vars right.few) 1 (λ m hm o. subst (λ (p : ℕ). allow m p ≡ true) (placed_marked A.vars ls (labels_of rs i) m hm) (f m hm (in_use A.vars m right.few hm o)))

  counted : (rs : List Row) → run_weight A line rs < mark → reads A line rs ≡ true
  unfolding run_weight
  counted rs h = go (reads A line rs) refl h
    where
      go : (b : Bool) → reads A line rs ≡ b → cond b (chain tropical (λ n. n) A 0 rs) mark < mark → reads A line rs ≡ true
      go true e h = e
      go false e h = absurd (omega arith)

  module _ (short : length line ≤ 1024) where
    run_fits : (rs : List Row) (i : In rs (runs_of A line)) → reads A line rs ≡ true → Fits (marked (map label_of rs))
    run_fits rs i c = set_fits A.vars (length line) short (marked (map label_of rs)) (run_set rs i c)

    small : (rs : List Row) → In rs (runs_of A line) → run_weight A line rs < mark → run_key rs < base
    small rs i h = let c = counted rs h in rw (run_key_marked rs i c) (key_low (marked (map label_of rs)) (run_fits rs i c))

    pub set_cost : (t : Spans) → SetOfSpans A.vars (length line) t → weight_of_set A line t ≡ cost_of (run_weight A line) run_key (runs_of A line) (key_of t)
    unfolding cost_of run_weight
    set_cost t set = set_weights A right line t ∙ sum_ext_in tropical _ _ (runs_of A line) (λ rs i. go rs i (reads A line rs) refl)
      where
        cond_mark : (b : Bool) → mark ≡ cond b mark mark
        cond_mark true = refl
        cond_mark false = refl

        tell : (rs : List Row) → In rs (runs_of A line) → reads A line rs ≡ true → Dec (run_key rs ≡ key_of t) → same (marked (map label_of rs)) t ≡ eqb (run_key rs) (key_of t)
        tell rs i c (yes e) = same_refl _ t (key_same _ t (run_fits rs i c) (set_fits A.vars (length line) short t set) (sym (run_key_marked rs i c) ∙ e)) ∙ sym (eq-eqb _ _ e)
        tell rs i c (no e) = no_same (same (marked (map label_of rs)) t) refl ∙ sym (ne_eqb _ _ e)
          where
            no_same : (b : Bool) → same (marked (map label_of rs)) t ≡ b → b ≡ false
            no_same true q = absurd (e (run_key_marked rs i c ∙ ap key_of (same_true _ t q)))
            no_same false q = refl

        go : (rs : List Row) → In rs (runs_of A line) → (b : Bool) → reads A line rs ≡ b
            → cond (b && same (marked (map label_of rs)) t) (chain tropical (λ n. n) A 0 rs) mark ≡ cond (eqb (run_key rs) (key_of t)) (cond b (chain tropical (λ n. n) A 0 rs) mark) mark
        go rs i true e = ap (λ (b : Bool). cond b (chain tropical (λ n. n) A 0 rs) mark) (tell rs i e (ℕ_discrete (run_key rs) (key_of t)))
        go rs i false e = cond_mark (eqb (run_key rs) (key_of t))

    -- the weight word of the answer with a set's positions is the weight of the set
    pub pinned_answer : (t : Spans) → SetOfSpans A.vars (length line) t → (allow : ℕ → ℕ → Bool) → Pinned t allow → (w k : ℕ) → k < base → answer allow A line ≡ w * base + k → weight_of_set A line t ≡ w
    unfolding cost_if run_weight
    pinned_answer t set allow pins w k hk e =
        set_weights A right line t
        ∙ sum_ext_in tropical _ _ (runs_of A line) (λ rs i. go rs i (reads A line rs) refl)
        ∙ picked_weight (cost_if (stays allow) (run_weight A line)) run_key (runs_of A line) (λ rs i h. small rs i (inside rs (stays allow rs) h)) w k hk (sym (answer_picked allow) ∙ e)
      where
        inside : (rs : List Row) (b : Bool) → cond b (run_weight A line rs) mark < mark → run_weight A line rs < mark
        inside rs true h = h
        inside rs false h = absurd (omega arith)

        cond_mark : (b : Bool) → mark ≡ cond b mark mark
        cond_mark true = refl
        cond_mark false = refl

        go : (rs : List Row) → In rs (runs_of A line) → (b : Bool) → reads A line rs ≡ b
            → cond (b && same (marked (map label_of rs)) t) (chain tropical (λ n. n) A 0 rs) mark ≡ cond (stays allow rs) (cond b (chain tropical (λ n. n) A 0 rs) mark) mark
        go rs i true c = ap (λ (b : Bool). cond b (chain tropical (λ n. n) A 0 rs) mark) (sym (pinned_same A.vars (length line) t right.few set allow pins (map label_of rs) (labels_of rs i) (settled rs i c)))
        go rs i false c = cond_mark (stays allow rs)

    module _ (allow : ℕ → ℕ → Bool) where
      abbrev Ok : ℕ → Type 0
      Ok k = (s : Spans) × SetOfSpans A.vars (length line) s × (key_of s ≡ k) × Allowed allow A.vars s

      to : (rs : List Row) → In rs (runs_of A line) → run_weight A line rs < mark → stays allow rs ≡ true → Ok (run_key rs)
      to rs i h e = let c = counted rs h in (marked (map label_of rs), run_set rs i c, sym (run_key_marked rs i c), within_may rs i c allow e)

      from : (rs : List Row) → In rs (runs_of A line) → run_weight A line rs < mark → Ok (run_key rs) → stays allow rs ≡ true
      from rs i h o =
          let c = counted rs h in
          let q : o.0 ≡ marked (map label_of rs) = key_same o.0 _ (set_fits A.vars (length line) short o.0 o.1) (run_fits rs i c) (o.2 ∙ run_key_marked rs i c) in
          may_within rs i c allow (rw q at o.3)

      pub among_best : (w k : ℕ) → k < base → answer allow A line ≡ w * base + k → w < mark → IsBestAmong allow A line w (spans_of_key k)
      among_best w k hk e hw =
          let b = picked_best (run_weight A line) run_key (runs_of A line) (stays allow) Ok small to from w k hw hk (sym (answer_picked allow) ∙ e) in
          let t : Spans = b.may.0 in
          let set : SetOfSpans A.vars (length line) t = b.may.1 in
          let ft : Fits t = set_fits A.vars (length line) short t set in
          let q : spans_of_key k ≡ t = ap spans_of_key (sym b.may.2) ∙ key_back t ft in
          rw q
          (record {
            set = set;
            may = b.may.3;
            own = set_cost t set ∙ ap (cost_of (run_weight A line) run_key (runs_of A line)) b.may.2 ∙ b.own;
            real = hw;
            lightest = λ s hs a. rw (set_cost s hs) (b.lightest (key_of s) (s, hs, refl, a));
            first = λ s hs a g. key_order t s ft (set_fits A.vars (length line) short s hs) (rw b.may.2 (b.first (key_of s) (s, hs, refl, a) (sym (set_cost s hs) ∙ g)));
          })

      pub among_none : (w k : ℕ) → answer allow A line ≡ w * base + k → mark ≤ w → (s : Spans) → SetOfSpans A.vars (length line) s → Allowed allow A.vars s → weight_of_set A line s ≡ mark
      among_none w k e hw s hs a =
          set_cost s hs ∙ picked_none (run_weight A line) run_key (runs_of A line) (stays allow) Ok small to from (omega (arith, answer_picked allow)) (key_of s) (s, hs, refl, a)
