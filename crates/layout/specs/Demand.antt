-- DEMAND 3. For every line and every set, the table that a text is compiled to gives the weight that the text gives, the mark included.
--
-- table_text          the weight of a set by the compiled table is the weight of the text, whatever words stand after the table
use Rattle.std.specs.Prelude.{◌≡◌, cond, ℕ, zero, suc, ◌+◌, ◌≤◌, ◌<◌, min, eqb, length}
use Rattle.std.proofs.Math.Path.{refl, ap}
use Rattle.std.proofs.Common.{sym, ◌∙◌, arith, eq-eqb, ne_eqb}
use mathlib.Core.List.{List, [], ◌∷◌, ◌++◌, map}
use Rattle.std.proofs.Math.Decide.{dec_lt, ℕ_discrete}
use Rattle.basics.specs.Every.{and_true}
use Rattle.basics.specs.Lists.{All}
use Rattle.basics.specs.Members.{In, first, later, AllIn}
use Rattle.weight.specs.Weight.{mark, joint_to, Least}
use Rattle.weight.specs.Tropical.{tropical}
use Rattle.spans.specs.declared.Spans.{Spans}
use Rattle.marks.specs.Labels.{Label, spells, valid}
use Rattle.table.specs.declared.Row.{Row}
use Rattle.table.specs.Table.{Automaton, automaton_of, label_of}
use Rattle.runs.specs.Runs.{nth_row, labels, chain, weight_of, valid_run, weight_of_set}
use Rattle.runs.specs.Rows.{start_first, start_other}
use Rattle.runs.specs.Marking.{Marking}
use Rattle.runs.specs.Least.{rows_in, weight_least}
use Rattle.pattern.specs.Grammar.{Pat, Pattern, steps_of}
use Rattle.pattern.specs.Derivations.{labels_of, nth_label, steps, labels_in, Gives, WeightOfText}
use Rattle.arcs.specs.Arcs.{path, Open}
use Rattle.arcs.specs.Exact.{arc_of, arc_inside, trace_open, trace_low, word_trace}
use Rattle.layout.specs.Words.{row_of, rows_of, words_of, table_words, Said, said, in_rows, end_at, rows_at}
use Rattle.layout.specs.Right.{right}

-- an element by its number
record Numbered (r : Row) (rs : List Row) : Type 0 where
  number : ℕ
  low : number < length rs
  is : nth_row rs number ≡ r

numbered : (r : Row) (rs : List Row) → In r rs → Numbered r rs
unfolding nth_row
numbered r rs (first {l = l}) = record { number = 0; low = omega arith; is = refl }
numbered r rs (later {l = l} i) = let n = numbered r l i in record { number = suc n.number; low = omega (arith, n.low); is = n.is }

-- an automaton whose rows and end words are arcs
module _ (A : ℕ → ℕ → ℕ) (L : ℕ → Label) (m : ℕ) (inside : (x y : ℕ) → A x y < mark → (x ≤ m) × (y ≤ m))
    (auto : Automaton) (rows_are : auto.rows ≡ rows_of A L m) (end_is : (q : ℕ) → q < suc m → auto.end q ≡ A q 0) where
  abbrev weighed : ℕ → List Row → ℕ
  weighed q rs = chain tropical (λ n. n) auto q rs

  -- rows that follow one another go along arcs
  record Word (q : ℕ) (rs : List Row) (c : ℕ) : Type 0 where
    word : List ℕ
    there : Open A q word
    spelt : map label_of rs ≡ map L word
    cost : path A q word ≡ c

  row_word : (q c : ℕ) (r : Row) (rs : List Row) → Said A L m r → r.from ≡ q → Word r.to rs c → Word q (r ∷ rs) (r.weight + c)
  row_word q c r rs s e w = rw (← e) (rw s.is (go (rw s.is at w)))
    where
      go : Word (suc s.p) rs c → Word s.x (row_of A L s.x s.p ∷ rs) (A s.x (suc s.p) + c)
      go w = record { word = s.p ∷ w.word; there = (s.there, w.there); spelt = ap (λ (l : List Label). L s.p ∷ l) w.spelt; cost = omega (arith, w.cost) }

  chain_word : (rs : List Row) → AllIn auto.rows rs → (q : ℕ) → q < suc m → weighed q rs < mark → Word q rs (weighed q rs)
  unfolding chain joint_to
  chain_word [] i q h l = rw (end_is q h) (record { word = []; there = (rw (end_is q h) at l, tt); spelt = refl; cost = refl })
  chain_word (r ∷ rs) i q h l = go (ℕ_discrete r.from q) (chain_word rs i.1 r.to)
    where
      s : Said A L m r
      s = said A L m r (rw rows_are at i.0)

      leads : r.to < suc m
      leads = rw s.is (omega (arith, s.under))

      go : Dec (r.from ≡ q) → (r.to < suc m → weighed r.to rs < mark → Word r.to rs (weighed r.to rs)) → Word q (r ∷ rs) (cond (eqb r.from q) (min mark (r.weight + weighed r.to rs)) mark)
      go (yes e) ih =
          let t : min mark (r.weight + weighed r.to rs) < mark = rw (eq-eqb r.from q e) at l in
          let f : min mark (r.weight + weighed r.to rs) ≡ r.weight + weighed r.to rs = omega arith in
          rw (eq-eqb r.from q e, f) (row_word q (weighed r.to rs) r rs s e (ih leads (omega arith)))
      go (no e) ih = let t : mark < mark = rw (ne_eqb r.from q e) at l in absurd (omega arith)

  -- and each way along arcs is taken by rows
  record Taken (q : ℕ) (w : List ℕ) : Type 0 where
    takes : List ℕ
    known : All (λ i. i < length auto.rows) takes
    spelt : map label_of (map (nth_row auto.rows) takes) ≡ map L w
    cost : weighed q (map (nth_row auto.rows) takes) ≡ path A q w

  word_taken : (w : List ℕ) (q : ℕ) → q < suc m → Open A q w → path A q w < mark → Taken q w
  unfolding chain joint_to
  word_taken [] q h o l = record { takes = []; known = tt; spelt = refl; cost = end_is q h }
  word_taken (p ∷ w) q h o l = go (word_taken w (suc p) (omega (arith, (inside q (suc p) o.0).1)) o.1 (omega arith))
    where
      n : Numbered (row_of A L q p) auto.rows
      n = numbered (row_of A L q p) auto.rows (rw rows_are (in_rows A L m q p h (omega (arith, (inside q (suc p) o.0).1)) o.0))

      go : Taken (suc p) w → Taken q (p ∷ w)
      go t =
          record {
            takes = n.number ∷ t.takes;
            known = (n.low, t.known);
            spelt = rw n.is (ap (λ (l : List Label). L p ∷ l) t.spelt);
            cost = rw (n.is, eq-eqb q q refl, t.cost) (omega arith);
          }

-- a run that weighs something starts in state 0
run_starts : (auto : Automaton) → auto.start 0 ≡ 0 → ((q : ℕ) → 0 < q → auto.start q ≡ mark) → (q c : ℕ) → joint_to mark (auto.start q) c < mark → (q ≡ 0) × (joint_to mark (auto.start q) c ≡ c)
unfolding joint_to
run_starts auto zeroth other zero c h = (refl, rw zeroth (let g : min mark (0 + c) < mark = rw zeroth at h in omega arith))
run_starts auto zeroth other (suc q) c h = let g : min mark (mark + c) < mark = rw (other (suc q) (omega arith)) at h in absurd (omega arith)

module _ {K : ℕ} {s : List ℕ} {a : Pat} (p : Pattern K s a) (short : length s ≤ 255)
    (auto : Automaton) (states_are : auto.states ≡ suc (steps_of a)) (vars_are : auto.vars ≡ K)
    (zeroth : auto.start 0 ≡ 0) (other : (q : ℕ) → 0 < q → auto.start q ≡ mark)
    (rows_are : auto.rows ≡ rows_of (arc_of a) (nth_label (labels_of a)) (steps_of a))
    (end_is : (q : ℕ) → q < suc (steps_of a) → auto.end q ≡ arc_of a q 0) (line : List ℕ) (t : Spans) where
  along : (c : ℕ) (is : List ℕ) → All (λ i. i < length auto.rows) is → chain tropical (λ n. n) auto 0 (map (nth_row auto.rows) is) ≡ c → c < mark
      → Word (arc_of a) (nth_label (labels_of a)) (steps_of a) (arc_inside a) auto rows_are end_is 0 (map (nth_row auto.rows) is) c
  along c is k e h = rw e at (chain_word (arc_of a) (nth_label (labels_of a)) (steps_of a) (arc_inside a) auto rows_are end_is (map (nth_row auto.rows) is) (rows_in auto.rows is k) 0 (omega arith) (rw e h))

  by_text : (c : ℕ) → Marking auto line t c → Gives K a line t c
  unfolding valid_run weight_of
  by_text c r =
      let b = run_starts auto zeroth other r.run.begins (chain tropical (λ n. n) auto r.run.begins (map (nth_row auto.rows) r.run.takes)) (rw r.weighs r.some) in
      let e : chain tropical (λ n. n) auto 0 (map (nth_row auto.rows) r.run.takes) ≡ c = ap (λ (q : ℕ). chain tropical (λ n. n) auto q (map (nth_row auto.rows) r.run.takes)) (sym b.0) ∙ (sym b.1 ∙ r.weighs) in
      let w = along c r.run.takes r.known e r.some in
      let d = word_trace p short w.word w.there in
      let l : labels auto r.run ≡ labels_in a d.trace = w.spelt ∙ ap (map (nth_label (labels_of a))) (sym d.word) in
      let f = and_true (spells (labels auto r.run) line) (valid auto.vars (labels auto r.run)) r.fits in
      record {
        trace = d.trace;
        derived = d.derived;
        reads_line = rw (← l) f.0;
        is_valid = rw (← l, ← vars_are) f.1;
        marks = rw (← l) r.sets;
        cost = d.cost ∙ w.cost;
      }

  by_table : (c : ℕ) → (g : Gives K a line t c) → path (arc_of a) 0 (steps g.trace) < mark → Marking auto line t (path (arc_of a) 0 (steps g.trace))
  unfolding valid_run weight_of joint_to
  by_table c g h =
      let k = word_taken (arc_of a) (nth_label (labels_of a)) (steps_of a) (arc_inside a) auto rows_are end_is (steps g.trace) 0 (omega arith) (trace_open p short g.derived) h in
      record {
        run = record { begins = 0; takes = k.takes };
        starts = omega (arith, states_are);
        known = k.known;
        fits = rw (k.spelt, vars_are, g.reads_line, g.is_valid);
        sets = rw k.spelt g.marks;
        weighs = rw (zeroth, k.cost) (omega arith);
        some = h;
      }

  text_least : (w : ℕ) → Least (Marking auto line t) w → Least (Gives K a line t) w
  text_least w l = record { cap = l.cap; low = λ c g. low c g (dec_lt (path (arc_of a) 0 (steps g.trace)) mark); attained = λ h. by_text w (l.attained h) }
    where
      low : (c : ℕ) (g : Gives K a line t c) → Dec (path (arc_of a) 0 (steps g.trace) < mark) → w ≤ c
      low c g (yes h) = omega (arith, l.low _ (by_table c g h), trace_low p short g.derived, g.cost)
      low c g (no h) = omega (arith, l.cap, trace_low p short g.derived, g.cost)

-- THE TABLE GIVES THE WEIGHT THAT THE TEXT GIVES
pub table_text : {K : ℕ} {s : List ℕ} {a : Pat} → Pattern K s a → length s ≤ 255 → steps_of a ≤ 31 → K ≤ 3 → (rest line : List ℕ) (t : Spans) → WeightOfText K s line t (weight_of_set (automaton_of (table_words K a ++ rest)) line t)
unfolding automaton_of words_of
table_text {K} {s} {a} p short m k rest line t =
    record {
      tree = a;
      parsed = p;
      least =
          text_least p short (automaton_of (table_words K a ++ rest)) refl refl (start_first (table_words K a ++ rest)) (start_other (table_words K a ++ rest))
          (rows_at (arc_of a) (nth_label (labels_of a)) K (steps_of a) rest) (λ q h. end_at (arc_of a) (nth_label (labels_of a)) K (steps_of a) rest q mark h) line t _
          (weight_least (table_words K a ++ rest) (right p short m k rest) line t);
    }
