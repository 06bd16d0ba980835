-- The two questions of 01 and their one answer: the weight of a set, and the best reading of a line.
--
-- set_answer      with a set's positions alone allowed, the weight part of the answer is the weight of the set
-- best_answer     with every position allowed, the answer's two parts are the weight and the key of the best reading
-- none_answer     or there is no reading
-- best_one        two best readings are one
-- best_not_none   a line that has a best reading has a reading
-- none_runs, runs_none   a line has no reading exactly when no valid run reads it
use Rattle.std.specs.Prelude.{◌≡◌, refl, Bool, true, List, length}
use Rattle.std.proofs.Common.{sym, ◌∙◌, arith}
use Prim.Native.Nat.{ℕ, ◌+◌, ◌*◌, ◌≤◌, ◌<◌}
use Rattle.std.proofs.Math.Decide.{dec_lt}
use Rattle.basics.specs.Every.{and_true}
use Rattle.weight.specs.Weight.{mark}
use Rattle.weight.specs.Tropical.{tropical}
use Rattle.spans.specs.declared.Spans.{Spans}
use Rattle.spans.specs.Spans.{SetOfSpans}
use Rattle.spans.specs.Order.{not_after_antisym}
use Rattle.marks.specs.Labels.{spells, valid, marked}
use Rattle.table.specs.Table.{Automaton, automaton_of, RightTable}
use Rattle.runs.specs.Runs.{labels, rows_of, valid_run, weight_of, weight_of_set}
use Rattle.runs.specs.Marking.{Marking}
use Rattle.runs.specs.Least.{weight_least, rows_in}
use Rattle.togo.specs.Price.{base, placed, answer}
use Rattle.togo.specs.Right.{right_automaton, right_labels}
use Rattle.togo.specs.Sets.{Pinned}
use Rattle.best.specs.Best.{IsBest, IsNone, HasRun}
use Rattle.best.specs.Decode.{spans_of_key}
use Rattle.best.specs.Marked.{marked_set}
use Rattle.best.specs.Among.{Allowed, set_fits, pinned_answer, among_best, among_none}

-- every position of a line of at most 1,024 bytes is allowed
abbrev pub Open : (ℕ → ℕ → Bool) → Type 0
Open allow = (m p : ℕ) → m < 6 → p ≤ 1025 → allow m p ≡ true

module _ (ws : List ℕ) (table : RightTable ws) (line : List ℕ) (short : length line ≤ 1024) where
  pub set_answer : (t : Spans) → SetOfSpans (automaton_of ws).vars (length line) t → (allow : ℕ → ℕ → Bool) → Pinned t allow
      → (w k : ℕ) → k < base → answer allow (automaton_of ws) line ≡ w * base + k → weight_of_set (automaton_of ws) line t ≡ w
  set_answer = pinned_answer (automaton_of ws) (right_automaton ws table) line short

  all_open : (allow : ℕ → ℕ → Bool) → Open allow → (s : Spans) → SetOfSpans (automaton_of ws).vars (length line) s → Allowed allow (automaton_of ws).vars s
  all_open allow every s hs m hm h = every m (placed s m) hm (set_fits (automaton_of ws).vars (length line) short s hs m hm)

  pub best_answer : (allow : ℕ → ℕ → Bool) → Open allow → (w k : ℕ) → k < base → answer allow (automaton_of ws) line ≡ w * base + k → w < mark → IsBest (automaton_of ws) line w (spans_of_key k)
  best_answer allow every w k hk e hw =
      let b = among_best (automaton_of ws) (right_automaton ws table) line short allow w k hk e hw in
      record {
        set = b.set;
        own = b.own;
        real = b.real;
        lightest = λ s hs. b.lightest s hs (all_open allow every s hs);
        first = λ s hs. b.first s hs (all_open allow every s hs);
      }

  pub none_answer : (allow : ℕ → ℕ → Bool) → Open allow → (w k : ℕ) → answer allow (automaton_of ws) line ≡ w * base + k → mark ≤ w → IsNone (automaton_of ws) line
  none_answer allow every w k e hw = record { all = λ s hs. among_none (automaton_of ws) (right_automaton ws table) line short allow w k e hw s hs (all_open allow every s hs) }

pub best_one : (A : Automaton) (line : List ℕ) (w v : ℕ) (t s : Spans) → IsBest A line w t → IsBest A line v s → (w ≡ v) × (t ≡ s)
best_one A line w v t s a b =
    let p : w ≤ v = omega (arith, a.lightest s b.set, b.own) in
    let q : v ≤ w = omega (arith, b.lightest t a.set, a.own) in
    let e : w ≡ v = omega arith in
    (e, not_after_antisym t s (a.first s b.set (b.own ∙ sym e)) (b.first t a.set (a.own ∙ e)))

pub best_not_none : (A : Automaton) (line : List ℕ) (w : ℕ) (t : Spans) → IsBest A line w t → IsNone A line → ⊥
best_not_none A line w t b n = omega (arith, b.real, b.own, n.all t b.set)

module _ (ws : List ℕ) (table : RightTable ws) (line : List ℕ) where
  pub none_runs : IsNone (automaton_of ws) line → HasRun (automaton_of ws) line → ⊥
  unfolding valid_run
  none_runs n h =
      let c : ℕ = weight_of tropical (λ n. n) (automaton_of ws) h.run in
      let ls = labels (automaton_of ws) h.run in
      let p = and_true (spells ls line) (valid (automaton_of ws).vars ls) h.is_valid in
      let set : SetOfSpans (automaton_of ws).vars (length line) (marked ls) = marked_set (automaton_of ws).vars line ls (right_labels (automaton_of ws) (right_automaton ws table) (rows_of (automaton_of ws) h.run.takes) (rows_in (automaton_of ws).rows h.run.takes h.rows)) p.0 p.1 in
      let m : Marking (automaton_of ws) line (marked ls) c = record { run = h.run; starts = h.starts; known = h.rows; fits = h.is_valid; sets = refl; weighs = refl; some = h.real } in
      omega (arith, (weight_least ws table line (marked ls)).low c m, n.all (marked ls) set, h.real)

  pub runs_none : (HasRun (automaton_of ws) line → ⊥) → IsNone (automaton_of ws) line
  runs_none f = record { all = λ s hs. go s (dec_lt (weight_of_set (automaton_of ws) line s) mark) }
    where
      go : (s : Spans) → Dec (weight_of_set (automaton_of ws) line s < mark) → weight_of_set (automaton_of ws) line s ≡ mark
      go s (yes h) = let m = (weight_least ws table line s).attained h in absurd (f (record { run = m.run; starts = m.starts; rows = m.known; is_valid = m.fits; real = rw m.weighs h }))
      go s (no h) = omega (arith, (weight_least ws table line s).cap)
