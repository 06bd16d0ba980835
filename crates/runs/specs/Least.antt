-- With weights, the weight of a set is the least over the valid runs that mark it; and no sum along such a run meets the mark.
--
-- weight_least        the least of the weights of valid runs that mark the set, or the mark where there is none
-- valid_bound         a valid run on a line of at most 1,024 bytes weighs at most 1,031,000,000
-- chain_plain         its weight is the plain sum of its rows' weights and its end weight
use Rattle.std.specs.Prelude.{◌≡◌, Bool, ◌&&◌, get_or}
use Rattle.std.proofs.Math.Path.{refl}
use Rattle.std.proofs.Common.{sym, ◌∙◌, arith, eq-eqb, ne_eqb}
use Rattle.std.proofs.Math.Bool.{true, false, cond}
use mathlib.Core.List.{List, [], ◌∷◌, map}
use Prim.Native.Nat.{ℕ, zero, suc, ◌+◌, ◌*◌, ◌≤◌, ◌<◌, min}
use Rattle.std.proofs.Math.Decide.{ℕ_discrete}
use Rattle.std.proofs.Math.ListN.{length}
use Rattle.std.proofs.lemmas.List.{length-map}
use Rattle.basics.specs.Lists.{below, lists, All}
use Rattle.basics.specs.Members.{In, first, later, AllIn, all_in, in_map, map_in, in_pairs, pairs_in, in_below, below_in, in_lists, lists_in}
use Rattle.weight.specs.Weight.{mark, joint_to, Least}
use Rattle.weight.specs.Tropical.{tropical, sum_cap, sum_le, sum_at}
use Rattle.spans.specs.declared.Spans.{Spans}
use Rattle.spans.specs.Spans.{same}
use Rattle.spans.specs.Order.{same_true, same_refl}
use Rattle.marks.specs.Labels.{marked}
use Rattle.setting.specs.Settled.{Right}
use Rattle.table.specs.declared.Row.{Row}
use Rattle.table.specs.Table.{Automaton, label_of, RightTable, RightRow, automaton_of, most_bytes}
use Rattle.table.specs.Rows.{rows_right, end_light}
use Rattle.runs.specs.Runs.{Run, nth_row, rows_of, labels, chain, weight_of, valid_run, runs, set_weight, weight_of_set}
use Rattle.runs.specs.Rows.{start_first, start_other}
use Rattle.runs.specs.Length.{valid_rows}
use Rattle.runs.specs.Marking.{Marking, Through, plain}

-- the rows of a run are rows of the automaton
nth_in : (rows : List Row) (i : ℕ) → i < length rows → In (nth_row rows i) rows
unfolding nth_row
nth_in [] i h = absurd (omega arith)
nth_in (r ∷ rs) zero h = first
nth_in (r ∷ rs) (suc i) h = later (nth_in rs i (omega arith))

pub rows_in : (rows : List Row) (is : List ℕ) → All (λ i. i < length rows) is → AllIn rows (map (nth_row rows) is)
rows_in rows [] h = tt
rows_in rows (i ∷ is) h = (nth_in rows i h.0, rows_in rows is h.1)

all_of : {A : Type 0} (P : A → Type 0) (rows : List A) → All P rows → (l : List A) → AllIn rows l → All P l
all_of P rows h [] i = tt
all_of P rows h (x ∷ l) i = (all_in P x rows h i.0, all_of P rows h l i.1)

right_labels : (S K : ℕ) (rs : List Row) → All (RightRow S K) rs → All (Right K) (map label_of rs)
right_labels S K [] h = tt
right_labels S K (r ∷ rs) h = (h.0.label, right_labels S K rs h.1)

numbers_in : (n : ℕ) (is : List ℕ) → All (λ i. i < n) is → AllIn (below n) is
numbers_in n [] h = tt
numbers_in n (i ∷ is) h = (in_below n i h.0, numbers_in n is h.1)

in_numbers : (n : ℕ) (is : List ℕ) → AllIn (below n) is → All (λ i. i < n) is
in_numbers n [] h = tt
in_numbers n (i ∷ is) h = (below_in n i h.0, in_numbers n is h.1)

-- a run is one of all runs of its length
in_runs : (A : Automaton) (r : Run) (m : ℕ) → r.begins < A.states → All (λ i. i < length A.rows) r.takes → length r.takes ≡ m → In r (runs A m)
unfolding runs
in_runs A r m h k e =
    in_map (λ p. record { begins = p.0; takes = p.1 }) (r.begins, r.takes) _
    (in_pairs r.begins r.takes (below A.states) (lists m (below (length A.rows))) (in_below A.states r.begins h) (rw e at (in_lists (below (length A.rows)) r.takes (numbers_in (length A.rows) r.takes k))))

record OneOf (A : Automaton) (r : Run) : Type 0 where
  starts : r.begins < A.states
  known : All (λ i. i < length A.rows) r.takes

runs_in : (A : Automaton) (m : ℕ) (r : Run) → In r (runs A m) → OneOf A r
unfolding runs
runs_in A m r i =
    let s = map_in {A = ℕ × List ℕ} (λ p. record { begins = p.0; takes = p.1 }) r _ i in
    let p = pairs_in s.what (below A.states) (lists m (below (length A.rows))) s.among in
    rw s.is (record { starts = below_in A.states s.what.0 p.0; known = in_numbers (length A.rows) s.what.1 (lists_in (below (length A.rows)) m s.what.1 p.1).all })

module _ (ws : List ℕ) (right : RightTable ws) where
  vars_few : (automaton_of ws).vars ≤ 3
  unfolding automaton_of
  vars_few = right.vars

  run_right : (is : List ℕ) → All (λ i. i < length (automaton_of ws).rows) is → All (RightRow (get_or ws 0 0) (get_or ws 1 0)) (rows_of (automaton_of ws) is)
  run_right is k = all_of (RightRow (get_or ws 0 0) (get_or ws 1 0)) (automaton_of ws).rows (rows_right ws right) (rows_of (automaton_of ws) is) (rows_in (automaton_of ws).rows is k)

  run_labels : (r : Run) → All (λ i. i < length (automaton_of ws).rows) r.takes → All (Right (automaton_of ws).vars) (labels (automaton_of ws) r)
  unfolding automaton_of
  run_labels r k = right_labels (get_or ws 0 0) (get_or ws 1 0) (rows_of (automaton_of ws) r.takes) (run_right r.takes k)

  -- how many rows a run has that marks a set
  pub marking_rows : (line : List ℕ) (t : Spans) (c : ℕ) (m : Marking (automaton_of ws) line t c) → length m.run.takes ≡ length line + 2 * (automaton_of ws).vars
  marking_rows line t c m = valid_rows (automaton_of ws) vars_few line m.run (run_labels m.run m.known) m.fits

  -- what a run adds to the weight of a set
  term : List ℕ → Spans → Run → ℕ
  term line t r = cond (valid_run (automaton_of ws) line r && same (marked (labels (automaton_of ws) r)) t) (weight_of tropical (λ n. n) (automaton_of ws) r) mark

  term_run : (line : List ℕ) (t : Spans) (r : Run) → OneOf (automaton_of ws) r → term line t r < mark → Marking (automaton_of ws) line t (term line t r)
  unfolding term
  term_run line t r o h = go (valid_run (automaton_of ws) line r) refl (same (marked (labels (automaton_of ws) r)) t) refl h
    where
      go : (a : Bool) → valid_run (automaton_of ws) line r ≡ a → (b : Bool) → same (marked (labels (automaton_of ws) r)) t ≡ b → cond (a && b) (weight_of tropical (λ n. n) (automaton_of ws) r) mark < mark → Marking (automaton_of ws) line t (cond (a && b) (weight_of tropical (λ n. n) (automaton_of ws) r) mark)
      go true e true f h = record { run = r; starts = o.starts; known = o.known; fits = e; sets = same_true _ _ f; weighs = refl; some = h }
      go true e false f h = absurd (omega arith)
      go false e b f h = absurd (omega arith)

  pub weight_least : (line : List ℕ) (t : Spans) → Least (Marking (automaton_of ws) line t) (weight_of_set (automaton_of ws) line t)
  unfolding set_weight term
  weight_least line t =
      record { cap = sum_cap mark (term line t) (runs (automaton_of ws) m); low = low; attained = attained }
    where
      m : ℕ
      m = length line + 2 * (automaton_of ws).vars

      low : (c : ℕ) → Marking (automaton_of ws) line t c → weight_of_set (automaton_of ws) line t ≤ c
      low c k =
          let e : term line t k.run ≡ c = rw (k.fits, same_refl _ _ k.sets) k.weighs in
          omega (arith, e, sum_le mark (term line t) (in_runs (automaton_of ws) k.run m k.starts k.known (marking_rows line t c k)))

      attained : weight_of_set (automaton_of ws) line t < mark → Marking (automaton_of ws) line t (weight_of_set (automaton_of ws) line t)
      attained h =
          let s = sum_at mark (term line t) (runs (automaton_of ws) m) h in
          rw s.2 at (term_run line t s.0 (runs_in (automaton_of ws) m s.0 s.1) (rw s.2 h))

  -- a weight below the mark comes of rows that follow one another
  pub chain_through : (rs : List Row) (q : ℕ) → chain tropical (λ n. n) (automaton_of ws) q rs < mark → Through (automaton_of ws) q rs
  unfolding chain joint_to
  chain_through [] q h = h
  chain_through (r ∷ rs) q h = go (ℕ_discrete r.from q) (chain_through rs r.to)
    where
      go : Dec (r.from ≡ q) → (chain tropical (λ n. n) (automaton_of ws) r.to rs < mark → Through (automaton_of ws) r.to rs) → Through (automaton_of ws) q (r ∷ rs)
      go (yes e) ih = (e, ih (let g : min mark (r.weight + chain tropical (λ n. n) (automaton_of ws) r.to rs) < mark = rw (eq-eqb _ _ e) at h in omega arith))
      go (no e) ih = let g : mark < mark = rw (ne_eqb _ _ e) at h in absurd (omega arith)

  pub plain_light : (rs : List Row) → All (RightRow (get_or ws 0 0) (get_or ws 1 0)) rs → (q : ℕ) → q < get_or ws 0 0 → Through (automaton_of ws) q rs → plain (automaton_of ws) q rs ≤ 1000000 * suc (length rs)
  plain_light [] a q h e = omega (arith, end_light ws right q h e)
  plain_light (r ∷ rs) a q h e = omega (arith, a.0.light, plain_light rs a.1 r.to a.0.leads e.1)

  -- rows that follow one another weigh their plain sum, which does not meet the mark
  pub chain_plain : (rs : List Row) → All (RightRow (get_or ws 0 0) (get_or ws 1 0)) rs → length rs ≤ 4000 → (q : ℕ) → q < get_or ws 0 0 → Through (automaton_of ws) q rs → chain tropical (λ n. n) (automaton_of ws) q rs ≡ plain (automaton_of ws) q rs
  unfolding chain joint_to
  chain_plain [] a l q h e = refl
  chain_plain (r ∷ rs) a l q h e =
      rw (eq-eqb _ _ e.0, chain_plain rs a.1 (omega arith) r.to a.0.leads e.1)
      (omega (arith, plain_light (r ∷ rs) a q h e))

  -- a run that weighs less than the mark starts in state 0, and its start adds nothing
  begins_first : (r : Run) → weight_of tropical (λ n. n) (automaton_of ws) r < mark → (r.begins ≡ 0) × (weight_of tropical (λ n. n) (automaton_of ws) r ≡ chain tropical (λ n. n) (automaton_of ws) 0 (rows_of (automaton_of ws) r.takes))
  unfolding weight_of joint_to
  begins_first r h = go r.begins refl
    where
      go : (q : ℕ) → r.begins ≡ q → (r.begins ≡ 0) × (weight_of tropical (λ n. n) (automaton_of ws) r ≡ chain tropical (λ n. n) (automaton_of ws) 0 (rows_of (automaton_of ws) r.takes))
      go zero e = (e, rw (e, start_first ws) (omega (arith, (rw (e, start_first ws) at h))))
      go (suc q) e = absurd (omega (arith, (rw (start_other ws r.begins (omega arith)) at h)))

  -- the weight of a run that marks a set is the plain sum of its rows' weights and its end weight
  pub marking_plain : (line : List ℕ) → length line ≤ most_bytes → (t : Spans) (c : ℕ) (m : Marking (automaton_of ws) line t c) → (c ≡ plain (automaton_of ws) 0 (rows_of (automaton_of ws) m.run.takes)) × (c ≤ 1000000 * suc (length m.run.takes))
  marking_plain line hl t c m =
      let b = begins_first m.run (omega (arith, m.weighs, m.some)) in
      let rs : List Row = rows_of (automaton_of ws) m.run.takes in
      let a : All (RightRow (get_or ws 0 0) (get_or ws 1 0)) rs = run_right m.run.takes m.known in
      let e : c ≡ chain tropical (λ n. n) (automaton_of ws) 0 rs = sym m.weighs ∙ b.1 in
      let n : length rs ≡ length m.run.takes = length-map m.run.takes (nth_row (automaton_of ws).rows) in
      let g : Through (automaton_of ws) 0 rs = chain_through rs 0 (omega (arith, e, m.some)) in
      let f : c ≡ plain (automaton_of ws) 0 rs = e ∙ chain_plain rs a (omega (arith, n, marking_rows line t c m, vars_few)) 0 right.some_state g in
      (f, omega (arith, f, n, plain_light rs a 0 right.some_state g))

  pub valid_bound : (line : List ℕ) → length line ≤ most_bytes → (t : Spans) (c : ℕ) → Marking (automaton_of ws) line t c → c ≤ 1031000000
  valid_bound line hl t c m = omega (arith, (marking_plain line hl t c m).1, marking_rows line t c m, vars_few)
