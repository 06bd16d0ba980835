-- The sum over runs as a sum over lists of rows: the numbers of rows and the starts are done away with, in every semiring.
--
-- marks A line t rs   the test that the rows rs read the whole line, are valid and mark t
-- set_rows            the weight of a set is the sum over lists of rows from state 0, where state 0 starts at weight 0 and no other starts
-- set_rows_tropical   the same of a right table, with weights
use Rattle.std.specs.Prelude.{◌≡◌, refl, Bool, true, false, ◌&&◌, eqb, get_or}
use Rattle.std.proofs.Common.{sym, ap, ap₂, ◌∙◌, arith, ne_eqb}
use Rattle.std.proofs.Math.Bool.{cond}
use mathlib.Core.List.{List, [], ◌∷◌, ◌++◌, map, map-map, map-append}
use Prim.Native.Nat.{ℕ, zero, suc, ◌+◌, ◌*◌, ◌≤◌, ◌<◌, min}
use Rattle.std.proofs.Math.ListN.{length}
use Rattle.basics.specs.Lists.{from, below, conses, lists, pairs}
use Rattle.basics.specs.Members.{In, AllIn, lists_in, first, later}
use Rattle.weight.specs.Weight.{mark, joint_to}
use Rattle.weight.specs.Semiring.{Semi, sum}
use Rattle.weight.specs.Sums.{sum_map, sum_pairs, sum_ext, sum_zero, zero_sum}
use Rattle.weight.specs.Tropical.{tropical}
use Rattle.spans.specs.declared.Spans.{Spans}
use Rattle.spans.specs.Spans.{same}
use Rattle.marks.specs.Labels.{spells, valid, marked}
use Rattle.table.specs.declared.Row.{Row}
use Rattle.table.specs.Table.{Automaton, label_of, RightTable, automaton_of}
use Rattle.table.specs.Rows.{end_fits}
use Rattle.runs.specs.Runs.{Run, nth_row, rows_of, Value, chain, weight_of, valid_run, runs, set_weight, weight_of_set}

-- lists of images are images of lists
conses_map : {A B : Type 0} (f : A → B) (rs : List A) (ls : List (List A)) → map (map f) (conses rs ls) ≡ conses (map f rs) (map (map f) ls)
unfolding conses
conses_map f [] ls = refl
conses_map f (r ∷ rs) ls =
    map-append (map f) (map (λ l. r ∷ l) ls) (conses rs ls)
    ∙ ap₂ ◌++◌ (map-map (map f) (λ l. r ∷ l) ls ∙ sym (map-map (λ l. f r ∷ l) (map f) ls)) (conses_map f rs ls)

pub lists_map : {A B : Type 0} (f : A → B) (m : ℕ) (rs : List A) → map (map f) (lists m rs) ≡ lists m (map f rs)
unfolding lists
lists_map f zero rs = refl
lists_map f (suc m) rs = conses_map f rs (lists m rs) ∙ ap (conses (map f rs)) (lists_map f m rs)

-- the rows that have the numbers below their count are the rows
nth_shift : (r : Row) (rs : List Row) (i n : ℕ) → map (nth_row (r ∷ rs)) (from (suc i) n) ≡ map (nth_row rs) (from i n)
unfolding from nth_row
nth_shift r rs i zero = refl
nth_shift r rs i (suc n) = ap (λ (l : List Row). nth_row rs i ∷ l) (nth_shift r rs (suc i) n)

pub nth_below : (rs : List Row) → map (nth_row rs) (below (length rs)) ≡ rs
unfolding from nth_row
nth_below [] = refl
nth_below (r ∷ rs) = ap (λ (l : List Row). r ∷ l) (nth_shift r rs 0 (length rs) ∙ nth_below rs)

-- a sum over the numbers of rows is one over the rows
pub sum_numbers : (S : Semi) (g : List Row → S.W) (rows : List Row) (m : ℕ) → sum S (λ is. g (map (nth_row rows) is)) (lists m (below (length rows))) ≡ sum S g (lists m rows)
sum_numbers S g rows m = sym (sum_map S g (map (nth_row rows)) (lists m (below (length rows)))) ∙ ap (sum S g) (lists_map (nth_row rows) m (below (length rows)) ∙ ap (lists m) (nth_below rows))

-- a sum over states of which only state 0 counts
sum_from : (S : Semi) (g : ℕ → S.W) → ((q : ℕ) → 0 < q → g q ≡ S.zero) → (i n : ℕ) → 0 < i → sum S g (from i n) ≡ S.zero
unfolding sum from
sum_from S g h i zero l = refl
sum_from S g h i (suc n) l = ap₂ S.plus (h i l) (sum_from S g h (suc i) n (omega arith)) ∙ S.zero_zero

sum_first : (S : Semi) (g : ℕ → S.W) → ((q : ℕ) → 0 < q → g q ≡ S.zero) → S.plus S.zero (g 0) ≡ g 0 → (n : ℕ) → 0 < n → sum S g (below n) ≡ g 0
unfolding sum from
sum_first S g h z zero l = absurd (omega arith)
sum_first S g h z (suc n) l = ap (S.plus (g 0)) (sum_from S g h 1 n (omega arith)) ∙ S.plus_comm (g 0) S.zero ∙ z

-- a sum whose members are equal where they stand
pub sum_ext_in : (S : Semi) {A : Type 0} (f g : A → S.W) (xs : List A) → ((x : A) → In x xs → f x ≡ g x) → sum S f xs ≡ sum S g xs
unfolding sum
sum_ext_in S f g [] h = refl
sum_ext_in S f g (x ∷ xs) h = ap₂ S.plus (h x first) (sum_ext_in S f g xs (λ y i. h y (later i)))

abbrev pub marks : Automaton → List ℕ → Spans → List Row → Bool
marks A line t rs = (spells (map label_of rs) line && valid A.vars (map label_of rs)) && same (marked (map label_of rs)) t

module _ (S : Semi) (w : Value S) (A : Automaton) (line : List ℕ) (t : Spans) where
  -- what the runs that begin in a state weigh together
  from_state : ℕ → S.W
  from_state q = sum S (λ rs. cond (marks A line t rs) (S.times (w (A.start q)) (chain S w A q rs)) S.zero) (lists (length line + 2 * A.vars) A.rows)

  by_states : set_weight S w A line t ≡ sum S from_state (below A.states)
  unfolding set_weight runs weight_of valid_run from_state
  by_states =
      let m : ℕ = length line + 2 * A.vars in
      let ns : List (List ℕ) = lists m (below (length A.rows)) in
      let f : Run → S.W = λ r. cond (valid_run A line r && same (marked (map label_of (rows_of A r.takes))) t) (weight_of S w A r) S.zero in
      sum_map S f (λ p. record { begins = p.0; takes = p.1 }) (pairs (below A.states) ns)
      ∙ sum_pairs S (λ q is. f (record { begins = q; takes = is })) (below A.states) ns
      ∙ sum_ext S _ _ (below A.states) (λ q. sum_numbers S (λ rs. cond (marks A line t rs) (S.times (w (A.start q)) (chain S w A q rs)) S.zero) A.rows m)

  pub set_rows : 0 < A.states → A.start 0 ≡ 0 → ((q : ℕ) → 0 < q → A.start q ≡ mark)
      → ((x : S.W) → S.times (w mark) x ≡ S.zero)
      → ((rs : List Row) → AllIn A.rows rs → S.times (w 0) (chain S w A 0 rs) ≡ chain S w A 0 rs)
      → set_weight S w A line t ≡ sum S (λ rs. cond (marks A line t rs) (chain S w A 0 rs) S.zero) (lists (length line + 2 * A.vars) A.rows)
  unfolding from_state
  set_rows some zeroth others none unit =
      by_states
      ∙ sum_first S from_state (λ q h. sum_ext S _ _ ls (λ rs. never q h (marks A line t rs) (chain S w A q rs)) ∙ sum_zero S ls) (zero_sum S _ ls) A.states some
      ∙ sum_ext_in S _ _ ls (λ rs i. own rs (unit rs (lists_in A.rows _ rs i).all) (marks A line t rs))
    where
      ls : List (List Row)
      ls = lists (length line + 2 * A.vars) A.rows

      never : (q : ℕ) → 0 < q → (b : Bool) (x : S.W) → cond b (S.times (w (A.start q)) x) S.zero ≡ S.zero
      never q h true x = rw (others q h) (none x)
      never q h false x = refl

      own : (rs : List Row) → S.times (w 0) (chain S w A 0 rs) ≡ chain S w A 0 rs → (b : Bool) → cond b (S.times (w (A.start 0)) (chain S w A 0 rs)) S.zero ≡ cond b (chain S w A 0 rs) S.zero
      own rs u true = rw zeroth u
      own rs u false = refl

-- the weights of a right table stay within the mark
pub chain_cap : (ws : List ℕ) → RightTable ws → (rs : List Row) → AllIn (automaton_of ws).rows rs → (q : ℕ) → q < get_or ws 0 0 → chain tropical (λ n. n) (automaton_of ws) q rs ≤ mark
unfolding chain joint_to
chain_cap ws t [] i q h = end_fits ws t q h
chain_cap ws t (r ∷ rs) i q h = go (eqb r.from q)
  where
    go : (b : Bool) → cond b (min mark (r.weight + chain tropical (λ n. n) (automaton_of ws) r.to rs)) mark ≤ mark
    go true = omega arith
    go false = omega arith

pub start_first : (ws : List ℕ) → (automaton_of ws).start 0 ≡ 0
unfolding automaton_of
start_first ws = refl

pub start_other : (ws : List ℕ) (q : ℕ) → 0 < q → (automaton_of ws).start q ≡ mark
unfolding automaton_of
start_other ws q h = rw (ne_eqb q 0 (λ e. omega arith))

pub states_some : (ws : List ℕ) → RightTable ws → 0 < (automaton_of ws).states
unfolding automaton_of
states_some ws t = t.some_state

mark_joint : (x : ℕ) → joint_to mark mark x ≡ mark
unfolding joint_to
mark_joint x = omega arith

pub zero_joint_fits : (x : ℕ) → x ≤ mark → joint_to mark 0 x ≡ x
unfolding joint_to
zero_joint_fits x h = omega arith

pub set_rows_tropical : (ws : List ℕ) → RightTable ws → (line : List ℕ) (t : Spans)
    → weight_of_set (automaton_of ws) line t ≡ sum tropical (λ rs. cond (marks (automaton_of ws) line t rs) (chain tropical (λ n. n) (automaton_of ws) 0 rs) mark) (lists (length line + 2 * (automaton_of ws).vars) (automaton_of ws).rows)
set_rows_tropical ws r line t =
    set_rows tropical (λ n. n) (automaton_of ws) line t (states_some ws r) (start_first ws) (start_other ws) mark_joint
    (λ rs i. zero_joint_fits (chain tropical (λ n. n) (automaton_of ws) 0 rs) (chain_cap ws r rs i 0 r.some_state))
