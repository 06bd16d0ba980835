-- The weight to go of a right automaton: only its own states count, so only their end words are asked about.
--
-- RightAutomaton A    what the theorems ask of an automaton: what a right table lays out
-- right_automaton     it is that
-- right_labels        the labels of a list of its rows are right
-- kernel_runs_to      kernel_runs, with nothing asked of the end words of states that are none
use Rattle.std.specs.Prelude.{◌≡◌, Bool, ◌&&◌, eqb}
use Rattle.std.proofs.Math.Path.{refl, ap}
use Rattle.std.proofs.Common.{sym, ◌∙◌}
use Rattle.std.proofs.Math.Bool.{cond}
use mathlib.Core.List.{List, [], ◌∷◌, map}
use Rattle.std.proofs.Math.Option.{Option, none, some}
use Prim.Native.Nat.{ℕ, zero, suc, ◌≤◌, ◌<◌}
use Rattle.basics.specs.Lists.{All, lists}
use Rattle.basics.specs.Members.{AllIn, all_in, lists_in}
use Rattle.weight.specs.Weight.{mark}
use Rattle.weight.specs.Semiring.{Semi, sum}
use Rattle.weight.specs.Sums.{sum_ext_all}
use Rattle.weight.specs.Totals.{after, weight, togo}
use Rattle.setting.specs.Setting.{settles}
use Rattle.setting.specs.Settled.{Right}
use Rattle.table.specs.declared.Row.{Row}
use Rattle.table.specs.Table.{Automaton, automaton_of, label_of, RightRow, RightTable}
use Rattle.table.specs.Rows.{rows_right, end_fits}
use Rattle.runs.specs.Rows.{sum_ext_in, start_first, start_other}
use Rattle.togo.specs.ToGo.{Spot, Config, pass, step, held, ending, rows_to_go, kernel, begun}
use Rattle.togo.specs.Equation.{step_parts}
use Rattle.togo.specs.Runs.{passed, stop_at, stops, within, plain, ending_stops, kernel_runs}

pub record RightAutomaton (A : Automaton) : Type 0 where
  pub some_state : 0 < A.states
  pub few : A.vars ≤ 3
  pub rights : All (RightRow A.states A.vars) A.rows
  pub first : A.start 0 ≡ 0
  pub other : (q : ℕ) → 0 < q → A.start q ≡ mark
  pub ends : (q : ℕ) → q < A.states → A.end q ≤ mark

pub right_automaton : (ws : List ℕ) → RightTable ws → RightAutomaton (automaton_of ws)
unfolding automaton_of
right_automaton ws t =
    record { some_state = t.some_state; few = t.vars; rights = rows_right ws t; first = start_first ws; other = start_other ws; ends = end_fits ws t }

pub all_rows : {R : Type 0} (P : R → Type 0) (rows : List R) → All P rows → (rs : List R) → AllIn rows rs → All P rs
all_rows P rows h [] i = tt
all_rows P rows h (r ∷ rs) i = (all_in P r rows h i.0, all_rows P rows h rs i.1)

labels_right : (n K : ℕ) (rs : List Row) → All (RightRow n K) rs → All (Right K) (map label_of rs)
labels_right n K [] h = tt
labels_right n K (r ∷ rs) h = (h.0.label, labels_right n K rs h.1)

pub right_labels : (A : Automaton) → RightAutomaton A → (rs : List Row) → AllIn A.rows rs → All (Right A.vars) (map label_of rs)
right_labels A h rs i = labels_right A.states A.vars rs (all_rows _ A.rows h.rights rs i)

-- two ways to stop that agree on good configurations give one weight to go, and one weight of each run
module _ (S : Semi) {C R : Type 0} (step : C → R → Option C) (price : C → R → S.W) (stop other : C → S.W) (Good : C → Type 0) (Fine : R → Type 0)
    (keeps : (c : C) (r : R) (d : C) → Fine r → step c r ≡ some d → Good d)
    (agree : (c : C) → Good c → stop c ≡ other c) where
  after_same : (f g : C → S.W) (c : C) (r : R) → Fine r → ((d : C) → Good d → f d ≡ g d) → (o : Option C) → step c r ≡ o → after S step price stop c r f o ≡ after S step price other c r g o
  unfolding after
  after_same f g c r h e none q = refl
  after_same f g c r h e (some d) q = ap (S.times (price c r)) (e d (keeps c r d h q))

  togo_same : (rs : List R) → All Fine rs → (m : ℕ) (c : C) → Good c → togo S step price stop rs m c ≡ togo S step price other rs m c
  unfolding togo
  togo_same rs a zero c g = agree c g
  togo_same rs a (suc m) c g = sum_ext_all S Fine _ _ rs a (λ r h. after_same _ _ c r h (togo_same rs a m) (step c r) refl)

  weight_same : (l : List R) → All Fine l → (c : C) → Good c → weight S step price stop l c ≡ weight S step price other l c
  unfolding weight
  weight_same [] a c g = agree c g
  weight_same (r ∷ l) a c g = after_same _ _ c r a.0 (weight_same l a.1) (step c r) refl

module _ (S : Semi) (allow : ℕ → ℕ → Bool) (price : Spot → Row → S.W) (end : ℕ → S.W) (rows : List Row) (bytes : List ℕ) (u n : ℕ) (some_state : 0 < n) (leads : All (λ r. r.to < n) rows)
    (normal : (q : ℕ) → q < n → S.plus S.zero (end q) ≡ end q) where
  abbrev cut : ℕ → S.W
  cut q = S.plus S.zero (end q)

  stops_cut : (s : Spot) → s.state < n → stops S end s ≡ stops S cut s
  unfolding stops
  stops_cut s h = ap (λ (w : S.W). stop_at S w s.rest) (sym (normal s.state h))

  ending_cut : (c : Config) → c.spot.state < n → ending S end c ≡ ending S cut c
  ending_cut c h = ending_stops S end c ∙ ap (λ (w : S.W). cond (eqb c.setting 26) w S.zero) (stops_cut c.spot h) ∙ sym (ending_stops S cut c)

  pub kernel_runs_to : kernel S allow price end rows (begun bytes u) ≡ sum S (λ rs. cond (within allow 1 (map label_of rs) && settles u (map label_of rs)) (plain S price end rs (begun bytes u).spot) S.zero) (lists (rows_to_go bytes u) rows)
  unfolding kernel
  kernel_runs_to =
      togo_same S step (held S allow price) (ending S end) (ending S cut) (λ c. c.spot.state < n) (λ r. r.to < n) (λ c r d h e. rw (passed c.spot r d.spot (step_parts c r d e).0).leads h) ending_cut rows leads (rows_to_go bytes u) (begun bytes u) some_state
      ∙ kernel_runs S allow price cut rows bytes u (λ q. S.zero_plus S.zero (end q))
      ∙ sum_ext_in S _ _ (lists (rows_to_go bytes u) rows)
      (λ rs i. ap (λ (x : S.W). cond (within allow 1 (map label_of rs) && settles u (map label_of rs)) x S.zero)
      (sym (weight_same S pass price (stops S end) (stops S cut) (λ s. s.state < n) (λ r. r.to < n) (λ s r d h e. rw (passed s r d e).leads h) stops_cut rs (all_rows _ rows leads rs (lists_in rows _ rs i).all) (begun bytes u).spot some_state)))
