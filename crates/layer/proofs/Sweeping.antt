-- The layer of a line's end, and a step of the sweep over the line.
use mathlib.Core.Path.{◌≡◌, refl, ap, ◌∙◌}
use mathlib.Core.Bool.{Bool, cond}
use mathlib.Core.List.{List, []}
use Prim.Native.Nat.{ℕ, suc, ◌+◌, ◌*◌, ◌≤◌, ◌<◌, min}
use native.Mathlib.Omega.{arith}
use native.Mathlib.Decide.{ℕ_discrete}
use lib.Dec.{eqb}
use lib.ListN.{length, get_or, drop}
use lib.Seq.{drop-cons, drop-length}
use Rattle.std.specs.Prelude.{Option}
use Rattle.std.proofs.Common.{add-zero}
use borrow.Author.Count.{below_more}
use borrow.Author.Tests.{eq-eqb, ne_eqb}
use Rattle.weight.specs.Weight.{lighter_to}
use Rattle.setting.specs.Setting.{begin}
use Rattle.setting.specs.Settled.{begin_low}
use Rattle.table.specs.Table.{Automaton, RightTable, automaton_of}
use Rattle.table.specs.Rows.{rows_right}
use Rattle.togo.specs.Price.{base, cap, big_end, answer}
use Rattle.layer.specs.declared.cells.Layer.{Layer}
use Rattle.layer.specs.Layer.{Cells, held, cells, Empty, Tolls, Relaxed, Closed, Right}
use Rattle.layer.specs.Parts.{Written, Ended, Stepped}
use Rattle.layer.proofs.Grid.{apart}
use Rattle.layer.proofs.Rightness.{right_byte, right_end}

pub ended_none : (ws : List ℕ) (new : Layer) → Ended ws 0 new new
ended_none ws new = record { word = λ q h. absurd (omega arith); kept = λ q u h. refl }

pub ended_more : (ws : List ℕ) (new mid last : Layer) (q w : ℕ) → w ≡ (automaton_of ws).end q → Ended ws q new mid → Written (w * base + 0) (q * 27 + 26) mid last → Ended ws (q + 1) new last
ended_more ws new mid last q w e all one =
    record {
      word = below_more _ q (λ s h. one.others (s * 27 + 26) (omega arith) ∙ all.word s h) (one.cell ∙ add-zero (w * base) ∙ ap (λ (z : ℕ). z * base) e);
      kept = λ s u h. one.others (s * 27 + u) (apart s q u 26 (omega arith) (omega arith) (λ f g. omega arith)) ∙ all.kept s u h;
    }

cap_cut : min cap cap ≡ cap
cap_cut = omega arith

-- cells of an empty layer
pub blank : (l : Layer) → Empty l → (q u : ℕ) → q < 32 → u < 27 → cells l q u ≡ cap
unfolding cells
blank l e q u hq hu = rw (e.none (q * 27 + u) (omega arith)) cap_cut

few_states : (ws : List ℕ) → RightTable ws → (automaton_of ws).states ≤ 32
unfolding automaton_of
few_states ws t = t.states

few_vars : (ws : List ℕ) → RightTable ws → (automaton_of ws).vars ≤ 3
unfolding automaton_of
few_vars ws t = t.vars

ended : (ws : List ℕ) (new last : Layer) → RightTable ws → Empty new → Ended ws (automaton_of ws).states new last → (q u : ℕ) → q < (automaton_of ws).states → u < 27 → cells last q u ≡ cond (eqb u 26) (big_end (automaton_of ws) q) cap
unfolding cells big_end
ended ws new last t none e q u hq hu = go (ℕ_discrete u 26)
  where
    go : Dec (u ≡ 26) → cells last q u ≡ cond (eqb u 26) (big_end (automaton_of ws) q) cap
    go (yes k) = rw (eq-eqb _ _ k, k, e.word q hq)
    go (no k) = rw (ne_eqb _ _ k, e.kept q u (omega arith), none.none (q * 27 + u) (omega (arith, few_states ws t))) cap_cut

module _ (ws : List ℕ) (t : RightTable ws) (allow : ℕ → ℕ → Bool) (ts : List (Option ℕ)) (p : ℕ) (tolls : Tolls allow p ts) (hp : p ≤ 1025) (low : ℕ) (el : low ≡ begin (automaton_of ws).vars) (new : Layer) (empty : Empty new) (last : Cells) where
  pub end_right : (mid : Layer) → Ended ws (automaton_of ws).states new mid → Closed low ts (automaton_of ws).rows (cells mid) last → Right allow (automaton_of ws) [] p last
  unfolding automaton_of
  end_right mid e closed = right_end allow (automaton_of ws) (few_vars ws t) (rows_right ws t) ts p tolls hp _ last (rw el at closed) (ended ws new mid t empty e)

  pub stepped : (b : ℕ) (old mid : Cells) → Relaxed low b (automaton_of ws).rows old (cells new) mid → Closed low ts (automaton_of ws).rows mid last → Stepped allow (automaton_of ws) p b old last
  unfolding automaton_of
  stepped b old mid relaxed closed =
      record {
        then =
            λ bs r.
            right_byte allow (automaton_of ws) t.vars (rows_right ws t) ts p tolls hp mid last (rw el at closed) bs b old (cells new) r (λ q u hq hu. blank new empty q u (omega (arith, t.states)) hu) (rw el at relaxed);
      }

-- the line, from its end
module _ (allow : ℕ → ℕ → Bool) (A : Automaton) (line : List ℕ) where
  pub swept_none : (l : Cells) → Right allow A [] (length line + 1) l → Right allow A (drop (length line) line) (length line + 1) l
  swept_none l r = rw drop-length r

  pub swept_more : (i j b : ℕ) (mid last : Cells) → i ≡ j + 1 → j < length line → b ≡ get_or line j 0 → Right allow A (drop i line) (i + 1) mid → Stepped allow A (j + 1) b mid last → Right allow A (drop j line) (j + 1) last
  swept_more i j b mid last e h eb all one =
      let p : i + 1 ≡ j + 1 + 1 = omega arith in
      let d : i ≡ suc j = omega arith in
      rw (drop-cons line j 0 h, ← eb) (one.then (drop (suc j) line) (rw (p, d) at all))

-- the cell to answer with
pub answered : (ws line : List ℕ) (l : Layer) (allow : ℕ → ℕ → Bool) (low far v : ℕ) → RightTable ws → low ≡ begin (automaton_of ws).vars → Right allow (automaton_of ws) line 1 (cells l) → far ≡ held l low → v ≡ lighter_to cap cap far → v ≡ answer allow (automaton_of ws) line
unfolding answer automaton_of cells lighter_to
answered ws line l allow low far v t e r f k =
    k ∙ cut far ∙ ap (min cap) f ∙ ap (λ (i : ℕ). min cap (held l i)) (e ∙ first (begin (get_or ws 1 0))) ∙ r.cell 0 (begin (get_or ws 1 0)) (omega (arith, t.some_state)) (omega arith) (begin_low (get_or ws 1 0) t.vars)
  where
    cut : (x : ℕ) → min cap (min cap x) ≡ min cap x
    cut x = omega arith

    first : (x : ℕ) → x ≡ 0 * 27 + x
    first x = omega arith
