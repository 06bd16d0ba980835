-- The closing, loop by loop: a marker row at one setting, one row more, one setting less. A marker always raises the setting, so that
-- what it brings comes from cells that stay as they are.
use mathlib.Core.Path.{◌≡◌, refl, sym, ap, ap₂, ◌∙◌}
use mathlib.Core.Bool.{Bool, true, false, cond, ◌&&◌, not, and-false}
use mathlib.Core.List.{List, [], ◌∷◌, ◌++◌}
use Prim.Native.Nat.{ℕ, ◌+◌, ◌*◌, ◌/◌, ◌%◌, ◌^◌, ◌≤◌, ◌<◌}
use native.Mathlib.Omega.{arith}
use native.Mathlib.Decide.{ℕ_discrete, dec_lt}
use native.Mathlib.Nat.{one-le-pow}
use lib.ListN.{get_or}
use lib.Dec.{ltb, eqb}
use borrow.Author.Tests.{eq-eqb, ne_eqb, lt-ltb, le-ltb}
use Rattle.std.specs.Prelude.{Option, None, Some}
use Rattle.std.specs.Option.{is_some}
use Rattle.weight.specs.Weight.{mark, lighter_to, joint_to}
use Rattle.weight.specs.Semiring.{sum}
use Rattle.weight.specs.Sums.{sum_ext}
use Rattle.weight.specs.Tropical.{least, lighter_assoc, joint_cap}
use Rattle.setting.specs.Setting.{move_of, digit_of, Moves}
use Rattle.marks.specs.Labels.{is_byte}
use Rattle.table.specs.declared.Row.{Row}
use Rattle.table.specs.Table.{label_of}
use Rattle.togo.specs.ToGo.{marker}
use Rattle.togo.specs.Price.{base, cap}
use Rattle.layer.specs.declared.cells.Layer.{Layer}
use Rattle.layer.specs.Layer.{Cells, held, cells, carries, charge, Closed}
use Rattle.layer.specs.Parts.{Taken, OneClosed, ClosedAt}
use Rattle.layer.proofs.Grid.{cell_low, dead, lighter_cap, taken_other, taken_same, sum_snoc}

pub none_left : (o : Option ℕ) → ((x : ℕ) → o ≡ Some x → ⊥) → o ≡ None
none_left None f = refl
none_left (Some x) f = absurd (f x refl)

pub moves_up : (u m : ℕ) → u < 27 → u < move_of u m
unfolding move_of
moves_up u m h = go (ltb m 6 && eqb (digit_of u (m / 2)) (m % 2))
  where
    go : (b : Bool) → u < cond b (u + 3 ^ (m / 2)) 27
    go true = omega (arith, one-le-pow (m / 2) 3 (omega arith))
    go false = h

-- what the table of moves says of a row
pub moved : (t : List ℕ) (u m d : ℕ) (r : Row) → Moves t → u < 27 → (m ≡ marker r) × (m < 6) → d ≡ get_or t (u * 6 + m) 0 → d ≡ move_of u (marker r)
moved t u m d r moves hu e k = k ∙ moves.entry u m hu e.1 ∙ ap (move_of u) e.0

module _ (ts : List (Option ℕ)) (l : Cells) (q u : ℕ) (r : Row) where
  pub carries_byte : r.kind ≡ 0 → carries ts l q u r ≡ cap
  unfolding carries
  carries_byte e = rw (eq-eqb _ _ e)

  pub carries_out : 27 ≤ move_of u (marker r) → carries ts l q u r ≡ cap
  unfolding carries
  carries_out h = rw (le-ltb _ _ h, and-false)

  pub carries_shut : get_or ts (marker r) None ≡ None → carries ts l q u r ≡ cap
  unfolding carries
  carries_shut e = rw (e, and-false, and-false)

  pub carries_dead : l r.to (move_of u (marker r)) ≡ cap → carries ts l q u r ≡ cap
  unfolding carries
  carries_dead e = rw e (none_either (not (is_byte (label_of r)) && (ltb (move_of u (marker r)) 27 && (is_some (get_or ts (marker r) None) && eqb r.from q))))
    where
      none_either : (t : Bool) → cond t (joint_to cap (r.weight * base + charge (get_or ts (marker r) None)) cap) cap ≡ cap
      none_either true = joint_cap cap _
      none_either false = refl

module _ (ts : List (Option ℕ)) (r : Row) (u : ℕ) (new : Layer) where
  skip : ((q : ℕ) → carries ts (cells new) q u r ≡ cap) → OneClosed ts r u (cells new) (cells new)
  skip h = record { here = λ q. rw (h q) (sym (lighter_cap _ (cell_low new q u))); there = λ q w a d. refl }

  pub one_out : (d : ℕ) → d ≡ move_of u (marker r) → 27 ≤ d → OneClosed ts r u (cells new) (cells new)
  one_out d e h = skip (λ q. carries_out ts (cells new) q u r (rw e at h))

  pub one_dead : (d w k : ℕ) → d ≡ move_of u (marker r) → w * base + k ≡ held new (r.to * 27 + d) → w ≡ mark → OneClosed ts r u (cells new) (cells new)
  one_dead d w k ed ef e = skip (λ q. carries_dead ts (cells new) q u r (dead new r.to (move_of u (marker r)) w k (rw ed at ef) e))

  pub one_shut : (m : ℕ) → m ≡ marker r → get_or ts m None ≡ None → OneClosed ts r u (cells new) (cells new)
  one_shut m e h = skip (λ q. carries_shut ts (cells new) q u r (rw e at h))

  module _ (z : r.kind ≡ 0 → ⊥) (h : move_of u (marker r) < 27) (toll : ℕ) (a : get_or ts (marker r) None ≡ Some toll) (hu : u < 27) (last : Layer) (far : ℕ) (ef : far ≡ held new (r.to * 27 + move_of u (marker r)))
      (t : Taken (joint_to cap (r.weight * base + toll) far) (r.from * 27 + u) new last) where
    at_q : (q : ℕ) → Dec (r.from ≡ q) → cells last q u ≡ lighter_to cap (cells new q u) (carries ts (cells new) q u r)
    unfolding carries
    at_q q (yes s) =
        rw (ne_eqb _ _ z, lt-ltb _ _ h, a, eq-eqb _ _ s, ← s)
        (taken_same new last r.from u _ t new r.to (move_of u (marker r)) (r.weight * base + toll) (ap (joint_to cap (r.weight * base + toll)) ef))
    at_q q (no s) =
        rw (ne_eqb _ _ z, lt-ltb _ _ h, a, ne_eqb _ _ s)
        (taken_other new last r.from u _ t hu q u hu (λ e f. s (sym e)) ∙ sym (lighter_cap _ (cell_low new q u)))

    pub one_write : OneClosed ts r u (cells new) (cells last)
    one_write = record { here = λ q. at_q q (ℕ_discrete r.from q); there = λ q v b d. taken_other new last r.from u _ t hu q v b (λ e f. d f) }

-- what a marker row brings depends on the higher settings alone
carries_ext : (ts : List (Option ℕ)) (a b : Cells) (q u : ℕ) (r : Row) → u < 27 → ((s v : ℕ) → u < v → v < 27 → a s v ≡ b s v) → carries ts a q u r ≡ carries ts b q u r
unfolding carries
carries_ext ts a b q u r hu h = go (dec_lt (move_of u (marker r)) 27)
  where
    go : Dec (move_of u (marker r) < 27) → carries ts a q u r ≡ carries ts b q u r
    go (yes l) = rw (h r.to (move_of u (marker r)) (moves_up u (marker r) hu) l)
    go (no l) = rw (le-ltb (move_of u (marker r)) 27 (omega arith), and-false)

module _ (ts : List (Option ℕ)) where
  pub at_none : (u : ℕ) (new : Layer) → ClosedAt ts [] u (cells new) (cells new)
  unfolding sum
  at_none u new = record { here = λ q. sym (lighter_cap _ (cell_low new q u)); there = λ q w a d. refl }

  pub at_more : (rows : List Row) (r : Row) (u : ℕ) (new mid last : Cells) → u < 27 → ClosedAt ts rows u new mid → OneClosed ts r u mid last → ClosedAt ts (rows ++ (r ∷ [])) u new last
  at_more rows r u new mid last hu all one =
      record {
        here =
            λ q.
            one.here q
            ∙ ap₂ (lighter_to cap) (all.here q) (carries_ext ts mid new q u r hu (λ s v a b. all.there s v b (λ k. omega arith)))
            ∙ lighter_assoc cap (new q u) (sum (least cap) (carries ts new q u) rows) (carries ts new q u r)
            ∙ ap (lighter_to cap (new q u)) (sym (sum_snoc (carries ts new q u) rows r));
        there = λ q w a d. one.there q w a d ∙ all.there q w a d;
      }

  pub closed_none : (rows : List Row) (new : Cells) → Closed 27 ts rows new new
  closed_none rows new = record { cell = λ q u a b. absurd (omega arith); kept = λ q u a b. refl }

  pub closed_more : (rows : List Row) (u w : ℕ) (new mid last : Cells) → w ≡ u + 1 → u < 27 → Closed w ts rows new mid → ClosedAt ts rows u mid last → Closed u ts rows new last
  closed_more rows u w new mid last ew hu all one =
      record {
        cell = λ q v a b. at_v q v a b (ℕ_discrete v u);
        kept = λ q v a b. one.there q v b (λ k. omega arith) ∙ all.kept q v (omega arith) b;
      }
    where
      same : (s v : ℕ) → u < v → v < 27 → mid s v ≡ last s v
      same s v a b = sym (one.there s v b (λ k. omega arith))

      at_v : (q v : ℕ) → u ≤ v → v < 27 → Dec (v ≡ u) → last q v ≡ lighter_to cap (new q v) (sum (least cap) (carries ts last q v) rows)
      at_v q v a b (yes k) =
          rw k
          (one.here q
          ∙ ap₂ (lighter_to cap) (all.kept q u (omega arith) hu) (sum_ext (least cap) _ _ rows (λ r. carries_ext ts mid last q u r hu same)))
      at_v q v a b (no k) =
          one.there q v b k
          ∙ all.cell q v (omega arith) b
          ∙ ap (lighter_to cap (new q v)) (sum_ext (least cap) _ _ rows (λ r. carries_ext ts mid last q v r b (λ s x c d. same s x (omega arith) d)))
