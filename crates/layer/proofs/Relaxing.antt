-- The byte step, loop by loop: a row at one setting more, a row, one row more.
use mathlib.Core.Path.{◌≡◌, refl, sym, ap, ap₂, ◌∙◌}
use mathlib.Core.Bool.{Bool, true, false, cond, ◌&&◌, false≢true}
use mathlib.Core.List.{List, [], ◌∷◌, ◌++◌}
use Prim.Native.Nat.{ℕ, ◌+◌, ◌*◌, ◌≤◌, ◌<◌}
use native.Mathlib.Omega.{arith}
use native.Mathlib.Decide.{ℕ_discrete}
use lib.ListN.{length, get_or, take}
use lib.Seq.{take-suc}
use native.Mathlib.Numerals.{add-one}
use lib.Dec.{eqb}
use borrow.Author.Tests.{eq-eqb, ne_eqb}
use Rattle.weight.specs.Weight.{mark, lighter_to, joint_to}
use Rattle.weight.specs.Semiring.{sum}
use Rattle.weight.specs.Tropical.{least, lighter_assoc, joint_cap}
use Rattle.basics.specs.Every.{and_true}
use Rattle.marks.specs.Labels.{is_byte, reads}
use Rattle.table.specs.declared.Row.{Row}
use Rattle.table.specs.Table.{label_of}
use Rattle.togo.specs.Price.{base, cap}
use Rattle.layer.specs.declared.cells.Layer.{Layer}
use Rattle.layer.specs.Layer.{Cells, held, cells, brings, Relaxed}
use Rattle.layer.specs.Parts.{Taken, RowRelaxed, OneRelaxed}
use Rattle.layer.proofs.Grid.{cell_low, dead, lighter_cap, taken_other, taken_same, sum_snoc}

pub row_none : (low from to price : ℕ) (old new : Cells) → RowRelaxed low from to price low old new new
row_none low from to price old new = record { done = λ u l h. absurd (omega arith); kept = λ q u h d. refl }

module _ (low from to price u : ℕ) (old : Layer) (new : Cells) (mid : Layer) (r : RowRelaxed low from to price u (cells old) new (cells mid)) (hu : u < 27) where
  pub row_more : (last : Layer) (far : ℕ) → far ≡ held old (to * 27 + u) → Taken (joint_to cap price far) (from * 27 + u) mid last → RowRelaxed low from to price (u + 1) (cells old) new (cells last)
  row_more last far ef t =
      record {
        done = λ v l h. at_v v l h (ℕ_discrete v u);
        kept = λ q v h d. taken_other mid last from u _ t hu q v h (λ e f. let g = d e in omega arith) ∙ r.kept q v h (λ e. let g = d e in omega arith);
      }
    where
      now_u : cells last from u ≡ lighter_to cap (new from u) (joint_to cap price (cells old to u))
      now_u = taken_same mid last from u _ t old to u price (ap (joint_to cap price) ef) ∙ ap (λ (z : ℕ). lighter_to cap z (joint_to cap price (cells old to u))) (r.kept from u hu (λ e. omega arith))

      at_v : (v : ℕ) → low ≤ v → v < u + 1 → Dec (v ≡ u) → cells last from v ≡ lighter_to cap (new from v) (joint_to cap price (cells old to v))
      at_v v l h (yes e) = rw e now_u
      at_v v l h (no d) = taken_other mid last from u _ t hu from v (omega arith) (λ e f. d f) ∙ r.done v l (omega arith)

  pub row_skip : (w k : ℕ) → w * base + k ≡ held old (to * 27 + u) → w ≡ mark → RowRelaxed low from to price (u + 1) (cells old) new (cells mid)
  row_skip w k ef e = record { done = λ v l h. at_v v l h (ℕ_discrete v u); kept = λ q v h d. r.kept q v h (λ e. let g = d e in omega arith) }
    where
      now_u : cells mid from u ≡ lighter_to cap (new from u) (joint_to cap price (cells old to u))
      now_u =
          sym (lighter_cap _ (cell_low mid from u))
          ∙ ap₂ (lighter_to cap) (r.kept from u hu (λ e. omega arith)) (sym (ap (joint_to cap price) (dead old to u w k ef e) ∙ joint_cap cap price))

      at_v : (v : ℕ) → low ≤ v → v < u + 1 → Dec (v ≡ u) → cells mid from v ≡ lighter_to cap (new from v) (joint_to cap price (cells old to v))
      at_v v l h (yes e) = rw e now_u
      at_v v l h (no d) = r.done v l (omega arith)

-- a row that does not read the byte brings nothing anywhere
pub one_no : (low b : ℕ) (r : Row) (old : Cells) (new : Layer) → (is_byte (label_of r) && reads (label_of r) b) ≡ false → OneRelaxed low b r old (cells new) (cells new)
unfolding brings
one_no low b r old new e = record { cell = λ q u l h. go q u (is_byte (label_of r)) (reads (label_of r) b) e }
  where
    go : (q u : ℕ) (i s : Bool) → (i && s) ≡ false → cells new q u ≡ lighter_to cap (cells new q u) (cond (i && (s && eqb r.from q)) (joint_to cap (r.weight * base) (old r.to u)) cap)
    go q u false s e = sym (lighter_cap _ (cell_low new q u))
    go q u true false e = sym (lighter_cap _ (cell_low new q u))
    go q u true true e = absurd (false≢true (sym e))

plain : (x : ℕ) → x + 0 ≡ x
plain x = omega arith

module _ (low b : ℕ) (r : Row) (old : Cells) (new : Layer) (last : Cells) (e : (is_byte (label_of r) && reads (label_of r) b) ≡ true) (t : RowRelaxed low r.from r.to (r.weight * base + 0) 27 old (cells new) last) where
  parts : (is_byte (label_of r) ≡ true) × (reads (label_of r) b ≡ true)
  parts = and_true _ _ e

  one_cell : (q u : ℕ) → low ≤ u → u < 27 → Dec (r.from ≡ q) → last q u ≡ lighter_to cap (cells new q u) (brings b old q u r)
  unfolding brings
  one_cell q u l h (yes s) = rw (parts.0, parts.1, eq-eqb _ _ s, ← s) (t.done u l h ∙ ap (λ (z : ℕ). lighter_to cap (cells new r.from u) (joint_to cap z (old r.to u))) (plain (r.weight * base)))
  one_cell q u l h (no d) = rw (parts.0, parts.1, ne_eqb _ _ d) (t.kept q u h (λ s. absurd (d (sym s))) ∙ sym (lighter_cap _ (cell_low new q u)))

  pub one_yes : OneRelaxed low b r old (cells new) last
  one_yes = record { cell = λ q u l h. one_cell q u l h (ℕ_discrete r.from q) }

pub relaxed_none : (low b : ℕ) (old : Cells) (new : Layer) → Relaxed low b [] old (cells new) (cells new)
unfolding sum
relaxed_none low b old new = record { cell = λ q u l h. sym (lighter_cap _ (cell_low new q u)) }

pub relaxed_more : (low b : ℕ) (rows : List Row) (r : Row) (old new mid last : Cells) → Relaxed low b rows old new mid → OneRelaxed low b r old mid last → Relaxed low b (rows ++ (r ∷ [])) old new last
relaxed_more low b rows r old new mid last all one =
    record {
      cell =
          λ q u l h.
          one.cell q u l h
          ∙ ap (λ (z : ℕ). lighter_to cap z (brings b old q u r)) (all.cell q u l h)
          ∙ lighter_assoc cap (new q u) (sum (least cap) (brings b old q u) rows) (brings b old q u r)
          ∙ ap (lighter_to cap (new q u)) (sym (sum_snoc (brings b old q u) rows r));
    }

-- row i is the last of the first i + 1
pub relaxed_row : (rows : List Row) (i low b : ℕ) (r : Row) (old new mid last : Cells) → i < length rows → r ≡ get_or rows i r → Relaxed low b (take i rows) old new mid → OneRelaxed low b r old mid last → Relaxed low b (take (i + 1) rows) old new last
relaxed_row rows i low b r old new mid last h e all one = rw (add-one, take-suc rows i r h, ← e) (relaxed_more low b (take i rows) r old new mid last all one)
