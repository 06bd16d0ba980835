-- The three parts of a table, written one after another, are the table.
use Rattle.std.specs.Prelude.{Ok, Err}
use mathlib.Core.Path.{◌≡◌, refl, sym, ap, ◌∙◌}
use mathlib.Core.List.{List, [], ◌∷◌, ◌++◌}
use Prim.Native.Nat.{ℕ, suc, ◌+◌, ◌*◌, ◌≤◌, ◌<◌}
use native.Mathlib.Numerals.{add-one}
use native.Mathlib.Omega.{arith}
use lib.ListN.{length, drop}
use lib.Seq.{sets-eq}
use Rattle.refusal.specs.declared.Refusal.TheVariants.{ShortRoom}
use Rattle.marks.specs.Labels.{Label}
use Rattle.layout.specs.Gather.{gather_same}
use Rattle.layout.specs.Words.{arrow, rows_of, ends_of, words_of, spread_length, words_of_length}
use Rattle.emit.specs.Cells.{cell_at, arcs_in, labels_in, table_in, Emits, written, short}
use Rattle.emit.specs.Wrote.{row_words, Wrote, wrote_more, rows_words}

-- the rows do not look at the weight of no step
rows_arcs : (cells : List ℕ) (nul : ℕ) (L : ℕ → Label) (m : ℕ) → rows_of (arcs_in cells nul) L m ≡ rows_of (cell_at cells) L m
unfolding arrow
rows_arcs cells nul L m = gather_same _ _ (suc m) (λ x h. gather_same _ _ m (λ p g. one x p))
  where
    one : (x p : ℕ) → arrow (arcs_in cells nul) L x p ≡ arrow (cell_at cells) L x p
    one x p = refl

module _ (cells labels : List ℕ) (nul steps k rows : ℕ) (counted : rows ≡ length (rows_of (cell_at cells) (labels_in labels) steps)) where
  table_is : table_in cells labels nul steps k ≡ (steps + 1) ∷ k ∷ rows ∷ (ends_of (arcs_in cells nul) (suc steps) ++ row_words (cell_at cells) (labels_in labels) steps)
  unfolding words_of
  table_is = rw (add-one steps, rows_arcs cells nul (labels_in labels) steps, ← counted, rows_words (cell_at cells) (labels_in labels) steps)

  pub rows_long : length (row_words (cell_at cells) (labels_in labels) steps) ≡ 5 * rows
  rows_long = ap length (sym (rows_words (cell_at cells) (labels_in labels) steps)) ∙ spread_length (rows_of (cell_at cells) (labels_in labels) steps) ∙ ap (λ (n : ℕ). 5 * n) (sym counted)

  table_long : length (table_in cells labels nul steps k) ≡ 3 + (steps + 1) + 5 * rows
  table_long =
      let e : length (rows_of (arcs_in cells nul) (labels_in labels) steps) ≡ rows = ap length (rows_arcs cells nul (labels_in labels) steps) ∙ sym counted in
      words_of_length (arcs_in cells nul) (labels_in labels) k steps ∙ (omega arith)

  pub too_short : (old : List ℕ) → length old < 3 + (steps + 1) + 5 * rows → Emits (table_in cells labels nul steps k) old (Err (ShortRoom (3 + (steps + 1) + 5 * rows))) old
  too_short old h = short (sym table_long) (omega (arith, table_long)) refl

  pub all_written : (old a b new : List ℕ) (i j end : ℕ) → 3 + (steps + 1) + 5 * rows ≤ length old
      → Wrote 0 ((steps + 1) ∷ k ∷ rows ∷ []) old a i
      → Wrote i (ends_of (arcs_in cells nul) (suc steps)) a b j
      → Wrote j (row_words (cell_at cells) (labels_in labels) steps) b new end
      → Emits (table_in cells labels nul steps k) old (Ok (3 + (steps + 1) + 5 * rows)) new
  all_written old a b new i j end h p q r =
      let fits : length (table_in cells labels nul steps k) ≤ length old = omega (arith, table_long) in
      let w : Wrote 0 (table_in cells labels nul steps k) old new end = rw table_is (wrote_more p (wrote_more q r)) in
      let z : 0 + length (table_in cells labels nul steps k) ≡ length (table_in cells labels nul steps k) = omega arith in
      written (sym table_long) fits (w.is ∙ sets-eq (table_in cells labels nul steps k) old 0 (omega arith) ∙ ap (λ (n : ℕ). table_in cells labels nul steps k ++ drop n old) z)
