-- Cells and labels that are those of a tree make the words of its table.
use Rattle.std.specs.Prelude.{◌≡◌, List, ℕ, zero, suc, ◌+◌, ◌≤◌, ◌<◌}
use Rattle.std.proofs.Common.{arith, ne_eqb}
use Rattle.pattern.specs.Grammar.{Pat, steps_of}
use Rattle.pattern.specs.Derivations.{labels_of, nth_label}
use Rattle.arcs.specs.Exact.{arc_of}
use Rattle.layout.specs.Words.{table_words, words_same}
use Rattle.emit.specs.Cells.{cell_at, arcs_in, labels_in, table_in}

module _ (cells labels : List ℕ) (nul K : ℕ) (a : Pat) (whole : nul ≡ arc_of a 0 0)
    (arcs : (x y : ℕ) → 0 < x + y → x ≤ steps_of a → y ≤ steps_of a → cell_at cells x y ≡ arc_of a x y)
    (does : (p : ℕ) → p < steps_of a → labels_in labels p ≡ nth_label (labels_of a) p) where
  arcs_are : (x y : ℕ) → x ≤ steps_of a → y ≤ steps_of a → arcs_in cells nul x y ≡ arc_of a x y
  arcs_are zero zero h k = whole
  arcs_are (suc x) zero h k = rw (ne_eqb (suc x) 0 (omega arith)) (arcs (suc x) 0 (omega arith) h k)
  arcs_are x (suc y) h k = arcs x (suc y) (omega arith) h k

  pub compiled_words : table_in cells labels nul (steps_of a) K ≡ table_words K a
  compiled_words = words_same (arcs_in cells nul) (arc_of a) (labels_in labels) (nth_label (labels_of a)) K (steps_of a) arcs_are does
