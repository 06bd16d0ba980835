-- MEANING. What `emit` reads and what it leaves. Definitions only.
--
-- cell_at cells x y    the arc from x to y, at x × 32 + y
-- arcs_in cells nul    the arcs, where that from 0 to 0 is nul: the weight of a text for no step
-- labels_in labels p   what step p does, p from 0: its kind at 2p, its argument at 2p + 1
-- table_in             the words of the table that they make
-- Emits ws old r new  r says that ws are written: at the exit the room is ws and, after them, the words that stood there at the entry;
--                     or that the room is shorter than ws, and how long they are: then the room is as it was
use Rattle.std.specs.Prelude.{◌≡◌, cond, Result, Ok, Err, List, ◌++◌, ℕ, zero, suc, ◌+◌, ◌*◌, ◌≤◌, ◌<◌, eqb, length, get_or, drop}
use Rattle.marks.specs.Labels.{Label}
use Rattle.layout.specs.Words.{words_of}
use Rattle.refusal.specs.declared.Refusal.{Refusal}
use Rattle.refusal.specs.declared.Refusal.TheVariants.{ShortRoom}

abbrev pub cell_at : List ℕ → ℕ → ℕ → ℕ
cell_at cells x y = get_or cells (x * 32 + y) 0

abbrev pub arcs_in : List ℕ → ℕ → ℕ → ℕ → ℕ
arcs_in cells nul x zero = cond (eqb x 0) nul (cell_at cells x 0)
arcs_in cells nul x (suc y) = cell_at cells x (suc y)

abbrev pub labels_in : List ℕ → ℕ → Label
labels_in labels p = record { kind = get_or labels (2 * p) 0; argument = get_or labels (2 * p + 1) 0 }

abbrev pub table_in : List ℕ → List ℕ → ℕ → ℕ → ℕ → List ℕ
table_in cells labels nul steps k = words_of (arcs_in cells nul) (labels_in labels) k steps

pub data Emits (ws old : List ℕ) : Result ℕ Refusal → List ℕ → Type 0 where
  written : {n : ℕ} {new : List ℕ} → n ≡ length ws → length ws ≤ length old → new ≡ ws ++ drop (length ws) old → Emits ws old (Ok n) new
  short : {n : ℕ} {new : List ℕ} → n ≡ length ws → length old < length ws → new ≡ old → Emits ws old (Err (ShortRoom n)) new
