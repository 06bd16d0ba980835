-- A valid run has as many rows as the line has bytes and two for each variable.
--
-- settled_length      what is left of a run has a row for each byte that is left and one for each marker that its setting has not had
-- valid_rows          THE THEOREM
use Rattle.std.specs.Prelude.{◌≡◌, refl, true, List, [], ◌∷◌, ℕ, ◌+◌, ◌*◌, ◌≤◌, ◌<◌, length}
use Rattle.std.proofs.Common.{sym, ◌∙◌, arith, eq-eqb, ne_eqb}
use Rattle.std.proofs.lemmas.Bool.{false≢true}
use Rattle.std.proofs.lemmas.List.{length-map}
use Rattle.basics.specs.Every.{and_true}
use Rattle.basics.specs.Lists.{All}
use Rattle.marks.specs.Labels.{Label, reads, spells, valid}
use Rattle.setting.specs.Setting.{marker_of, begin}
use Rattle.setting.specs.Settled.{Settled, shut, over, took, settle, had, move_had, begin_had, begin_low, Right, settles_valid}
use Rattle.table.specs.Table.{Automaton, label_of}
use Rattle.runs.specs.Runs.{Run, nth_row, rows_of, labels, valid_run}

pub settled_length : {u : ℕ} {ls : List Label} → Settled u ls → u < 27 → (line : List ℕ) → spells ls line ≡ true → length ls + had u ≡ length line + 6
unfolding spells
settled_length shut h [] e = refl
settled_length shut h (b ∷ bs) e = absurd (false≢true e)
settled_length (over k s) h [] e = absurd (false≢true (rw (eq-eqb _ _ k) at e))
settled_length (over {l = l} {ls = ls} k s) h (b ∷ bs) e =
    let p = and_true (reads l b) (spells ls bs) (rw (eq-eqb _ _ k) at e) in
    omega (arith, settled_length s h bs p.1)
settled_length (took {l = l} {ls = ls} {u = u} k j m s) h [] e =
    omega (arith, settled_length s m [] (rw (ne_eqb _ _ k) at e), move_had u (marker_of l) h j m)
settled_length (took {l = l} {ls = ls} {u = u} k j m s) h (b ∷ bs) e =
    omega (arith, settled_length s m (b ∷ bs) (rw (ne_eqb _ _ k) at e), move_had u (marker_of l) h j m)

pub valid_length : (K : ℕ) → K ≤ 3 → (ls : List Label) → All (Right K) ls → (line : List ℕ) → spells ls line ≡ true → valid K ls ≡ true → length ls ≡ length line + 2 * K
valid_length K hK ls a line e v =
    let s = settled_length (settle ls (begin K) (settles_valid K hK ls a ∙ v)) (begin_low K hK) line e in
    omega (arith, begin_had K hK, s)

pub valid_rows : (A : Automaton) → A.vars ≤ 3 → (line : List ℕ) (r : Run) → All (Right A.vars) (labels A r) → valid_run A line r ≡ true → length r.takes ≡ length line + 2 * A.vars
unfolding valid_run
valid_rows A hK line r a e =
    let p = and_true (spells (labels A r) line) (valid A.vars (labels A r)) e in
    sym (length-map (rows_of A r.takes) label_of ∙ length-map r.takes (nth_row A.rows)) ∙ valid_length A.vars hK (labels A r) a line p.0 p.1
