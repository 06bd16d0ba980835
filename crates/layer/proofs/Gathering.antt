-- The marker rows of a table, gathered row by row; a sum over them is a sum over all rows. And the six tolls of a position.
use mathlib.Core.Path.{◌≡◌, refl, sym, ap, ap₂, ◌∙◌}
use mathlib.Core.List.{List, [], ◌∷◌, ◌++◌, map, map-append}
use Prim.Native.Nat.{ℕ, zero, suc, ◌+◌, ◌*◌, ◌<◌}
use native.Mathlib.Omega.{arith}
use native.Mathlib.Numerals.{add-one}
use lib.ListN.{length, get_or, take, set}
use lib.Seq.{take-suc, take-suc-set}
use Rattle.std.specs.Prelude.{Option}
use Rattle.basics.specs.Lists.{All}
use Rattle.weight.specs.Weight.{lighter_to}
use Rattle.weight.specs.Semiring.{sum}
use Rattle.weight.specs.Tropical.{least, sum_cap}
use Rattle.table.specs.declared.Row.{Row}
use Rattle.table.specs.Table.{row_of_words, rows_from, RightRow, RightTable, automaton_of}
use Rattle.table.specs.Rows.{rows_more, table_rows, table_row, table_room, widened}
use Rattle.togo.specs.Price.{cap}
use Rattle.layer.specs.Layer.{Cells, carries, MarkerAt, Markers, Closed}
use Rattle.layer.proofs.Grid.{lighter_cap, sum_snoc}
use Rattle.layer.specs.Parts.{OneClosed, ClosedAt}
use Rattle.layer.proofs.Closing.{carries_byte, at_more}

all_snoc : {A : Type 0} (P : A → Type 0) (xs : List A) (x : A) → All P xs → P x → All P (xs ++ (x ∷ []))
all_snoc P [] x a p = (p, tt)
all_snoc P (y ∷ xs) x a p = (a.0, all_snoc P xs x a.1 p)

pub all_at : (P : ℕ → Type 0) (xs : List ℕ) → All P xs → (i : ℕ) → i < length xs → P (get_or xs i 0)
all_at P [] a i h = absurd (omega arith)
all_at P (x ∷ xs) a zero h = a.0
all_at P (x ∷ xs) a (suc i) h = all_at P xs a.1 i (omega arith)

module _ (ws : List ℕ) where
  pub markers_none : Markers ws 0 []
  unfolding sum rows_from
  markers_none = record { each = tt; sums = λ f h. refl }

  pub markers_skip : (i at : ℕ) (offs : List ℕ) → at ≡ 3 + get_or ws 0 0 + 5 * i → get_or ws (at + 2) 0 ≡ 0 → Markers ws i offs → Markers ws (i + 1) offs
  markers_skip i at offs e z m =
      record {
        each = m.each;
        sums =
            λ f h.
            m.sums f h
            ∙ sym (lighter_cap _ (sum_cap cap f (rows_from ws (3 + get_or ws 0 0) i)))
            ∙ ap (lighter_to cap (sum (least cap) f (rows_from ws (3 + get_or ws 0 0) i))) (sym (h (row_of_words ws (3 + get_or ws 0 0 + 5 * i)) (rw e at z)))
            ∙ sym (sum_snoc f (rows_from ws (3 + get_or ws 0 0) i) (row_of_words ws (3 + get_or ws 0 0 + 5 * i)))
            ∙ ap (sum (least cap) f) (sym (rows_more ws (3 + get_or ws 0 0) i));
      }

  pub markers_more : (i at : ℕ) (offs : List ℕ) → at ≡ 3 + get_or ws 0 0 + 5 * i → MarkerAt ws at → Markers ws i offs → Markers ws (i + 1) (offs ++ (at ∷ []))
  markers_more i at offs e k m =
      record {
        each = all_snoc (MarkerAt ws) offs at m.each k;
        sums =
            λ f h.
            ap (sum (least cap) f) (map-append (row_of_words ws) offs (at ∷ []))
            ∙ sum_snoc f (map (row_of_words ws) offs) (row_of_words ws at)
            ∙ ap₂ (lighter_to cap) (m.sums f h) (ap (λ (z : ℕ). f (row_of_words ws z)) e)
            ∙ sym (sum_snoc f (rows_from ws (3 + get_or ws 0 0) i) (row_of_words ws (3 + get_or ws 0 0 + 5 * i)))
            ∙ ap (sum (least cap) f) (sym (rows_more ws (3 + get_or ws 0 0) i));
      }

  -- as the loop writes them: row i is passed over, or where it starts is written
  word_kind : (i : ℕ) (r : Row) → i < length (automaton_of ws).rows → r ≡ get_or (automaton_of ws).rows i r → get_or ws (3 + get_or ws 0 0 + 5 * i + 2) 0 ≡ r.kind
  word_kind i r h e = ap (λ (r : Row). r.kind) (sym (e ∙ table_row ws i r h))

  pub gather_skip : (i count : ℕ) (marks : List ℕ) (r : Row) → i < length (automaton_of ws).rows → r ≡ get_or (automaton_of ws).rows i r → r.kind ≡ 0 → Markers ws i (take count marks) → Markers ws (i + 1) (take count marks)
  gather_skip i count marks r h e z m = markers_skip i (3 + get_or ws 0 0 + 5 * i) (take count marks) refl (word_kind i r h e ∙ z) m

  pub gather_more : (i at count : ℕ) (marks : List ℕ) (r : Row) → RightTable ws → i < length (automaton_of ws).rows → r ≡ get_or (automaton_of ws).rows i r → (r.kind ≡ 0 → ⊥) → at ≡ 3 + (automaton_of ws).states + 5 * i → count < length marks → Markers ws i (take count marks) → Markers ws (i + 1) (take (count + 1) (set marks count at))
  unfolding automaton_of
  gather_more i at count marks r t h e z f room m = rw (add-one count, take-suc-set marks count at room) (markers_more i at (take count marks) f marker m)
    where
      marker : MarkerAt ws at
      marker = record { inside = rw f (table_room ws i t h); row = rw f (t.right i (rw (table_rows ws) at h)); marks = λ k. z (sym (word_kind i r h e) ∙ (rw f at k)) }

  -- a closing under the marker rows is one under all rows
  pub closed_all : (low : ℕ) (ts : List (Option ℕ)) (offs : List ℕ) (new last : Cells) → Markers ws (get_or ws 2 0) offs → Closed low ts (map (row_of_words ws) offs) new last → Closed low ts (automaton_of ws).rows new last
  unfolding automaton_of
  closed_all low ts offs new last m closed =
      record {
        cell = λ q u a b. closed.cell q u a b ∙ ap (lighter_to cap (new q u)) (m.sums (carries ts last q u) (λ r z. carries_byte ts last q u r z));
        kept = closed.kept;
      }

pub marker_row : (ws : List ℕ) (at : ℕ) (r : Row) → RightTable ws → MarkerAt ws at → r ≡ row_of_words ws at → RightRow 32 3 r × (r.kind ≡ 0 → ⊥)
marker_row ws at r t m e = rw e (widened ws _ t m.row, m.marks)

-- one marker row more is closed under
pub at_row : (ws : List ℕ) (ts : List (Option ℕ)) (offs : List ℕ) (i at : ℕ) (r : Row) (u : ℕ) (new mid last : Cells) → u < 27 → i < length offs → at ≡ get_or offs i 0 → r ≡ row_of_words ws at → ClosedAt ts (map (row_of_words ws) (take i offs)) u new mid → OneClosed ts r u mid last → ClosedAt ts (map (row_of_words ws) (take (i + 1) offs)) u new last
at_row ws ts offs i at r u new mid last hu h e er all one =
    rw (add-one i, take-suc offs i 0 h, map-append (row_of_words ws) (take i offs) (get_or offs i 0 ∷ []))
    (at_more ts (map (row_of_words ws) (take i offs)) (row_of_words ws (get_or offs i 0)) u new mid last hu all (rw (er, e) at one))
