-- The rows of one state, counted; and what one turn of each loop adds: to the rows counted, to the words written.
use Rattle.std.specs.Prelude.{slice_range, count_by}
use Rattle.std.proofs.Common.{get_or-drop, length-drop, length-take, append_assoc}
use Rattle.std.proofs.lemmas.List.Sums.{sum_by_more, count_by-le-length}
use Rattle.std.proofs.lemmas.List.Edits.{sets-eq, paste_all}
use Rattle.std.proofs.lemmas.Slice.{put_mid-paste}
use borrow.Rule.Slice.PartMut.{put_mid}
use mathlib.Core.Path.{◌≡◌, refl, sym, ap, ◌∙◌}
use mathlib.Core.Bool.{Bool, true, false, cond}
use mathlib.Core.List.{List, [], ◌∷◌, ◌++◌}
use Prim.Native.Nat.{ℕ, zero, suc, ◌+◌, ◌-◌, ◌*◌, ◌≤◌, ◌<◌}
use native.Mathlib.Numerals.{add-one}
use native.Mathlib.Omega.{arith}
use lib.Dec.{ltb}
use lib.ListN.{length, get_or, take, drop, length-append}
use borrow.Author.Tests.{lt-ltb, le-ltb}
use Rattle.weight.specs.Weight.{mark}
use Rattle.marks.specs.Labels.{Label}
use Rattle.table.specs.declared.Row.{Row}
use Rattle.layout.specs.Gather.{gather}
use Rattle.layout.specs.Words.{row_of, arrow, rows_for, spread}
use Rattle.emit.specs.Cells.{cell_at, labels_in}
use Rattle.emit.specs.declared.writer.Writer.{Writer}
use Rattle.emit.specs.Wrote.{Wrote, wrote_more, wrote_length, gather_within}
use Rattle.emit.specs.Puts.{Puts, puts_none}

-- whether there is a row
module _ (cells labels : List ℕ) (x p : ℕ) where
  pub row_there : get_or cells (x * 32 + (p + 1)) 0 < mark
      → record { from = x; to = p + 1; kind = get_or labels (2 * p) 0; argument = get_or labels (2 * p + 1) 0; weight = get_or cells (x * 32 + (p + 1)) 0 } ∷ [] ≡ arrow (cell_at cells) (labels_in labels) x p
  unfolding arrow
  row_there h = let g : get_or cells (x * 32 + suc p) 0 < mark = rw (add-one p) at h in rw (add-one p, lt-ltb _ _ g)

  pub row_none : mark ≤ get_or cells (x * 32 + (p + 1)) 0 → [] ≡ arrow (cell_at cells) (labels_in labels) x p
  unfolding arrow
  row_none h = let g : mark ≤ get_or cells (x * 32 + suc p) 0 = rw (add-one p) at h in rw (le-ltb _ _ g)

-- the words of a state's row that are less than the mark, counted
module _ (cells : List ℕ) (L : ℕ → Label) (x : ℕ) where
  arrow_long : (p : ℕ) → length (arrow (cell_at cells) L x p) ≡ cond (ltb (get_or cells (x * 32 + suc p) 0) mark) 1 0
  unfolding arrow
  arrow_long p = go (ltb (get_or cells (x * 32 + suc p) 0) mark)
    where
      go : (t : Bool) → length (cond t (row_of (cell_at cells) L x p ∷ []) []) ≡ cond t 1 0
      go true = refl
      go false = refl

  counted_to : (m : ℕ) → x * 32 + 1 + m ≤ length cells → count_by (λ w. ltb w mark) (take m (drop (x * 32 + 1) cells)) ≡ length (rows_for (cell_at cells) L m x)
  unfolding gather
  counted_to zero h = refl
  counted_to (suc m) h =
      let a = sum_by_more (λ (w : ℕ). cond (ltb w mark) 1 0) (drop (x * 32 + 1) cells) m 0 (omega (arith, length-drop (x * 32 + 1) cells)) in
      let e : x * 32 + 1 + m ≡ x * 32 + suc m = omega arith in
      let b : get_or (drop (x * 32 + 1) cells) m 0 ≡ get_or cells (x * 32 + suc m) 0 = get_or-drop (x * 32 + 1) cells m 0 ∙ ap (λ (i : ℕ). get_or cells i 0) e in
      let d = rw (add-one m, b) at a in
      omega (arith, d, arrow_long m, counted_to m (omega arith), length-append (gather (arrow (cell_at cells) L x) m) (arrow (cell_at cells) L x m))

  pub counted_rows : (m : ℕ) → x * 32 + 1 + m ≤ length cells → count_by (λ w. ltb w mark) (slice_range cells (x * 32 + 1) (x * 32 + 1 + m)) ≡ length (rows_for (cell_at cells) L m x)
  counted_rows m h = let e : x * 32 + 1 + m - (x * 32 + 1) ≡ m = omega arith in rw e (counted_to m h)

pub counted_few : (cells : List ℕ) (i m : ℕ) → count_by (λ w. ltb w mark) (slice_range cells i (i + m)) ≤ m
counted_few cells i m = omega (arith, count_by-le-length (λ (w : ℕ). ltb w mark) (slice_range cells i (i + m)), length-take (i + m - i) (drop i cells))

-- one more is gathered
gather_one : {R : Type 0} (f : ℕ → List R) (n : ℕ) → gather f (n + 1) ≡ gather f n ++ f n
unfolding gather
gather_one f n = rw (add-one n)

pub count_one : {R : Type 0} (f : ℕ → List R) (n k l : ℕ) → k ≡ length (gather f n) → l ≡ length (f n) → k + l ≡ length (gather f (n + 1))
count_one f n k l e g = rw (gather_one f n) (omega (arith, length-append (gather f n) (f n)))

-- one more is written
pub puts_one : (W : ℕ → List ℕ) (n : ℕ) {p q r : Writer} → Puts p q (gather W n) → Puts q r (W n) → Puts p r (gather W (n + 1))
puts_one W n g h = record { same_room = h.same_room ∙ g.same_room; wrote = rw (gather_one W n) (wrote_more g.wrote h.wrote) }

-- there is room for one more
pub room_one : (W : ℕ → List ℕ) (i n : ℕ) {p q : Writer} → i < n → p.at + length (gather W n) ≤ length p.room.now → Puts p q (gather W i) → q.at + length (W i) ≤ length q.room.now
room_one W i n h r g = omega (arith, gather_within W i n h, g.wrote.next, wrote_length g.wrote)

pub row_long : (r : Row) (rs : List Row) → r ∷ [] ≡ rs → length (spread rs) ≡ 5
unfolding spread
row_long r rs e = rw (← e)

pub no_row : (p : Writer) (rs : List Row) → [] ≡ rs → Puts p p (spread rs)
unfolding spread
no_row p rs e = rw (← e) (puts_none p)

-- words copied into a part of the room
pub wrote_part : (at : ℕ) (ws room part : List ℕ) → part ≡ ws → at + length ws ≤ length room → Wrote at ws room (put_mid at (at + length ws - at) room part) (at + length ws)
wrote_part at ws room part e h = record { next = refl; is = put_mid-paste at (at + length ws - at) room part ws (length ws) e (omega arith) refl ∙ paste_all room at ws (length ws) refl ∙ sym (append_assoc (take at room) ws (drop (at + length ws) room)) ∙ sym (sets-eq ws room at h) }
