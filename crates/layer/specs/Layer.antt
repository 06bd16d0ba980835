-- METHOD. The cells of one position, and what the byte step and the closing make of them. Definitions only.
--
-- Cells               a number for each state and setting
-- held l c            the cell at place c of the layer l as one number: its weight in units of 2^64, and its key
-- cells l             what the layer l holds: cell (q, u) stands at q × 27 + u, and none is more than "no run"
-- Empty l             no cell of the layer l has a run
-- brings b old q u r  what the row r brings to cell (q, u) by reading the byte b, from the cells after that byte
-- charge t            what a toll adds to a key; nothing, where there is none
-- toll_of allow p m    what marker m adds to the key at position p, if it may stand there
-- Tolls allow p ts    ts are the six tolls of position p
-- carries ts l q u r  what the row r brings to cell (q, u) by its marker, from the cells l of the same position
-- Relaxed             each cell from setting `low` on is the lighter of what it was and of what all rows bring it
-- Closed              the same with markers: and what a marker brings comes from cells that are themselves closed
-- MarkerAt ws at      a marker row of the table ws starts at word `at`
-- Markers ws n offs   of the first n rows of the table ws the marker rows start at the words offs, and no others do: a sum to which
--                     byte rows bring nothing is the same over them as over the n rows
-- at bs p q u         the configuration of a cell
-- Right               each cell is the weight to go from its configuration
use Rattle.std.specs.Prelude.{◌≡◌, Bool, cond, ◌&&◌, not, List, map, ℕ, ◌+◌, ◌-◌, ◌*◌, ◌^◌, ◌≤◌, ◌<◌, min, ltb, eqb, length, get_or, Option, None, Some}
use Rattle.std.specs.Option.{is_some}
use Rattle.basics.specs.Lists.{All}
use Rattle.weight.specs.Weight.{lighter_to, joint_to}
use Rattle.weight.specs.Semiring.{sum}
use Rattle.weight.specs.Tropical.{least}
use Rattle.spans.specs.Spans.{digit}
use Rattle.marks.specs.Labels.{is_byte, reads}
use Rattle.setting.specs.Setting.{move_of, begin}
use Rattle.table.specs.declared.Row.{Row}
use Rattle.table.specs.Table.{Automaton, label_of, row_of_words, rows_from, RightRow}
use Rattle.layer.specs.declared.cells.Layer.{Layer}
use Rattle.togo.specs.ToGo.{Config, marker, kernel}
use Rattle.togo.specs.Price.{base, cap, big_price, big_end}

abbrev pub Cells : Type 0
Cells = ℕ → ℕ → ℕ

unfoldable pub held : Layer → ℕ → ℕ
held l c = get_or l.weights c 0 * base + get_or l.keys c 0

unfoldable pub cells : Layer → Cells
cells l q u = min cap (held l (q * 27 + u))

pub record Empty (l : Layer) : Type 0 where
  pub none : (c : ℕ) → c < 864 → held l c ≡ cap

unfoldable pub brings : ℕ → Cells → ℕ → ℕ → Row → ℕ
brings b old q u r = cond (is_byte (label_of r) && (reads (label_of r) b && eqb r.from q)) (joint_to cap (r.weight * base) (old r.to u)) cap

abbrev pub charge : Option ℕ → ℕ
charge None = 0
charge (Some t) = t

unfoldable pub toll_of : (ℕ → ℕ → Bool) → ℕ → ℕ → Option ℕ
toll_of allow p m = cond (allow m p) (Some (digit m p * 1026 ^ (5 - m))) None

pub record Tolls (allow : ℕ → ℕ → Bool) (p : ℕ) (ts : List (Option ℕ)) : Type 0 where
  pub long : length ts ≡ 6
  pub toll : (m : ℕ) → m < 6 → get_or ts m None ≡ toll_of allow p m

unfoldable pub carries : List (Option ℕ) → Cells → ℕ → ℕ → Row → ℕ
carries ts l q u r =
    cond (not (is_byte (label_of r)) && (ltb (move_of u (marker r)) 27 && (is_some (get_or ts (marker r) None) && eqb r.from q)))
    (joint_to cap (r.weight * base + charge (get_or ts (marker r) None)) (l r.to (move_of u (marker r))))
    cap

pub record Relaxed (low b : ℕ) (rows : List Row) (old new last : Cells) : Type 0 where
  pub cell : (q u : ℕ) → low ≤ u → u < 27 → last q u ≡ lighter_to cap (new q u) (sum (least cap) (brings b old q u) rows)

pub record Closed (low : ℕ) (ts : List (Option ℕ)) (rows : List Row) (new last : Cells) : Type 0 where
  pub cell : (q u : ℕ) → low ≤ u → u < 27 → last q u ≡ lighter_to cap (new q u) (sum (least cap) (carries ts last q u) rows)
  pub kept : (q u : ℕ) → u < low → u < 27 → last q u ≡ new q u

pub record MarkerAt (ws : List ℕ) (at : ℕ) : Type 0 where
  pub inside : at + 5 ≤ length ws
  pub row : RightRow (get_or ws 0 0) (get_or ws 1 0) (row_of_words ws at)
  pub marks : get_or ws (at + 2) 0 ≡ 0 → ⊥

pub record Markers (ws : List ℕ) (n : ℕ) (offs : List ℕ) : Type 0 where
  pub each : All (MarkerAt ws) offs
  pub sums : (f : Row → ℕ) → ((r : Row) → r.kind ≡ 0 → f r ≡ cap) → sum (least cap) f (map (row_of_words ws) offs) ≡ sum (least cap) f (rows_from ws (3 + get_or ws 0 0) n)

abbrev pub at : List ℕ → ℕ → ℕ → ℕ → Config
at bs p q u = record { spot = record { rest = bs; pos = p; state = q }; setting = u }

pub record Right (allow : ℕ → ℕ → Bool) (A : Automaton) (bs : List ℕ) (p : ℕ) (l : Cells) : Type 0 where
  pub cell : (q u : ℕ) → q < A.states → begin A.vars ≤ u → u < 27 → l q u ≡ kernel (least cap) allow big_price (big_end A) A.rows (at bs p q u)
