-- The parts of a table's rules, as the check takes them one after another.
--
-- RightBytes a          the argument a of a byte row is lo × 256 + hi with lo ≤ hi ≤ 255
-- RightHeader S K R     the first three words are within 01's limits
-- EndsRight ws n        the first n end words keep the rule for end words
-- RowsRight ws S K n    the first n rows after S end words keep the rules for rows
use Rattle.std.specs.Prelude.{List, ℕ, ◌+◌, ◌*◌, ◌/◌, ◌%◌, ◌≤◌, ◌<◌, get_or}
use Rattle.table.specs.Table.{row_of_words, RightRow, RightEnd, most_states, most_vars, most_rows}

pub record RightBytes (arg : ℕ) : Type 0 where
  pub small : arg < 65536
  pub order : arg / 256 ≤ arg % 256

pub record RightHeader (S K R : ℕ) : Type 0 where
  pub some : 1 ≤ S
  pub states : S ≤ most_states
  pub vars : K ≤ most_vars
  pub rows : R ≤ most_rows

abbrev pub EndsRight : List ℕ → ℕ → Type 0
EndsRight ws n = (q : ℕ) → q < n → RightEnd (get_or ws (3 + q) 0)

abbrev pub RowsRight : List ℕ → ℕ → ℕ → ℕ → Type 0
RowsRight ws S K n = (i : ℕ) → i < n → RightRow S K (row_of_words ws (3 + S + 5 * i))
