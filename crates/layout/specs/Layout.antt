-- MEANING. The compiled table of a tree (01, "The compiled table, exactly"), said from derivations. Definitions only.
--
-- RowOf a r           r is a row of the table of the tree a: it goes from a state to a step, has that step's kind and argument, and as
--                     weight the least total charged between the two over all derivations
-- Before r s          r stands before s: by from, then by to
-- Rising rs           each row of rs stands before all rows after it; so there is one row for two states
-- rows_in a ws         the rows that stand in the words ws, after three words and one end word for each state
-- TableOf K a ws      ws are the table of the tree a with K variables, and no word more: the end word of a state is the least total
--                     charged after it; there is a row from x to y exactly when y comes directly after x in some derivation
use Rattle.std.specs.Prelude.{◌≡◌, ◌⊎◌, List, [], ◌∷◌, ℕ, ◌+◌, ◌*◌, ◌-◌, ◌≤◌, ◌<◌, length, get_or}
use Rattle.basics.specs.Lists.{All}
use Rattle.basics.specs.Members.{In}
use Rattle.weight.specs.Weight.{mark, Least}
use Rattle.table.specs.declared.Row.{Row}
use Rattle.table.specs.Table.{rows_from, label_of}
use Rattle.pattern.specs.Grammar.{Pat, steps_of}
use Rattle.pattern.specs.Derivations.{labels_of, nth_label, Follows}

pub record RowOf (a : Pat) (r : Row) : Type 0 where
  pub leaves : r.from ≤ steps_of a
  pub some : 1 ≤ r.to
  pub leads : r.to ≤ steps_of a
  pub does : label_of r ≡ nth_label (labels_of a) (r.to - 1)
  pub light : r.weight < mark
  pub least : Least (Follows a r.from r.to) r.weight

abbrev pub Before : Row → Row → Type 0
Before r s = (r.from < s.from) ⊎ ((r.from ≡ s.from) × (r.to < s.to))

abbrev pub Rising : List Row → Type 0
Rising [] = Unit {0}
Rising (r ∷ rs) = All (Before r) rs × Rising rs

abbrev pub rows_in : Pat → List ℕ → List Row
rows_in a ws = rows_from ws (3 + (steps_of a + 1)) (get_or ws 2 0)

-- a row of rs from x to y
pub record Joins (x y : ℕ) (rs : List Row) : Type 0 where
  pub row : Row
  pub stands : In row rs
  pub leaves : row.from ≡ x
  pub leads : row.to ≡ y

pub record TableOf (K : ℕ) (a : Pat) (ws : List ℕ) : Type 0 where
  pub states : get_or ws 0 0 ≡ steps_of a + 1
  pub vars : get_or ws 1 0 ≡ K
  pub long : length ws ≡ 3 + (steps_of a + 1) + 5 * get_or ws 2 0
  pub ends : (x : ℕ) → x ≤ steps_of a → Least (Follows a x 0) (get_or ws (3 + x) 0)
  pub rows : All (RowOf a) (rows_in a ws)
  pub every : (x y c : ℕ) → Follows a x y c → 1 ≤ y → Joins x y (rows_in a ws)
  pub order : Rising (rows_in a ws)
