-- METHOD. The weight to go: from a configuration, over the rows that are left, computed from the line's end. Definitions only.
--
-- Spot                where a run has come to: the bytes not yet read, its position, its state
-- pass s r            where the row r leads from s, if it can be taken there
-- Config              a spot, and the setting of the variables, those not used counting as shut
-- next u r            the setting after the row r, if its marker may be taken
-- step c r            both at once
-- admits allow p r    r reads a byte, or its marker is allowed at position p
-- held                the price of a row where it is admitted, else zero
-- ending              what a run may stop with: at the line's end, all variables shut, its end price
-- rows_to_go bs u       how many rows a valid run has left: the bytes, and two for each variable untouched, one for each open
-- kernel              the weight to go with that many rows left
-- begun bytes u       where every run begins, with the setting u to begin in
use Rattle.std.specs.Prelude.{Bool, cond, ◌||◌, List, [], ◌∷◌, ℕ, ◌+◌, ◌-◌, ◌/◌, ◌%◌, eqb, ltb, length}
use Rattle.std.proofs.Math.Option.{Option, none, some}
use Rattle.weight.specs.Semiring.{Semi}
use Rattle.weight.specs.Totals.{togo}
use Rattle.marks.specs.Labels.{is_byte, reads}
use Rattle.setting.specs.Setting.{move_of, marker_of}
use Rattle.table.specs.declared.Row.{Row}
use Rattle.table.specs.Table.{label_of}

pub record Spot : Type 0 where
  pub rest : List ℕ
  pub pos : ℕ
  pub state : ℕ

abbrev pub marker : Row → ℕ
marker r = marker_of (label_of r)

unfoldable pub read_on : List ℕ → ℕ → Row → Option Spot
read_on [] p r = none
read_on (b ∷ bs) p r = cond (reads (label_of r) b) (some (record { rest = bs; pos = p + 1; state = r.to })) none

unfoldable pub pass : Spot → Row → Option Spot
pass s r =
    cond (eqb r.from s.state) (cond (is_byte (label_of r)) (read_on s.rest s.pos r) (some (record { rest = s.rest; pos = s.pos; state = r.to }))) none

pub record Config : Type 0 where
  pub spot : Spot
  pub setting : ℕ

unfoldable pub next : ℕ → Row → Option ℕ
next u r = cond (is_byte (label_of r)) (some u) (cond (ltb (move_of u (marker r)) 27) (some (move_of u (marker r))) none)

abbrev pub both : Option Spot → Option ℕ → Option Config
both none s = none
both (some l) none = none
both (some l) (some u) = some (record { spot = l; setting = u })

unfoldable pub step : Config → Row → Option Config
step c r = both (pass c.spot r) (next c.setting r)

unfoldable pub admits : (ℕ → ℕ → Bool) → ℕ → Row → Bool
admits allow p r = is_byte (label_of r) || allow (marker r) p

unfoldable pub held : (S : Semi) → (ℕ → ℕ → Bool) → (Spot → Row → S.W) → Config → Row → S.W
held S allow price c r = cond (admits allow c.spot.pos r) (price c.spot r) S.zero

unfoldable pub ending : (S : Semi) → (ℕ → S.W) → Config → S.W
ending S end c = end_at c.spot.rest
  where
    end_at : List ℕ → S.W
    end_at [] = cond (eqb c.setting 26) (end c.spot.state) S.zero
    end_at (b ∷ bs) = S.zero

-- how many markers a setting has had
abbrev pub had : ℕ → ℕ
had u = u % 3 + u / 3 % 3 + u / 9 % 3

abbrev pub rows_to_go : List ℕ → ℕ → ℕ
rows_to_go bs u = length bs + (6 - had u)

unfoldable pub kernel : (S : Semi) → (ℕ → ℕ → Bool) → (Spot → Row → S.W) → (ℕ → S.W) → List Row → Config → S.W
kernel S allow price end rows c = togo S step (held S allow price) (ending S end) rows (rows_to_go c.spot.rest c.setting) c

abbrev pub begun : List ℕ → ℕ → Config
begun bytes u = record { spot = record { rest = bytes; pos = 1; state = 0 }; setting = u }
