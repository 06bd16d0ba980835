-- METHOD. What a cell counts as. Definitions only.
--
-- value c         a cell as one number, as prices are: its weight in units of 2^64, and its key
use Rattle.std.specs.Prelude.{ℕ, ◌+◌, ◌*◌}
use Rattle.togo.specs.Price.{base}
use Rattle.cell.specs.declared.Cell.{Cell}

abbrev pub value : Cell → ℕ
value c = c.weight * base + c.key
