-- The rule for the argument of a byte row says what 01 says: it is lo × 256 + hi with lo ≤ hi ≤ 255.
--
-- Range arg                   some lo and hi make up the argument
-- range_bytes, bytes_range    an argument is such a number exactly when it keeps the rule
use Rattle.std.specs.Prelude.{◌≡◌, ℕ, ◌+◌, ◌*◌, ◌/◌, ◌%◌, ◌≤◌}
use Rattle.std.proofs.Common.{arith}
use Rattle.table.specs.Check.{RightBytes}

pub record Range (arg : ℕ) : Type 0 where
  pub lo : ℕ
  pub hi : ℕ
  pub made : arg ≡ lo * 256 + hi
  pub order : lo ≤ hi
  pub low : hi ≤ 255

pub range_bytes : (arg : ℕ) → Range arg → RightBytes arg
range_bytes arg r = record { small = omega arith; order = omega arith }

pub bytes_range : (arg : ℕ) → RightBytes arg → Range arg
bytes_range arg b = record { lo = arg / 256; hi = arg % 256; made = omega arith; order = b.order; low = omega arith }
