-- MEANING. Weights (01, "Lines, spans, weights"). Definitions only.
--
-- mark                4,294,967,295, "no run"
-- lighter a b         the lighter of two weights
-- joint a b           the sum of two weights: the mark where either is, or where the sum would be that or more
-- lighter_to, joint_to  the same with another number than the mark for "none"
-- Least P m           m is the least number that has P, or the mark where no number below it has
use Rattle.std.specs.Prelude.{ℕ, ◌+◌, ◌≤◌, ◌<◌, min}

abbrev pub mark : ℕ
mark = 4294967295

unfoldable pub lighter_to : ℕ → ℕ → ℕ → ℕ
lighter_to cap a b = min cap (min a b)

unfoldable pub joint_to : ℕ → ℕ → ℕ → ℕ
joint_to cap a b = min cap (a + b)

abbrev pub lighter : ℕ → ℕ → ℕ
lighter a b = lighter_to mark a b

abbrev pub joint : ℕ → ℕ → ℕ
joint a b = joint_to mark a b

pub record Least (P : ℕ → Type 0) (m : ℕ) : Type 0 where
  pub cap : m ≤ mark
  pub low : (c : ℕ) → P c → m ≤ c
  pub attained : m < mark → P m
