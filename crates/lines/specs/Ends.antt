-- Where a line ends.
--
-- lf              the byte that ends a line
-- EndsAt l f r    r is the first place from f on where an LF stands, or the end
use Rattle.std.specs.Prelude.{◌≡◌, List, ℕ, ◌≤◌, ◌<◌, length, get_or}

abbrev pub lf : ℕ
lf = 10

pub record EndsAt (l : List ℕ) (f r : ℕ) : Type 0 where
  pub from : f ≤ r
  pub within : r ≤ length l
  pub none : (i : ℕ) → f ≤ i → i < r → get_or l i 0 ≡ lf → ⊥
  pub here : r < length l → get_or l r 0 ≡ lf
