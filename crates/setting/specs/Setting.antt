-- Settings of the variables, and how they move under the markers (01, "The table"). Definitions only.
--
-- digit_of u v         what variable v + 1 is in setting u: 0 untouched, 1 open, 2 shut
-- move_of u m          the setting after marker m in setting u; 27 where it may not be taken. Marker 2v opens variable v + 1,
--                     which must be untouched; marker 2v + 1 closes it, and it must be open
-- Moves t             the words t are the table of 27 settings by six markers
-- marker_of l          the marker of a label that is one: 0 to 5
-- settles u ls        the markers of ls may all be taken, one after the other from setting u, and lead to all three shut
-- begin K             the setting to begin in with K variables: those that are not used count as shut
use Rattle.std.specs.Prelude.{◌≡◌, Bool, false, cond, ◌&&◌, List, [], ◌∷◌, ℕ, ◌+◌, ◌-◌, ◌*◌, ◌/◌, ◌%◌, ◌^◌, ◌<◌, ltb, eqb, length, get_or}
use Rattle.marks.specs.Labels.{Label, is_byte}

abbrev pub digit_of : ℕ → ℕ → ℕ
digit_of u v = u / 3 ^ v % 3

unfoldable pub move_of : ℕ → ℕ → ℕ
move_of u m = cond (ltb m 6 && eqb (digit_of u (m / 2)) (m % 2)) (u + 3 ^ (m / 2)) 27

pub record Moves (t : List ℕ) : Type 0 where
  pub long : length t ≡ 162
  pub entry : (u m : ℕ) → u < 27 → m < 6 → get_or t (u * 6 + m) 0 ≡ move_of u m

abbrev pub marker_of : Label → ℕ
marker_of l = 2 * l.argument + l.kind - 3

unfoldable pub settles : ℕ → List Label → Bool
settles u [] = eqb u 26
settles u (l ∷ ls) = cond (is_byte l) (settles u ls) (cond (ltb (move_of u (marker_of l)) 27) (settles (move_of u (marker_of l)) ls) false)

abbrev pub begin : ℕ → ℕ
begin K = 27 - 3 ^ K
