-- MEANING. The number and the place of each refusal ("Numbers, places and order of checks"). Definitions only.
--
-- number_of r     the number, from 1 to 10
-- line_of l      the place of a line of the card: 1 or 2
-- place_of r      the place: of a text that is no pattern, the bytes before the first that cannot stand there; of a room that is too
--                 short, the words needed; of a card, the line that is wrong; 0 of every other
use Rattle.std.specs.Prelude.{ℕ}
use Rattle.refusal.specs.declared.CardLine.{CardLine}
use Rattle.refusal.specs.declared.CardLine.TheVariants.{First, Second}
use Rattle.refusal.specs.declared.Refusal.{Refusal}
use Rattle.refusal.specs.declared.Refusal.TheVariants.{Variables, LongPattern, NoPattern, Nesting, Steps, ShortRoom, WrongTable, LongLine, NoSpans, WrongCard}

abbrev pub number_of : Refusal → ℕ
number_of Variables = 1
number_of LongPattern = 2
number_of (NoPattern p) = 3
number_of Nesting = 4
number_of Steps = 5
number_of (ShortRoom n) = 6
number_of WrongTable = 7
number_of LongLine = 8
number_of NoSpans = 9
number_of (WrongCard l) = 10

abbrev pub line_of : CardLine → ℕ
line_of First = 1
line_of Second = 2

abbrev pub place_of : Refusal → ℕ
place_of Variables = 0
place_of LongPattern = 0
place_of (NoPattern p) = p
place_of Nesting = 0
place_of Steps = 0
place_of (ShortRoom n) = n
place_of WrongTable = 0
place_of LongLine = 0
place_of NoSpans = 0
place_of (WrongCard l) = line_of l
