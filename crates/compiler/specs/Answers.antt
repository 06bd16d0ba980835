-- MEANING. The answer to compiling: 01's numbers and values for each case, and when each is given (01, "Numbers, places and order
-- of checks"; demands 1 and 3). Definitions only.
--
-- Printed                 what 01 prints of an answer: number, place, words written. A refusal writes no word
-- compiled c              what is printed of an answer
-- TextFails, Fails        number n could be given, with place p: 01's table of numbers, line by line
-- Compiles K text room exit a   a is the answer to compiling the pattern text with K variables into a lent room, and exit is
--                         what the room holds then: the lowest number that could be given and the room as before, or no number
--                         and the exact table of the text's tree, with the words after it as before
-- CompilesCard            the same for a whole card: its form first, number 10
use Rattle.std.specs.Prelude.{◌≡◌, List, ◌++◌, ℕ, ◌<◌, length, drop, Result, Ok, Err}
use Rattle.refusal.specs.declared.Refusal.{Refusal}
use Rattle.refusal.specs.Numbers.{number_of, place_of}
use Rattle.table.specs.Table.{most_vars}
use Rattle.pattern.specs.Grammar.{Pat, Pattern, steps_of, nesting_of}
use Rattle.pattern.specs.Places.{Refused as NotInGrammar}
use Rattle.layout.specs.Layout.{TableOf}
use Rattle.card.specs.Form.{LineOne, LineTwo, IsCard}

abbrev pub most_text : ℕ
most_text = 255

abbrev pub most_nesting : ℕ
most_nesting = 16

abbrev pub most_steps : ℕ
most_steps = 31

pub record Printed : Type 0 where
  pub number : ℕ
  pub place : ℕ
  pub words : ℕ

abbrev pub written : ℕ → Printed
written n = record { number = 0; place = 0; words = n }

abbrev pub refusal : ℕ → ℕ → Printed
refusal n p = record { number = n; place = p; words = 0 }

abbrev pub compiled : Result ℕ Refusal → Printed
compiled (Ok n) = written n
compiled (Err r) = refusal (number_of r) (place_of r)

-- numbers 1 to 5: when each could be given of a pattern text, and its place
pub data TextFails (K : ℕ) (text : List ℕ) : ℕ → ℕ → Type 0 where
  vars : most_vars < K → TextFails K text 1 0
  long : most_text < length text → TextFails K text 2 0
  grammar : {p : ℕ} → NotInGrammar K text p → TextFails K text 3 p
  nesting : {a : Pat} → Pattern K text a → most_nesting < nesting_of a → TextFails K text 4 0
  steps : {a : Pat} → Pattern K text a → most_steps < steps_of a → TextFails K text 5 0

-- and number 6 of the room
pub data Fails (K : ℕ) (text room : List ℕ) : ℕ → ℕ → Type 0 where
  by_text : {n p : ℕ} → TextFails K text n p → Fails K text room n p
  small : {a : Pat} {ws : List ℕ} → Pattern K text a → TableOf K a ws → length room < length ws → Fails K text room 6 (length ws)

-- the lowest number is given, and the room stays as it was; or none, and the table is written
pub data Compiles (K : ℕ) (text room exit : List ℕ) : Printed → Type 0 where
  refused : {n p : ℕ} → Fails K text room n p → ((m q : ℕ) → m < n → Fails K text room m q → ⊥) → exit ≡ room → Compiles K text room exit (refusal n p)
  table : {a : Pat} {ws : List ℕ} → ((n p : ℕ) → Fails K text room n p → ⊥) → Pattern K text a → TableOf K a ws → exit ≡ ws ++ drop (length ws) room
      → Compiles K text room exit (written (length ws))

-- the same for a card: number 10 first
pub data CompilesCard (text room exit : List ℕ) : Printed → Type 0 where
  wrong_one : ((K : ℕ) (rest : List ℕ) → LineOne text K rest → ⊥) → exit ≡ room → CompilesCard text room exit (refusal 10 1)
  wrong_two : {K : ℕ} (rest : List ℕ) → LineOne text K rest → ((p lines : List ℕ) → LineTwo rest p lines → ⊥) → exit ≡ room → CompilesCard text room exit (refusal 10 2)
  right : {K : ℕ} {p lines : List ℕ} {a : Printed} → IsCard text K p lines → Compiles K p room exit a → CompilesCard text room exit a
