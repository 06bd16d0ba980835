-- MEANING. The answers to the two questions asked of a table: 01's numbers and values for each case, and when each is given
-- (01, "Numbers, places and order of checks"; demands 1 and 2). Definitions only.
--
-- Name                    which of the three answers it is
-- Printed                 what 01 prints of an answer: its name, number, place, weight and spans. An answer that is not refused has
--                         number 0 and place 0; no reading has the mark and six zeros; a refusal carries its number and place
--                         alone, so its weight and spans are those of no reading
-- read a, weighed a       what is printed of the answer to each question
-- Fails, FailsSet         number n could be given: 01's table of numbers, line by line. The lowest is given, with place 0
-- BestAnswer ws line p    p is the answer to "the best reading of the line by the words ws"
-- SetAnswer ws line t p   p is the answer to "the weight of the set t"
use Rattle.std.specs.Prelude.{List, ℕ, ◌<◌, length, Result, Ok, Err}
use Rattle.refusal.specs.declared.Refusal.{Refusal}
use Rattle.refusal.specs.Numbers.{number_of, place_of}
use Rattle.weight.specs.declared.Weight.{Weight}
use Rattle.weight.specs.Weight.{mark}
use Rattle.spans.specs.declared.Spans.{Spans}
use Rattle.spans.specs.Spans.{SetOfSpans, none}
use Rattle.table.specs.Table.{RightTable, automaton_of, most_bytes}
use Rattle.runs.specs.Runs.{weight_of_set}
use Rattle.best.specs.Best.{IsBest, IsNone}
use Rattle.reader.specs.declared.Answer.{Answer}
use Rattle.reader.specs.declared.Answer.TheVariants.{Reading, NoReading, Refused}

pub data Name : Type 0 where
  found none_found refused : Name

pub record Printed : Type 0 where
  pub name : Name
  pub number : ℕ
  pub place : ℕ
  pub weight : ℕ
  pub spans : Spans

abbrev pub reading : ℕ → Spans → Printed
reading w t = record { name = found; number = 0; place = 0; weight = w; spans = t }

abbrev pub no_reading : Printed
no_reading = record { name = none_found; number = 0; place = 0; weight = mark; spans = none }

abbrev pub refusal : ℕ → ℕ → Printed
refusal n p = record { name = refused; number = n; place = p; weight = mark; spans = none }

abbrev pub read : Answer → Printed
read (Reading w t) = reading w.number t
read NoReading = no_reading
read (Refused n p) = refusal n p

-- a weight is answered for the set that was asked of
abbrev pub weighed : Result Weight Refusal → Printed
weighed (Ok w) = reading w.number none
weighed (Err r) = refusal (number_of r) (place_of r)

-- numbers 7 and 8: when each could be given
pub data Fails (ws line : List ℕ) : ℕ → Type 0 where
  table : (RightTable ws → ⊥) → Fails ws line 7
  long : most_bytes < length line → Fails ws line 8

-- and 9, where a set is asked of
pub data FailsSet (ws line : List ℕ) (t : Spans) : ℕ → Type 0 where
  reading_it : {n : ℕ} → Fails ws line n → FailsSet ws line t n
  no_set : (SetOfSpans (automaton_of ws).vars (length line) t → ⊥) → FailsSet ws line t 9

pub data BestAnswer (ws line : List ℕ) : Printed → Type 0 where
  not_read : {n : ℕ} → Fails ws line n → ((m : ℕ) → m < n → Fails ws line m → ⊥) → BestAnswer ws line (refusal n 0)
  best : {w : ℕ} {t : Spans} → ((n : ℕ) → Fails ws line n → ⊥) → IsBest (automaton_of ws) line w t → BestAnswer ws line (reading w t)
  no_run : ((n : ℕ) → Fails ws line n → ⊥) → IsNone (automaton_of ws) line → BestAnswer ws line no_reading

pub data SetAnswer (ws line : List ℕ) (t : Spans) : Printed → Type 0 where
  not_weighed : {n : ℕ} → FailsSet ws line t n → ((m : ℕ) → m < n → FailsSet ws line t m → ⊥) → SetAnswer ws line t (refusal n 0)
  weight : ((n : ℕ) → FailsSet ws line t n → ⊥) → SetAnswer ws line t (reading (weight_of_set (automaton_of ws) line t) none)
