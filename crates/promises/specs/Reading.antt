-- MEANING. The best reading of a line by a card, said of the card's text alone: no table stands in it (demands 1, 2 and 3 together).
-- Definitions only.
--
-- Fails K text line n p       number n could be given, with place p
-- TextAnswer, CardAnswer      the answer to reading the line by a pattern text, by a card. Numbers 6, 7 and 9 do not arise
use Rattle.std.specs.Prelude.{List, ℕ, ◌<◌, length}
use Rattle.spans.specs.declared.Spans.{Spans}
use Rattle.table.specs.Table.{most_bytes}
use Rattle.pattern.specs.Best.{TextBest, TextNone}
use Rattle.card.specs.Form.{LineOne, LineTwo, IsCard}
use Rattle.compiler.specs.Answers.{TextFails}
use Rattle.reader.specs.Answers.{Printed, reading, no_reading, refusal}

-- numbers 1 to 5 of the text, and 8 of the line. Number 6 cannot be given: the room is large enough for every table
pub data Fails (K : ℕ) (text line : List ℕ) : ℕ → ℕ → Type 0 where
  by_text : {n p : ℕ} → TextFails K text n p → Fails K text line n p
  long_line : most_bytes < length line → Fails K text line 8 0

-- the answer by the pattern text: the lowest number, or the best reading
pub data TextAnswer (K : ℕ) (text line : List ℕ) : Printed → Type 0 where
  refused : {n p : ℕ} → Fails K text line n p → ((m q : ℕ) → m < n → Fails K text line m q → ⊥) → TextAnswer K text line (refusal n p)
  best : {w : ℕ} {t : Spans} → ((n p : ℕ) → Fails K text line n p → ⊥) → TextBest K text line w t → TextAnswer K text line (reading w t)
  none_best : ((n p : ℕ) → Fails K text line n p → ⊥) → TextNone K text line → TextAnswer K text line no_reading

-- and by the card: number 10 first
pub data CardAnswer (card line : List ℕ) : Printed → Type 0 where
  wrong_one : ((K : ℕ) (rest : List ℕ) → LineOne card K rest → ⊥) → CardAnswer card line (refusal 10 1)
  wrong_two : {K : ℕ} (rest : List ℕ) → LineOne card K rest → ((p lines : List ℕ) → LineTwo rest p lines → ⊥) → CardAnswer card line (refusal 10 2)
  right : {K : ℕ} {text lines : List ℕ} {a : Printed} → IsCard card K text lines → TextAnswer K text line a → CardAnswer card line a
