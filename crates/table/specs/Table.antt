-- MEANING. The words of a table, and the automaton they lay out (01, "The table"). Definitions only.
--
-- Row                 from, to, kind, argument, weight
-- row_of_words ws at         the row whose five words start at `at`
-- words_of_row r      the five words of a row
-- rows_from ws at n    the n rows that stand from `at` on
-- most_states ..       01's limits
-- RightRow S K r      r keeps the rules for rows, with S states and K variables
-- RightEnd w          w may be an end word
-- RightTable ws       ws keep every rule of "The table" and are long enough; words after the table are not looked at
-- Automaton           its states, its variables, the start and the end word of each state, its rows
-- automaton_of ws      the automaton that the words ws lay out: state 0 starts at 0, no other state starts
-- label_of r           what a row does
use Rattle.std.specs.Prelude.{◌≡◌, ◌⊎◌, cond, List, [], ◌∷◌, ℕ, zero, suc, ◌+◌, ◌*◌, ◌≤◌, ◌<◌, eqb, length, get_or}
use Rattle.weight.specs.Weight.{mark}
use Rattle.marks.specs.Labels.{Label, RightLabel}
use Rattle.table.specs.declared.Row.{Row}

abbrev pub row_of_words : List ℕ → ℕ → Row
row_of_words ws at = record { from = get_or ws at 0; to = get_or ws (at + 1) 0; kind = get_or ws (at + 2) 0; argument = get_or ws (at + 3) 0; weight = get_or ws (at + 4) 0 }

abbrev pub words_of_row : Row → List ℕ
words_of_row r = r.from ∷ r.to ∷ r.kind ∷ r.argument ∷ r.weight ∷ []

unfoldable pub rows_from : List ℕ → ℕ → ℕ → List Row
rows_from ws at zero = []
rows_from ws at (suc n) = row_of_words ws at ∷ rows_from ws (at + 5) n

abbrev pub most_states : ℕ
most_states = 32

abbrev pub most_vars : ℕ
most_vars = 3

abbrev pub most_rows : ℕ
most_rows = 1024

abbrev pub most_weight : ℕ
most_weight = 1000000

abbrev pub most_bytes : ℕ
most_bytes = 1024

pub record RightRow (S K : ℕ) (r : Row) : Type 0 where
  pub leaves : r.from < S
  pub leads : r.to < S
  pub label : RightLabel K r.kind r.argument
  pub light : r.weight ≤ most_weight

abbrev pub RightEnd : ℕ → Type 0
RightEnd w = (w ≤ most_weight) ⊎ (w ≡ mark)

pub record RightTable (ws : List ℕ) : Type 0 where
  pub header : 3 ≤ length ws
  pub some_state : 1 ≤ get_or ws 0 0
  pub states : get_or ws 0 0 ≤ most_states
  pub vars : get_or ws 1 0 ≤ most_vars
  pub rows : get_or ws 2 0 ≤ most_rows
  pub long : 3 + get_or ws 0 0 + 5 * get_or ws 2 0 ≤ length ws
  pub ends : (q : ℕ) → q < get_or ws 0 0 → RightEnd (get_or ws (3 + q) 0)
  pub right : (i : ℕ) → i < get_or ws 2 0 → RightRow (get_or ws 0 0) (get_or ws 1 0) (row_of_words ws (3 + get_or ws 0 0 + 5 * i))

pub record Automaton : Type 0 where
  pub states : ℕ
  pub vars : ℕ
  pub start : ℕ → ℕ
  pub end : ℕ → ℕ
  pub rows : List Row

unfoldable pub automaton_of : List ℕ → Automaton
automaton_of ws =
    record {
      states = get_or ws 0 0;
      vars = get_or ws 1 0;
      start = λ q. cond (eqb q 0) 0 mark;
      end = λ q. get_or ws (3 + q) mark;
      rows = rows_from ws (3 + get_or ws 0 0) (get_or ws 2 0);
    }

abbrev pub label_of : Row → Label
label_of r = record { kind = r.kind; argument = r.argument }
