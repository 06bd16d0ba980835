-- MEANING. What the program prints of an answer (01, "The card and the program"). Definitions only.
--
-- decimal n                 the decimal digits of n, the fewest that hold it; n has at most twenty
-- keyed key n               the key and the number
-- field key n               the key, the number and LF
-- variable k i s e          `v`, i, `=`, the span and LF, where i is one of the variables 1 to k; else nothing
-- printed line k a          what is printed of the answer a to a line, with k variables
use Rattle.std.specs.Prelude.{cond, List, [], ◌∷◌, ◌++◌, ℕ, zero, suc, ◌+◌, ◌/◌, ◌%◌, ltb}
use Rattle.spans.specs.declared.Spans.{Spans}
use Rattle.reader.specs.declared.Answer.{Answer}
use Rattle.reader.specs.declared.Answer.TheVariants.{Reading, NoReading, Refused}

-- n's digits, at most as many as the first number says
abbrev pub digits_of : ℕ → ℕ → List ℕ
digits_of zero n = []
digits_of (suc most) n = cond (ltb n 10) [] (digits_of most (n / 10)) ++ ((48 + n % 10) ∷ [])

unfoldable pub decimal : ℕ → List ℕ
decimal n = digits_of 20 n

-- "\n", ",", "v", "="
abbrev pub newline : List ℕ
newline = 10 ∷ []

abbrev pub comma : List ℕ
comma = 44 ∷ []

abbrev pub letter : List ℕ
letter = 118 ∷ []

abbrev pub equals : List ℕ
equals = 61 ∷ []

-- "line="
abbrev pub line_key : List ℕ
line_key = 108 ∷ 105 ∷ 110 ∷ 101 ∷ 61 ∷ []

-- "weight="
abbrev pub weight_key : List ℕ
weight_key = 119 ∷ 101 ∷ 105 ∷ 103 ∷ 104 ∷ 116 ∷ 61 ∷ []

-- "code="
abbrev pub code_key : List ℕ
code_key = 99 ∷ 111 ∷ 100 ∷ 101 ∷ 61 ∷ []

-- "place="
abbrev pub place_key : List ℕ
place_key = 112 ∷ 108 ∷ 97 ∷ 99 ∷ 101 ∷ 61 ∷ []

-- "answer=found\n"
abbrev pub found : List ℕ
found = 97 ∷ 110 ∷ 115 ∷ 119 ∷ 101 ∷ 114 ∷ 61 ∷ 102 ∷ 111 ∷ 117 ∷ 110 ∷ 100 ∷ 10 ∷ []

-- "answer=none\n"
abbrev pub none : List ℕ
none = 97 ∷ 110 ∷ 115 ∷ 119 ∷ 101 ∷ 114 ∷ 61 ∷ 110 ∷ 111 ∷ 110 ∷ 101 ∷ 10 ∷ []

-- "answer=refused\n"
abbrev pub refused : List ℕ
refused = 97 ∷ 110 ∷ 115 ∷ 119 ∷ 101 ∷ 114 ∷ 61 ∷ 114 ∷ 101 ∷ 102 ∷ 117 ∷ 115 ∷ 101 ∷ 100 ∷ 10 ∷ []

abbrev pub keyed : List ℕ → ℕ → List ℕ
keyed key n = key ++ decimal n

abbrev pub field : List ℕ → ℕ → List ℕ
field key n = keyed key n ++ newline

abbrev pub variable : ℕ → ℕ → ℕ → ℕ → List ℕ
variable k i s e = cond (ltb k i) [] (keyed letter i ++ keyed equals s ++ field comma e)

abbrev pub variables : ℕ → Spans → List ℕ
variables k t = variable k 1 t.s1 t.e1 ++ variable k 2 t.s2 t.e2 ++ variable k 3 t.s3 t.e3

abbrev pub refusal : ℕ → ℕ → List ℕ
refusal number place = refused ++ field code_key number ++ field place_key place

abbrev pub printed : ℕ → ℕ → Answer → List ℕ
printed line k (Reading w t) = field line_key line ++ found ++ field weight_key w.number ++ variables k t
printed line k NoReading = field line_key line ++ none
printed line k (Refused number place) = field line_key line ++ refusal number place
