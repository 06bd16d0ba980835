-- MEANING. The two lines of a card (01, "The card and the program"). Definitions only.
--
-- lf                      the byte that ends a line
-- vars_key, pattern_key     `vars=` and `pattern=`
-- LineOne text K rest     text begins with `vars=`, the digit K and LF; rest follows
-- LineTwo text p rest     text begins with `pattern=`, the bytes p, none of them LF, and LF; rest follows
-- IsCard text K p lines   text begins with a card of K variables and the pattern p; lines follow
-- FormOf text r           r says what the form of the card is, or which line is wrong: number 10's test
use Rattle.std.specs.Prelude.{◌≡◌, Result, Ok, Err, List, [], ◌∷◌, ◌++◌, ℕ, ◌+◌, ◌≤◌, ◌<◌, length, get_or}
use Rattle.lines.specs.Ends.{lf}
use Rattle.refusal.specs.declared.CardLine.{CardLine}
use Rattle.refusal.specs.declared.CardLine.TheVariants.{First, Second}
use Rattle.card.specs.declared.Form.{Form}

abbrev pub vars_key : List ℕ
vars_key = 118 ∷ 97 ∷ 114 ∷ 115 ∷ 61 ∷ []

abbrev pub pattern_key : List ℕ
pattern_key = 112 ∷ 97 ∷ 116 ∷ 116 ∷ 101 ∷ 114 ∷ 110 ∷ 61 ∷ []

pub record LineOne (text : List ℕ) (K : ℕ) (rest : List ℕ) : Type 0 where
  pub digit : K ≤ 9
  pub whole : text ≡ vars_key ++ ((48 + K) ∷ lf ∷ rest)

pub record LineTwo (text p rest : List ℕ) : Type 0 where
  pub one_line : (i : ℕ) → i < length p → get_or p i 0 ≡ lf → ⊥
  pub whole : text ≡ pattern_key ++ (p ++ lf ∷ rest)

pub record IsCard (text : List ℕ) (K : ℕ) (p lines : List ℕ) : Type 0 where
  pub second : List ℕ
  pub one : LineOne text K second
  pub two : LineTwo second p lines

pub data FormOf (text : List ℕ) : Result Form CardLine → Type 0 where
  right : {K f t : ℕ} (p lines : List ℕ) → IsCard text K p lines → f ≡ 15 → t ≡ 15 + length p → FormOf text (Ok (record { vars = K; from = f; to = t }))
  wrong_one : ((K : ℕ) (rest : List ℕ) → LineOne text K rest → ⊥) → FormOf text (Err First)
  wrong_two : {K : ℕ} (rest : List ℕ) → LineOne text K rest → ((p lines : List ℕ) → LineTwo rest p lines → ⊥) → FormOf text (Err Second)
