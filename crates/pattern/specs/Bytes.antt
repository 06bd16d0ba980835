-- MEANING. The bytes of a pattern (01, "The pattern on the card"). Definitions only.
--
-- twelve            the bytes | * # ( ) [ ] { } \ . ~
-- shown c           the byte c is one of 0x20 to 0x7E; Shown c says so as a statement
-- byte_class c         one of the twelve is reserved, another shown byte is plain, and the others are illegal
-- Digit c           the byte c is a decimal digit, 48 to 57
use Rattle.std.specs.Prelude.{Bool, false, cond, ◌&&◌, ◌||◌, List, [], ◌∷◌, ℕ, ◌≤◌, leb, eqb}
use Rattle.pattern.specs.declared.Class.{Class}
use Rattle.pattern.specs.declared.Class.TheVariants.{Plain, Reserved, Illegal}

abbrev pub twelve : List ℕ
twelve = 124 ∷ 42 ∷ 35 ∷ 40 ∷ 41 ∷ 91 ∷ 93 ∷ 123 ∷ 125 ∷ 92 ∷ 46 ∷ 126 ∷ []

abbrev pub among : List ℕ → ℕ → Bool
among [] c = false
among (x ∷ xs) c = eqb c x || among xs c

abbrev pub shown : ℕ → Bool
shown c = leb 0x20 c && leb c 0x7E

unfoldable pub byte_class : ℕ → Class
byte_class c = cond (among twelve c) Reserved (cond (shown c) Plain Illegal)

pub record Shown (c : ℕ) : Type 0 where
  pub low : 0x20 ≤ c
  pub high : c ≤ 0x7E

pub record Digit (c : ℕ) : Type 0 where
  pub low : 48 ≤ c
  pub high : c ≤ 57
