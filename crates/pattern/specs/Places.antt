-- MEANING. The place of refusal 3 (01, "Numbers, places and order of checks"). Definitions only.
--
-- Begins k t        t begins some text of the grammar: with some rest it is one
-- Refused k s p     the text s is not in the grammar, and p is the largest number such that its first p bytes begin some text of it
use Rattle.std.specs.Prelude.{List, ◌++◌, ℕ, ◌≤◌, ◌<◌, length, take}
use Rattle.pattern.specs.Grammar.{Pat, Pattern}

pub record Begins (k : ℕ) (t : List ℕ) : Type 0 where
  pub rest : List ℕ
  pub tree : Pat
  pub whole : Pattern k (t ++ rest) tree

pub record Refused (k : ℕ) (s : List ℕ) (p : ℕ) : Type 0 where
  pub outside : (a : Pat) → Pattern k s a → ⊥
  pub within : p ≤ length s
  pub begins : Begins k (take p s)
  pub largest : (q : ℕ) → p < q → q ≤ length s → Begins k (take q s) → ⊥
