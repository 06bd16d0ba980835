-- Examples by computing the machine.
use mathlib.Core.Path.{◌≡◌, refl}
use mathlib.Core.List.{[], ◌∷◌}
use native.Mathlib.Omega.{arith}
use Rattle.pattern.specs.Bytes.{byte_class}
use Rattle.pattern.specs.Grammar.{Pat, reads, cat, star, charge, capture, grouped, Pattern, lone, last, with, plain, none}
use Rattle.pattern.specs.Places.{Refused}
use Rattle.pattern.specs.Laws.{makes_tree}
use Rattle.pattern.specs.Joins.{refuses}

-- (a#002)*#005
ex1 : (a : Pat) → Pattern 0 (40 ∷ 97 ∷ 35 ∷ 48 ∷ 48 ∷ 50 ∷ 41 ∷ 42 ∷ 35 ∷ 48 ∷ 48 ∷ 53 ∷ []) a → charge 5 (star (grouped (charge 2 (reads 97 97)))) ≡ a
unfolding byte_class
ex1 a p = makes_tree p

-- .*EC={1:[0-9][0-9]*}
ex2 : (a : Pat) → Pattern 1 (46 ∷ 42 ∷ 69 ∷ 67 ∷ 61 ∷ 123 ∷ 49 ∷ 58 ∷ 91 ∷ 48 ∷ 45 ∷ 57 ∷ 93 ∷ 91 ∷ 48 ∷ 45 ∷ 57 ∷ 93 ∷ 42 ∷ 125 ∷ []) a
    → cat (star (reads 0 255)) (cat (reads 69 69) (cat (reads 67 67) (cat (reads 61 61) (capture 1 (cat (reads 48 57) (star (reads 48 57))))))) ≡ a
unfolding byte_class
ex2 a p = makes_tree p

-- a) is refused at 1
ex3 : Refused 0 (97 ∷ 41 ∷ []) 1
unfolding byte_class
ex3 = refuses 0 (97 ∷ 41 ∷ []) 1 (omega arith) (record { rest = []; tree = reads 97 97; whole = lone (last (with (plain refl) none)) }) (λ _. refl) (λ e. absurd (omega arith))
