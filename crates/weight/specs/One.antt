-- Two results that satisfy the contract of a public function are equal.
--
-- lighter_one     Weight::lighter
-- sum_one         Weight::sum
use Rattle.std.specs.Prelude.{◌≡◌}
use Rattle.std.proofs.Common.{sym, ◌∙◌}
use Rattle.weight.specs.declared.Weight.{Weight}
use Rattle.weight.specs.Weight.{lighter, joint}

-- a weight is its number
by_number : (r s : Weight) → r.number ≡ s.number → r ≡ s
by_number r s e = λ i. record { number = e i }

pub lighter_one : (a b r s : Weight) → r.number ≡ lighter a.number b.number → s.number ≡ lighter a.number b.number → r ≡ s
lighter_one a b r s p q = by_number r s (p ∙ sym q)

pub sum_one : (a b r s : Weight) → r.number ≡ joint a.number b.number → s.number ≡ joint a.number b.number → r ≡ s
sum_one a b r s p q = by_number r s (p ∙ sym q)
