-- `rows_from`: n of the weights before this one are arcs.
use Rattle.std.specs.Prelude.{◌≡◌, take, count_by}
use lib.Dec.{ltb}
use Rattle.weight.specs.Weight.{mark}
use Rattle.emit.proofs.draft.Draft.rows_from.Given as goal

abbrev pub invariant-loop-weight : goal.invariant-loop-weight
invariant-loop-weight l = l.n ≡ count_by (λ w. ltb w mark) (take l.weight-index l.weight-items)
