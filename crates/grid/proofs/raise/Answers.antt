-- `raise` meets its contract.
use Rattle.std.proofs.Common.{ℕ, ap, ◌∙◌, arith, length-take, get_or-take}
use Rattle.std.proofs.Math.ListN.{get_or-append}
use Rattle.weight.specs.Weight.{joint}
use Rattle.grid.specs.Cells.{extra}
use Rattle.grid.proofs.raise.Goals as goal

pub returns : goal.returns
returns c =
    record { cell = λ i h. get_or-append c.loop-i.cell-items _ 0 i (omega (arith, c.loop-i.invariant.long, length-take 1024 c.args.cells.now)) ∙ (c.loop-i.invariant.done i (omega (arith, c.loop-i.invariant.long, length-take 1024 c.args.cells.now)) ∙ ap (λ (v : ℕ). joint v (extra c.args.lo c.args.hi c.args.ending c.args.next c.args.beginning i)) (get_or-take 1024 c.args.cells.now i 0 h)) }
