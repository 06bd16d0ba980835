-- `clear` meets its contract.
use Rattle.std.proofs.Common.{refl, ◌∙◌, arith, length-take}
use Rattle.std.proofs.Math.ListN.{get_or-append}
use Rattle.grid.proofs.clear.Goals as goal

pub returns : goal.returns
returns c =
    record { cell = λ i h. get_or-append c.fill.new.self _ 0 i (omega (arith, c.fill.ensures.len, length-take 1024 c.args.cells.now)) ∙ c.fill.ensures.clones i 0 (omega (arith, length-take 1024 c.args.cells.now)) refl }
