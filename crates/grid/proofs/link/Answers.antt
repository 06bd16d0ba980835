-- `link` meets its contract. The invariant: the cells before i are done, the others as they were; what `bridge` reads is on the
-- edges, which linking leaves as they are.
use mathlib.Core.Path.{ap, ◌∙◌}
use native.Mathlib.Omega.{arith}
use Rattle.weight.specs.Weight.{lighter}
use Rattle.grid.proofs.Laws.{done_more, link_next}
use Rattle.grid.proofs.link.Goals as goal

pub loop-i-preserved : goal.loop-i-preserved
loop-i-preserved c =
    let inv = c.loop-i.invariant in
    done_more _ _ _ _ _ (omega arith) (omega arith) (c.lighter.ensures ∙ ap (lighter _) c.bridge.ensures ∙ link_next _ _ _ _ _ _ inv) inv
