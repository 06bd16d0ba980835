-- `sweep`: from a right layer to the one before it, back to the line's start.
use Rattle.std.proofs.Common.{◌≡◌, arith}
use Rattle.layer.proofs.Sweeping.{answered}
use Rattle.layer.proofs.sweep.Goals as goal

pub returns : goal.returns
returns c =
    let e : c.loop-i.i ≡ 0 = omega arith in
    answered c.args.t.now c.args.line.now _ _ _ _ _ c.requires.right_table.0 (rw c.vars.ensures.vars at c.lowest.ensures.lowest) (rw e at c.loop-i.invariant.1) c.cell.ensures c.lighter.ensures
