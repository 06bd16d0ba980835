-- `relax`: one row more at each turn.
use Rattle.std.proofs.Common.{◌≡◌, length, arith}
use Rattle.std.proofs.Math.Seq.{take-length}
use Rattle.table.specs.Table.{automaton_of}
use Rattle.layer.proofs.Relaxing.{relaxed_none, relaxed_row}
use Rattle.layer.proofs.cells.Layer.relax.Goals as goal

pub loop-i-init : goal.loop-i-init
loop-i-init c = relaxed_none _ _ _ _

pub loop-i-preserved : goal.loop-i-preserved
loop-i-preserved c = relaxed_row _ c.loop-i.i _ _ _ _ _ _ _ (omega arith) c.row.ensures.row c.loop-i.invariant c.relax_one.ensures

pub returns : goal.returns
returns c =
    let e : c.loop-i.i ≡ length (automaton_of c.args.plan.now.table.words.now).rows = omega arith in
    rw (e, take-length) at c.loop-i.invariant
