-- `gather`: the marker rows among the rows passed stand in the first `count` words.
use Rattle.std.proofs.Common.{◌≡◌, ◌<◌, ap, length, get_or, arith}
use Rattle.std.proofs.Math.ListN.{length-set}
use Rattle.table.specs.Rows.{table_rows}
use Rattle.layer.proofs.Gathering.{markers_none, gather_skip, gather_more}
use Rattle.layer.proofs.plan.gather.Goals as goal
use Rattle.layer.proofs.plan.gather.Goals.{then-row-ne-READS, else-row-ne-READS}

pub loop-i-init : goal.loop-i-init
loop-i-init c = (omega arith, markers_none _)

pub loop-i-preserved : goal.loop-i-preserved
loop-i-preserved c =
    let l = c.loop-i in
    elim c.if-row-ne-READS.branch [
      | then-row-ne-READS w ↦
          let room : l.count < length l.marks = omega (arith, simp length-set at (ap length w.marks-is)) in
          (omega arith, rw (w.marks-is, w.count-is) (gather_more _ l.i _ l.count l.marks _ c.args.table.now.right (omega arith) c.row.ensures.row w.if-row-ne-READS.true w.row_start.ensures.start room l.invariant.1))
      | else-row-ne-READS w ↦ (omega arith, rw (w.marks-is, w.count-is) (gather_skip _ l.i l.count l.marks _ (omega arith) c.row.ensures.row w.if-row-ne-READS.false l.invariant.1))
    ]

pub returns : goal.returns
returns c =
    let e : c.loop-i.i ≡ get_or c.args.table.now.words.now 2 0 = omega (arith, table_rows c.args.table.now.words.now) in
    rw e at c.loop-i.invariant.1
