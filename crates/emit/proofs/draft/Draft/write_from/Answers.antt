-- `write_from` meets its contract. The invariant: the rows to the steps before p are written.
use native.Mathlib.Omega.{arith}
use Rattle.emit.specs.Cells.{cell_at, labels_in}
use Rattle.emit.specs.Wrote.{arrow_words}
use Rattle.emit.proofs.Laws.{puts_one, room_one, row_long, no_row}
use Rattle.emit.proofs.draft.Draft.write_from.Goals as goal
use Rattle.emit.proofs.draft.Draft.write_from.Goals.{in-Some, in_default}

pub put_row-requires : goal.put_row-requires
put_row-requires c = omega (arith, row_long _ _ c.in-Some.ensures, room_one (arrow_words (cell_at c.args.self.now.cells.now) (labels_in c.args.self.now.labels.now) c.args.x) c.loop-p.p c.args.self.now.steps (omega arith) c.requires.fits c.loop-p.invariant)

pub loop-p-preserved : goal.loop-p-preserved
loop-p-preserved c =
    elim c.match-row.branch [
      | in-Some w ↦ rw w.table-is (puts_one (arrow_words (cell_at c.args.self.now.cells.now) (labels_in c.args.self.now.labels.now) c.args.x) c.loop-p.p c.loop-p.invariant (rw w.in-Some.ensures at w.put_row.ensures))
      | in_default w ↦ rw w.table-is (puts_one (arrow_words (cell_at c.args.self.now.cells.now) (labels_in c.args.self.now.labels.now) c.args.x) c.loop-p.p c.loop-p.invariant (no_row _ _ w.in_default.ensures))
    ]
