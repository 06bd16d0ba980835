-- `write_rows` meets its contract. The invariant: the rows from the states before x are written.
use Prim.Native.Nat.{suc}
use native.Mathlib.Omega.{arith}
use Rattle.emit.specs.Cells.{cell_at, labels_in}
use Rattle.emit.specs.Wrote.{from_words}
use Rattle.emit.proofs.Laws.{puts_one, room_one}
use Rattle.emit.proofs.draft.Draft.write_rows.Goals as goal

pub write_from-requires-clause-fits : goal.write_from-requires-clause-fits
write_from-requires-clause-fits c = room_one (from_words (cell_at c.args.self.now.cells.now) (labels_in c.args.self.now.labels.now) c.args.self.now.steps) c.loop-x.x (suc c.args.self.now.steps) (omega arith) c.requires c.loop-x.invariant

pub loop-x-preserved : goal.loop-x-preserved
loop-x-preserved c =
    puts_one (from_words (cell_at c.args.self.now.cells.now) (labels_in c.args.self.now.labels.now) c.args.self.now.steps) c.loop-x.x c.loop-x.invariant c.write_from.ensures
