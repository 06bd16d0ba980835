-- `emit` meets its contract: the table is written, or the room is as it was.
use Prim.Native.Nat.{suc}
use native.Mathlib.Omega.{arith}
use Rattle.std.proofs.Common.{rules}
use Rattle.layout.specs.Gather.{ones_length}
use Rattle.emit.specs.Cells.{arcs_in}
use Rattle.emit.specs.Wrote.{wrote_length}
use Rattle.emit.proofs.Whole.{rows_long, too_short, all_written}
use Rattle.emit.proofs.emit.Goals as goal

pub returns-then-room-words : goal.returns-then-room-words
returns-then-room-words c = too_short c.args.cells.now c.args.labels.now c.args.nul c.args.steps c.args.k _ c.rows-rows.ensures.1 _ c.if-room-words.true

pub write_ends-requires : goal.write_ends-requires
write_ends-requires c = omega (arith, c.put.ensures.wrote.next, wrote_length c.put.ensures.wrote, ones_length (λ x. arcs_in c.args.cells.now c.args.nul x 0) (suc c.args.steps))

pub write_rows-requires : goal.write_rows-requires
write_rows-requires c = omega (arith, c.put.ensures.wrote.next, wrote_length c.put.ensures.wrote, c.write_ends.ensures.wrote.next, wrote_length c.write_ends.ensures.wrote, ones_length (λ x. arcs_in c.args.cells.now c.args.nul x 0) (suc c.args.steps), rows_long c.args.cells.now c.args.labels.now c.args.nul c.args.steps c.args.k _ c.rows-rows.ensures.1)

pub returns : goal.returns
returns c =
    let w = all_written c.args.cells.now c.args.labels.now c.args.nul c.args.steps c.args.k _ c.rows-rows.ensures.1 _ _ _ _ _ _ _ c.if-room-words.false c.put.ensures.wrote c.write_ends.ensures.wrote c.write_rows.ensures.wrote in
    search rules
