-- `write_ends` meets its contract. The invariant: the end words of the states before x are written.
use Prim.Native.Nat.{suc}
use mathlib.Core.List.{[], ◌∷◌}
use native.Mathlib.Omega.{arith}
use Rattle.emit.specs.Cells.{arcs_in}
use Rattle.emit.proofs.Laws.{puts_one, room_one}
use Rattle.emit.proofs.draft.Draft.write_ends.Goals as goal

pub put-requires : goal.put-requires
put-requires c = room_one (λ x. arcs_in c.args.self.now.cells.now c.args.self.now.nul x 0 ∷ []) c.loop-x.x (suc c.args.self.now.steps) (omega arith) c.requires c.loop-x.invariant

pub loop-x-preserved : goal.loop-x-preserved
loop-x-preserved c =
    puts_one (λ x. arcs_in c.args.self.now.cells.now c.args.self.now.nul x 0 ∷ []) c.loop-x.x c.loop-x.invariant (rw c.end.ensures at c.put.ensures)
