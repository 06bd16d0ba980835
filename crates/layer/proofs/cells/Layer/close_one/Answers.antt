-- `close_one`: a row whose marker may not be taken, or leads to an empty cell, brings nothing; another is written at its own state and setting.
use Rattle.std.proofs.Common.{refl}
use Rattle.layer.proofs.Closing.{moved, one_out, one_shut, none_left, one_dead, one_write}
use Rattle.layer.proofs.cells.Layer.close_one.Goals as goal

pub returns-then-d-ge-SETTINGS : goal.returns-then-d-ge-SETTINGS
returns-then-d-ge-SETTINGS c = one_out _ _ _ _ _ (moved _ _ _ _ c.args.r c.args.plan.now.settled c.requires.u_bound c.marker-m.ensures refl) c.if-d-ge-SETTINGS.true

pub returns-in_default : goal.returns-in_default
returns-in_default c = one_shut _ _ _ _ _ c.marker-m.ensures.0 (none_left _ c.in_default.not-Some)

pub returns-then-far : goal.returns-then-far
returns-then-far c = one_dead _ _ _ _ _ _ _ (moved _ _ _ _ c.args.r c.args.plan.now.settled c.requires.u_bound c.marker-m.ensures refl) c.cell-far.ensures c.if-far.true

pub returns : goal.returns
returns c = let m = c.marker-m.ensures in
    let d = moved _ _ _ _ c.args.r c.args.plan.now.settled c.requires.u_bound m refl in
    one_write _ _ _ _ c.requires.right_row.1 (rw d at c.if-d-ge-SETTINGS.false) _ (rw m.0 at c.in-Some.is) c.requires.u_bound _ _ (rw d at c.cell-far.ensures) c.take.ensures
