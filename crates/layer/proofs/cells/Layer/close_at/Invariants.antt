-- `close_at`: one marker row more at each turn.
use Rattle.std.proofs.Common.{map, take}
use Rattle.table.specs.Table.{row_of_words}
use Rattle.layer.specs.Layer.{cells}
use Rattle.layer.specs.Parts.{ClosedAt}
use Rattle.layer.proofs.cells.Layer.close_at.Given as goal

abbrev pub invariant-loop-at : goal.invariant-loop-at
invariant-loop-at l = ClosedAt l.tolls (map (row_of_words l.plan.table.words.now) (take l.at-index l.plan.marks.now)) l.u (cells l.initial.self) (cells l.self)
