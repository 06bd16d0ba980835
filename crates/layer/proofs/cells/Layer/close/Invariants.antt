-- `close`: one setting less at each turn, down to the lowest in use.
use Rattle.std.proofs.Common.{map, ◌≤◌}
use Rattle.table.specs.Table.{row_of_words}
use Rattle.layer.specs.Layer.{cells, Closed}
use Rattle.layer.proofs.cells.Layer.close.Given as goal

abbrev pub invariant-loop-u : goal.invariant-loop-u
invariant-loop-u l = (l.plan.low ≤ l.u) × Closed l.u l.tolls (map (row_of_words l.plan.table.words.now) l.plan.marks.now) (cells l.initial.self) (cells l.self)
