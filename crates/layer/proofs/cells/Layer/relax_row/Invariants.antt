-- `relax_row`: the loop goes on from the settings that are done to one more.
use Rattle.cell.specs.Value.{value}
use Rattle.layer.specs.Layer.{cells}
use Rattle.layer.specs.Parts.{RowRelaxed}
use Rattle.layer.proofs.cells.Layer.relax_row.Given as goal

abbrev pub invariant-loop-u : goal.invariant-loop-u
invariant-loop-u l = RowRelaxed l.low l.from l.to (value l.price) l.u (cells l.old) (cells l.initial.self) (cells l.self)
