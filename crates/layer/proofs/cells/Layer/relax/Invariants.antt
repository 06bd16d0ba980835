-- `relax`: one row more at each turn.
use Rattle.std.proofs.Common.{take}
use Rattle.table.specs.Table.{automaton_of}
use Rattle.layer.specs.Layer.{cells, Relaxed}
use Rattle.layer.proofs.cells.Layer.relax.Given as goal

abbrev pub invariant-loop-i : goal.invariant-loop-i
invariant-loop-i l = Relaxed l.plan.low l.b (take l.i (automaton_of l.plan.table.words.now).rows) (cells l.old) (cells l.initial.self) (cells l.self)
