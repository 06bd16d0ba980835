-- `sweep`: from a right layer to the one before it, back to the line's start.
use Rattle.std.proofs.Common.{◌+◌, ◌≤◌, length, drop}
use Rattle.table.specs.Table.{automaton_of}
use Rattle.togo.specs.Price.{allowed}
use Rattle.layer.specs.Layer.{cells, Right}
use Rattle.layer.proofs.sweep.Given as goal

abbrev pub invariant-loop-i : goal.invariant-loop-i
invariant-loop-i l = (l.i ≤ length l.line) × Right (allowed l.lo l.hi) (automaton_of l.t) (drop l.i l.line) (l.i + 1) (cells l.l)
