-- `gather`: the marker rows among the rows passed stand in the first `count` words.
use Rattle.std.proofs.Common.{◌≤◌, take}
use Rattle.layer.specs.Layer.{Markers}
use Rattle.layer.proofs.plan.gather.Given as goal

abbrev pub invariant-loop-i : goal.invariant-loop-i
invariant-loop-i l = (l.count ≤ l.i) × Markers l.table.words.now l.i (take l.count l.marks)
