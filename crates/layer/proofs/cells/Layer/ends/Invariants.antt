-- `ends`: one end word more at each turn.
use Rattle.layer.specs.Parts.{Ended}
use Rattle.layer.proofs.cells.Layer.ends.Given as goal

abbrev pub invariant-loop-q : goal.invariant-loop-q
invariant-loop-q l = Ended l.table.words.now l.q l.initial.self l.self
