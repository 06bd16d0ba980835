-- `tables::numbers::Numbers::number`: the measure is what is left of the text.
use Rattle.std.proofs.Common.{length}
use Rattle.tables.proofs.numbers.Numbers.number.Given as goal

abbrev pub decreases-loop-byte : goal.decreases-loop-byte
decreases-loop-byte l = length l.self.rest.now
