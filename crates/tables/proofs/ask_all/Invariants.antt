-- `tables::ask_all`: the measure is how many questions may still be asked.
use Rattle.std.proofs.Common.{◌-◌}
use Rattle.tables.proofs.ask_all.Given as goal

abbrev pub decreases-loop-numbers : goal.decreases-loop-numbers
decreases-loop-numbers g l = 1000000 - l.tally.asked
