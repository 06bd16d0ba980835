-- `Text::atom`, `factor`, `pattern` and `term` meet their contracts: four times the bytes left, and one more for each of these, fall.
use Rattle.std.proofs.Common.{◌+◌, ◌-◌, ◌*◌, length}
use Rattle.parser.proofs.Text.+atom_factor_pattern_term.Given as goal

abbrev pub decreases-atom : goal.decreases-atom
decreases-atom l = 4 * (length l.self.now.bytes.now - l.at)

abbrev pub decreases-factor : goal.decreases-factor
decreases-factor l = 4 * (length l.self.now.bytes.now - l.at) + 1

abbrev pub decreases-pattern : goal.decreases-pattern
decreases-pattern l = 4 * (length l.self.now.bytes.now - l.at) + 3

abbrev pub decreases-term : goal.decreases-term
decreases-term l = 4 * (length l.self.now.bytes.now - l.at) + 2
