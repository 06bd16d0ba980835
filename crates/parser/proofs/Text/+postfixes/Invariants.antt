-- `Text::postfixes` meets its contract; the bytes left fall.
use Rattle.std.proofs.Common.{◌-◌, length}
use Rattle.parser.proofs.Text.+postfixes.Given as goal

abbrev pub decreases-postfixes : goal.decreases-postfixes
decreases-postfixes l = length l.self.now.bytes.now - l.part.next
