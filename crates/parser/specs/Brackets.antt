-- METHOD. A bracket.
--
-- closed_by b      the byte that closes it
-- wrapped b        what it makes of the tree inside
use Rattle.std.specs.Prelude.{ℕ}
use Rattle.pattern.specs.Grammar.{Pat, capture, grouped}
use Rattle.parser.specs.declared.Bracket.{Bracket}
use Rattle.parser.specs.declared.Bracket.TheVariants.{Group, Capture}

abbrev pub closed_by : Bracket → ℕ
closed_by Group = 41
closed_by (Capture v) = 125

abbrev pub wrapped : Bracket → Pat → Pat
wrapped Group a = grouped a
wrapped (Capture v) a = capture v a
