-- `card::first` answers for the first line of a card. Assumes nothing.
use Rattle.std.proofs.Common.{arith}
use Rattle.card.specs.Bytes.{no_first, not_begun}
use Rattle.card.proofs.first.Goals as goal
use Rattle.card.proofs.first.Goals.{then-text-lt-LINE_TWO-via-then-text-lt-LINE_TWO, then-text-lt-LINE_TWO-via-else-text-lt-LINE_TWO+then-not-starts_with, then-not-is_ascii_digit-via-then-not-is_ascii_digit, then-not-is_ascii_digit-via-else-not-is_ascii_digit+then-text-ne-LF}

pub returns-then-text-lt-LINE_TWO : goal.returns-then-text-lt-LINE_TWO
returns-then-text-lt-LINE_TWO c = no_first _ (λ K f. elim c.then-text-lt-LINE_TWO.branch [ then-text-lt-LINE_TWO-via-then-text-lt-LINE_TWO w ↦ omega (arith, f.long) | then-text-lt-LINE_TWO-via-else-text-lt-LINE_TWO+then-not-starts_with w ↦ not_begun _ _ _ w.starts_with.ensures.value w.if-not-starts_with.true f.key ])

pub returns-then-not-is_ascii_digit : goal.returns-then-not-is_ascii_digit
returns-then-not-is_ascii_digit c = no_first _ (λ K f. elim c.then-not-is_ascii_digit.branch [ then-not-is_ascii_digit-via-then-not-is_ascii_digit w ↦ grind (arith, f.digit, f.decimal) | then-not-is_ascii_digit-via-else-not-is_ascii_digit+then-text-ne-LF w ↦ w.if-text-ne-LF.true f.ended ])
