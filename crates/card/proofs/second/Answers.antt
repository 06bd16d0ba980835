-- `card::second` answers for a card whose first line is right. Assumes nothing.
use Rattle.card.specs.Form.{pattern_key}
use Rattle.card.specs.Bytes.{line_second, no_line, no_second, both_right, from_on, begun, not_begun}
use Rattle.card.proofs.second.Goals as goal

pub returns-then-not-starts_with : goal.returns-then-not-starts_with
returns-then-not-starts_with c = no_second _ _ c.requires (λ p lines l. not_begun _ _ _ (from_on 7 c.args.text.now pattern_key _ c.starts_with.ensures.value) c.if-not-starts_with.true (line_second c.args.text.now p lines l).key)

pub returns-then-text-to : goal.returns-then-text-to
returns-then-text-to c = no_second _ _ c.requires (λ p lines l. no_line c.args.text.now p lines c.line_end-to.result c.line_end-to.ensures c.if-text-to.true l)

pub returns : goal.returns
returns c = both_right _ _ _ c.requires (begun _ _ _ (from_on 7 c.args.text.now pattern_key _ c.starts_with.ensures.value) c.if-not-starts_with.false) c.line_end-to.ensures c.if-text-to.false
