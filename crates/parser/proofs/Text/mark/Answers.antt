-- `Text::mark` meets its contract: each place at which it stops is one of the three digits of a weight mark.
use Rattle.parser.proofs.Marks.{mark_1, mark_2, mark_3, mark_4, charged}
use Rattle.parser.proofs.Parts.{refuted}
use Rattle.parser.proofs.Text.mark.Goals as goal

pub returns-in_err-x : goal.returns-in_err-x
returns-in_err-x c = refuted _ _ c.from_residual.result c.from_residual.ensures.1 c.in_err-x.ensures (mark_1 c.args.self.now.bytes.now c.args.at c.requires.1 c.in_err-x.ensures.0)

pub returns-in_err-y : goal.returns-in_err-y
returns-in_err-y c = refuted _ _ c.from_residual-in_err-y.result c.from_residual-in_err-y.ensures.1 c.in_err-y.ensures (mark_2 c.args.self.now.bytes.now c.args.at c.requires.1 c.in_ok-x.ensures.0 c.in_err-y.ensures.0)

pub returns-in_err-z : goal.returns-in_err-z
returns-in_err-z c = refuted _ _ c.from_residual-in_err-z.result c.from_residual-in_err-z.ensures.1 c.in_err-z.ensures (mark_3 c.args.self.now.bytes.now c.args.at c.requires.1 c.in_ok-x.ensures.0 c.in_ok-y.ensures.0 c.in_err-z.ensures.0)

pub returns : goal.returns
returns c = charged _ _ _ c.in_ok-x.ensures.1 c.in_ok-y.ensures.1 c.in_ok-z.ensures.1 c.level.ensures (mark_4 c.args.self.now.bytes.now c.args.at c.requires.1 c.in_ok-x.ensures.0 c.in_ok-y.ensures.0 c.in_ok-z.ensures.0)
