-- `Text::captured` meets its contract: each place at which it stops is one of the two of a `{`, and else a capture is opened.
use mathlib.Core.Path.{refl}
use lib.Dec.{eqb, leb}
use borrow.Author.Tests.{le-leb, lt-leb, leb-true, leb-false}
use Rattle.parser.proofs.Cases.{seen, is_byte, above, over, under}
use Rattle.parser.proofs.Leaves.{capture_1, capture_2, capture_3}
use Rattle.parser.proofs.Parts.{refuted}
use Rattle.parser.proofs.Text.captured.Goals as goal

pub returns-in_err-demand : goal.returns-in_err-demand
returns-in_err-demand c = refuted _ _ c.from_residual.result c.from_residual.ensures.1 c.in_err-demand.ensures (capture_1 c.args.self.now.k c.args.self.now.bytes.now c.args.at c.requires.1 c.requires.2 (rw (seen (leb 49) c.byte_at-d.ensures refl c.in_err-demand.ensures.0)))

pub returns-in_err-demand-2 : goal.returns-in_err-demand-2
returns-in_err-demand-2 c = refuted _ _ c.from_residual-in_err-demand-2.result c.from_residual-in_err-demand-2.ensures.1 c.in_err-demand-2.ensures (capture_1 c.args.self.now.k c.args.self.now.bytes.now c.args.at c.requires.1 c.requires.2 (rw (le-leb 49 _ (above c.byte_at-d.ensures (leb-true _ _ c.in_ok-demand.ensures)), lt-leb _ _ (over c.byte_at-d.ensures c.from-variable.ensures (leb-false _ _ c.in_err-demand-2.ensures.0)))))

pub returns-in_err-demand-3 : goal.returns-in_err-demand-3
returns-in_err-demand-3 c = refuted _ _ c.from_residual-in_err-demand-3.result c.from_residual-in_err-demand-3.ensures.1 c.in_err-demand-3.ensures (capture_2 c.args.self.now.k c.args.self.now.bytes.now c.args.at c.requires.1 c.requires.2 (above c.byte_at-d.ensures (leb-true _ _ c.in_ok-demand.ensures)) (under c.byte_at-d.ensures c.from-variable.ensures (leb-true _ _ c.in_ok-demand-2.ensures)) (seen (λ b. eqb b 58) c.byte_at.ensures refl c.in_err-demand-3.ensures.0))

pub returns : goal.returns
returns c = rw (c.from-variable.ensures, c.byte_at-d.ensures) (capture_3 c.args.self.now.k c.args.self.now.bytes.now c.args.at c.requires.1 c.requires.2 (above c.byte_at-d.ensures (leb-true _ _ c.in_ok-demand.ensures)) (under c.byte_at-d.ensures c.from-variable.ensures (leb-true _ _ c.in_ok-demand-2.ensures)) (is_byte c.byte_at.ensures c.in_ok-demand-3.ensures))
