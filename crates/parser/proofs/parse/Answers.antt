-- `parser::parse` meets its contract.
use native.Mathlib.Omega.{arith}
use borrow.Author.Tests.{eqb-true, eqb-false}
use Rattle.pattern.specs.Joins.{refused, refused_after}
use Rattle.parser.specs.Result.{is_text}
use Rattle.parser.proofs.Parts.{read_whole, read_on, no_text_at, fails_at}
use Rattle.parser.proofs.parse.Goals as goal

pub returns-in_err-part : goal.returns-in_err-part
returns-in_err-part c = no_text_at c.from_residual.result c.from_residual.ensures.1 c.in_err-part.ensures (λ _ d. refused d)

pub returns-in_err-demand : goal.returns-in_err-demand
returns-in_err-demand c =
    let d = c.in_err-demand.ensures in
    no_text_at c.from_residual-in_err-demand.result c.from_residual-in_err-demand.ensures.1 (fails_at d.1 (refused_after c.in_ok-part.ensures.is (omega (arith, eqb-false _ _ d.0, c.in_ok-part.ensures.is.within)))) (λ _ d. d)

pub returns : goal.returns
returns c = is_text (read_on _ _ (omega arith) (omega arith) (read_whole (omega arith) c.clear.ensures c.in_ok-part.ensures (omega (arith, eqb-true _ _ c.in_ok-demand.ensures))))
