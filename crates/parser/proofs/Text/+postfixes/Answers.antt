-- `Text::postfixes` meets its contract; the bytes left fall.
use mathlib.Core.Path.{sym, ◌∙◌}
use native.Mathlib.Omega.{arith}
use Rattle.parser.proofs.Cases.{unlike}
use Rattle.parser.proofs.Parts.{star_posted, mark_posted, none_posted}
use Rattle.parser.proofs.Text.+postfixes.Goals as goal

pub returns-in-42 : goal.returns-in-42
returns-in-42 t c = star_posted _ _ _ _ (sym c.byte_at.ensures ∙ c.in-42.is) c.again-passes.ensures.0 c.again-passes.ensures.1 c.postfixed.ensures c.postfixes.ensures

pub returns-in_ok-weight-in-35 : goal.returns-in_ok-weight-in-35
returns-in_ok-weight-in-35 t c = mark_posted _ _ c.in_ok-weight-in-35.ensures c.join-charged.ensures.0 c.join-charged.ensures.1 c.postfixed-in-35.ensures c.postfixes-in-35.ensures

pub returns-in_default : goal.returns-in_default
returns-in_default t c = none_posted (omega arith) (unlike 42 c.byte_at.ensures (omega arith), unlike 35 c.byte_at.ensures (omega arith))
