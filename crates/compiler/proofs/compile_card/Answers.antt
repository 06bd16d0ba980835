-- `compiler::compile_card` answers with number 10, or as `compile` does of the card's pattern. Assumes nothing.
use mathlib.Core.Path.{refl}
use Rattle.card.specs.Part.{stands}
use Rattle.compiler.specs.Answers.{right}
use Rattle.compiler.proofs.compile_card.Goals as goal

pub returns : goal.returns
returns c = let s = stands refl c.in_ok-form.ensures in right s.card (rw s.part at c.compile.ensures)
