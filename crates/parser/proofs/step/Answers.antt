-- `parser::step` meets its contract.
use Rattle.std.specs.Prelude.{◌≡◌}
use mathlib.Core.Path.{refl}
use native.Mathlib.Omega.{arith}
use denote.Enum.Declared.{tag_of}
use Rattle.parser.specs.declared.Kind.{Kind}
use Rattle.parser.specs.declared.Kind.TheVariants.{Reads, Opens, Closes}
use Rattle.parser.specs.contracts.Kind.{the_type}
use Rattle.parser.specs.Grown.{numbered}
use Rattle.parser.proofs.Growth.{labelled_one}
use Rattle.parser.proofs.step.Goals as goal

number : (k : Kind) → tag_of the_type k ≡ numbered k
number Reads = refl
number Opens = refl
number Closes = refl

pub returns-then-o-lt-STEPS : goal.returns-then-o-lt-STEPS
returns-then-o-lt-STEPS c = record { root = c.leaf.ensures.0; leaf = λ h. c.leaf.ensures.1; labelled = λ h. rw (number c.args.kind) (labelled_one (numbered c.args.kind) c.args.argument c.args.o c.args.labels.now (omega arith)) }
