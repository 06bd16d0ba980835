-- `Text::ranged` meets its contract: each place at which it stops is one of the five of a range.
use mathlib.Core.Path.{refl, ◌∙◌, ap₂}
use Prim.Native.Nat.{ℕ, ◌+◌, ◌*◌}
use lib.Dec.{eqb}
use borrow.Author.Tests.{leb-true}
use Rattle.pattern.specs.Bytes.{shown}
use Rattle.parser.proofs.Cases.{seen, is_byte, ordered}
use Rattle.parser.proofs.Leaves.{range_1, range_2, range_3, range_4, range_5}
use Rattle.parser.proofs.Parts.{refuted}
use Rattle.parser.proofs.Text.ranged.Goals as goal

pub returns-in_err-demand : goal.returns-in_err-demand
returns-in_err-demand c = refuted _ _ c.from_residual.result c.from_residual.ensures.1 c.in_err-demand.ensures (range_1 c.args.self.now.k c.args.self.now.bytes.now c.args.at c.requires.1 (seen shown c.byte_at-lo.ensures c.printable.ensures c.in_err-demand.ensures.0))

pub returns-in_err-demand-2 : goal.returns-in_err-demand-2
returns-in_err-demand-2 c = refuted _ _ c.from_residual-in_err-demand-2.result c.from_residual-in_err-demand-2.ensures.1 c.in_err-demand-2.ensures (range_2 c.args.self.now.k c.args.self.now.bytes.now c.args.at c.requires.1 (seen shown c.byte_at-lo.ensures c.printable.ensures c.in_ok-demand.ensures) (seen (λ b. eqb b 45) c.byte_at.ensures refl c.in_err-demand-2.ensures.0))

pub returns-in_err-demand-3 : goal.returns-in_err-demand-3
returns-in_err-demand-3 c = refuted _ _ c.from_residual-in_err-demand-3.result c.from_residual-in_err-demand-3.ensures.1 c.in_err-demand-3.ensures (range_3 c.args.self.now.k c.args.self.now.bytes.now c.args.at c.requires.1 (seen shown c.byte_at-lo.ensures c.printable.ensures c.in_ok-demand.ensures) (is_byte c.byte_at.ensures c.in_ok-demand-2.ensures) (rw (seen shown c.byte_at-hi.ensures c.printable-2.ensures c.in_err-demand-3.ensures.0)))

pub returns-in_err-demand-4 : goal.returns-in_err-demand-4
returns-in_err-demand-4 c = refuted _ _ c.from_residual-in_err-demand-4.result c.from_residual-in_err-demand-4.ensures.1 c.in_err-demand-4.ensures (range_3 c.args.self.now.k c.args.self.now.bytes.now c.args.at c.requires.1 (seen shown c.byte_at-lo.ensures c.printable.ensures c.in_ok-demand.ensures) (is_byte c.byte_at.ensures c.in_ok-demand-2.ensures) (rw ((seen shown c.byte_at-hi.ensures c.printable-2.ensures c.in_ok-demand-3.ensures), (ordered c.byte_at-lo.ensures c.byte_at-hi.ensures c.in_err-demand-4.ensures.0))))

pub returns-in_err-demand-5 : goal.returns-in_err-demand-5
returns-in_err-demand-5 c = refuted _ _ c.from_residual-in_err-demand-5.result c.from_residual-in_err-demand-5.ensures.1 c.in_err-demand-5.ensures (range_4 c.args.self.now.k c.args.self.now.bytes.now c.args.at c.requires.1 (seen shown c.byte_at-lo.ensures c.printable.ensures c.in_ok-demand.ensures) (is_byte c.byte_at.ensures c.in_ok-demand-2.ensures) (seen shown c.byte_at-hi.ensures c.printable-2.ensures c.in_ok-demand-3.ensures) (leb-true _ _ (ordered c.byte_at-lo.ensures c.byte_at-hi.ensures c.in_ok-demand-4.ensures)) (seen (λ b. eqb b 93) c.byte_at-2.ensures refl c.in_err-demand-5.ensures.0))

pub returns : goal.returns
returns c = record { lo = _; hi = _; argument = c.bytes.ensures ∙ ap₂ (λ (x y : ℕ). x * 256 + y) c.byte_at-lo.ensures c.byte_at-hi.ensures; done = range_5 c.args.self.now.k c.args.self.now.bytes.now c.args.at c.requires.1 (seen shown c.byte_at-lo.ensures c.printable.ensures c.in_ok-demand.ensures) (is_byte c.byte_at.ensures c.in_ok-demand-2.ensures) (seen shown c.byte_at-hi.ensures c.printable-2.ensures c.in_ok-demand-3.ensures) (leb-true _ _ (ordered c.byte_at-lo.ensures c.byte_at-hi.ensures c.in_ok-demand-4.ensures)) (is_byte c.byte_at-2.ensures c.in_ok-demand-5.ensures) }
