-- `Text::escape` meets its contract.
use mathlib.Core.Path.{ap, ◌∙◌}
use Prim.Native.Nat.{ℕ, ◌+◌, ◌*◌}
use Rattle.pattern.specs.Bytes.{shown}
use Rattle.parser.proofs.Cases.{seen}
use Rattle.parser.proofs.Leaves.{esc_stuck, esc_done}
use Rattle.parser.proofs.Parts.{refuted}
use Rattle.parser.proofs.Text.escape.Goals as goal

pub returns-in_err-demand : goal.returns-in_err-demand
returns-in_err-demand c = refuted _ _ c.from_residual.result c.from_residual.ensures.1 c.in_err-demand.ensures (esc_stuck c.args.self.now.k c.args.self.now.bytes.now c.args.at c.requires.1 (seen shown c.byte_at-b.ensures c.printable.ensures c.in_err-demand.ensures.0))

pub returns : goal.returns
returns c = record { lo = _; hi = _; argument = c.bytes.ensures ∙ ap (λ (x : ℕ). x * 256 + x) c.byte_at-b.ensures; done = esc_done c.args.self.now.k c.args.self.now.bytes.now c.args.at c.requires.1 (seen shown c.byte_at-b.ensures c.printable.ensures c.in_ok-demand.ensures) }
