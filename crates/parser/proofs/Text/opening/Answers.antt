-- `Text::opening` meets its contract: the byte by its class, and a reserved byte by the match.
use mathlib.Core.Path.{sym, ap, ◌∙◌}
use mathlib.Core.Bool.{false}
use Prim.Native.Nat.{ℕ, ◌+◌, ◌*◌}
use lib.ListN.{get_or}
use Rattle.std.proofs.Common.{rules}
use Rattle.pattern.specs.Bytes.{byte_class}
use Rattle.parser.proofs.Cases.{seen, reserved, others}
use Rattle.parser.proofs.Leaves.{none_stuck, plain_done, any_done, empty_done, group_open}
use Rattle.parser.proofs.Parts.{fails_at, refuted}
use native.Mathlib.Omega.{arith}
use Rattle.parser.proofs.Text.opening.Goals as goal

pub returns-in-Plain : goal.returns-in-Plain
returns-in-Plain c = record { lo = _; hi = _; argument = c.bytes.ensures ∙ ap (λ (x : ℕ). x * 256 + x) c.byte_at-b.ensures; done = plain_done c.args.self.now.k c.args.self.now.bytes.now c.args.at (seen byte_class c.byte_at-b.ensures c.class_of.ensures c.in-Plain.is) }

pub returns-in-Illegal : goal.returns-in-Illegal
returns-in-Illegal c = fails_at c.no_pattern.ensures (none_stuck c.args.self.now.k c.args.self.now.bytes.now c.args.at c.requires (rw (seen byte_class c.byte_at-b.ensures c.class_of.ensures c.in-Illegal.is)))

pub returns-in-46 : goal.returns-in-46
returns-in-46 c = record { lo = 0; hi = 255; argument = c.bytes-in-46.ensures; done = any_done c.args.self.now.k c.args.self.now.bytes.now c.args.at (sym c.byte_at-b.ensures ∙ c.in-46.is) }

pub returns-in-126 : goal.returns-in-126
returns-in-126 c = empty_done c.args.self.now.k c.args.self.now.bytes.now c.args.at (sym c.byte_at-b.ensures ∙ c.in-126.is)

pub returns-in-40 : goal.returns-in-40
returns-in-40 c = group_open c.args.self.now.k c.args.self.now.bytes.now c.args.at (sym c.byte_at-b.ensures ∙ c.in-40.is)

pub returns-in_err-demand-in-123 : goal.returns-in_err-demand-in-123
returns-in_err-demand-in-123 c =
    let b = get_or c.args.self.now.bytes.now c.args.at 0 in
    let h = seen byte_class c.byte_at-b.ensures c.class_of.ensures c.in-Reserved.is in
    let e = sym c.byte_at-b.ensures ∙ c.in-123.is in
    refuted _ _ c.from_residual.result c.from_residual.ensures.1 c.in_err-demand-in-123.ensures (none_stuck c.args.self.now.k c.args.self.now.bytes.now c.args.at c.requires (sym (reserved c.args.self.now.k b 123 false h e c.in_err-demand-in-123.ensures.0)))

pub returns-in_default : goal.returns-in_default
returns-in_default c =
    let b = get_or c.args.self.now.bytes.now c.args.at 0 in
    let h = seen byte_class c.byte_at-b.ensures c.class_of.ensures c.in-Reserved.is in
    fails_at {place = c.args.at} (search rules) (none_stuck c.args.self.now.k c.args.self.now.bytes.now c.args.at c.requires (sym (others c.args.self.now.k b h (omega arith) (omega arith) (omega arith) (omega arith) (omega arith) (omega arith))))
