-- `table::right_label` decides the rule for kind and argument. Assumes nothing.
use Rattle.std.proofs.Common.{arith}
use Rattle.basics.specs.Decides.{leb_so}
use Rattle.table.proofs.Labels.{a_byte, a_marker}
use Rattle.table.proofs.right_label.Goals as goal

pub returns-in-0 : goal.returns-in-0
returns-in-0 c = a_byte _ _ _ _ c.in-0.is c.right_bytes.ensures

pub returns-then-argument-ge1 : goal.returns-then-argument-ge1
returns-then-argument-ge1 c = a_marker _ _ _ _ (λ e. omega arith) (omega arith) c.if-argument-ge1.true (leb_so _ _)
