-- `relax_one`: a row that reads the byte is relaxed, another brings nothing.
use Rattle.std.proofs.Common.{sym, ◌∙◌}
use Rattle.layer.proofs.Relaxing.{one_yes, one_no}
use Rattle.layer.proofs.cells.Layer.relax_one.Goals as goal

pub returns-then-reads : goal.returns-then-reads
returns-then-reads c = one_yes _ _ _ _ _ _ (sym c.reads.ensures ∙ c.if-reads.true) c.relax_row.ensures

pub returns-else-reads : goal.returns-else-reads
returns-else-reads c = one_no _ _ _ _ _ (sym c.reads.ensures ∙ c.if-reads.false)
