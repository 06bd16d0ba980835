-- `reads`: the tests of the kind and of the two ends of the range.
use Rattle.std.proofs.Common.{sym, ◌∙◌, eq-eqb, ne_eqb}
use Rattle.std.proofs.lemmas.Bool.{false≢true}
use Rattle.marks.specs.Labels.{reads as readsb}
use Rattle.layer.proofs.cells.reads.Goals as goal
use Rattle.layer.proofs.cells.reads.Goals.{then-r-eq-READS, else-r-eq-READS}

pub returns-then-r-b : goal.returns-then-r-b
unfolding readsb
returns-then-r-b c =
    elim c.if-r-eq-READS.branch [
      | then-r-eq-READS w ↦ rw (eq-eqb _ _ w.if-r-eq-READS.true, sym w.value-is ∙ c.if-r-b.true)
      | else-r-eq-READS w ↦ absurd (false≢true (sym (ne_eqb _ _ w.if-r-eq-READS.false) ∙ sym w.value-is ∙ c.if-r-b.true))
    ]

pub returns-else-r-b : goal.returns-else-r-b
unfolding readsb
returns-else-r-b c =
    elim c.if-r-eq-READS.branch [
      | then-r-eq-READS w ↦ rw (eq-eqb _ _ w.if-r-eq-READS.true, sym w.value-is ∙ c.if-r-b.false) c.if-r-b.false
      | else-r-eq-READS w ↦ rw (ne_eqb _ _ w.if-r-eq-READS.false) c.if-r-b.false
    ]
