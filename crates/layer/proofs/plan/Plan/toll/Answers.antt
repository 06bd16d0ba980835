-- `toll`: the two tests of the range, and a product that fits.
use Rattle.std.proofs.Common.{◌<◌, ◌*◌, arith}
use borrow.Author.Tests.{lt-leb, le-leb}
use Rattle.togo.specs.Price.{base}
use Rattle.layer.specs.Layer.{toll_of}
use Rattle.layer.proofs.Rightness.{toll_open}
use Rattle.layer.proofs.plan.Plan.toll.Goals as goal
use Rattle.layer.proofs.plan.Plan.toll.Goals.{then-p-self-via-then-p-self, then-p-self-via-else-p-self+then-self-m}

pub overflow_mul-result : goal.overflow_mul-result
overflow_mul-result c =
    let h : c.digit.result * c.place.result < base = rw (c.digit.ensures, c.place.ensures) (toll_open _ _ c.requires.0 c.requires.1) in
    omega arith

pub returns-then-p-self : goal.returns-then-p-self
unfolding toll_of
returns-then-p-self c =
    elim c.then-p-self.branch [
      | then-p-self-via-then-p-self w ↦ rw (lt-leb _ _ w.if-p-self.true)
      | then-p-self-via-else-p-self+then-self-m w ↦ rw (le-leb _ _ w.if-p-self.false, lt-leb _ _ w.if-self-m.true)
    ]

pub returns : goal.returns
unfolding toll_of
returns c = rw (le-leb _ _ c.if-p-self.false, le-leb _ _ c.if-self-m.false, c.digit.ensures, c.place.ensures)
