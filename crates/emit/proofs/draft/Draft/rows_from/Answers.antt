-- `rows_from` meets its contract.
use Rattle.std.specs.Prelude.{◌≡◌, ◌+◌, ◌*◌, length, slice_range}
use Rattle.std.proofs.Common.{◌∙◌, arith}
use Rattle.std.proofs.Math.Seq.{take-length}
use Rattle.emit.specs.Cells.{labels_in}
use Rattle.emit.proofs.Laws.{counted_rows, counted_few}
use Rattle.emit.proofs.draft.Draft.rows_from.Goals as goal

pub returns : goal.returns
returns c =
    let first = c.args.x * 32 + 1 in
    let last = first + c.args.self.now.steps in
    let all : c.loop-weight.weight-index ≡ length (slice_range c.args.self.now.cells.now first last) = omega (arith, c.loop-weight-test.false, c.loop-weight.auto.weight-index-end) in
    let e = rw (all, take-length (slice_range c.args.self.now.cells.now first last)) at c.loop-weight.invariant in
    (omega (arith, e, counted_few c.args.self.now.cells.now first c.args.self.now.steps), e ∙ counted_rows c.args.self.now.cells.now (labels_in c.args.self.now.labels.now) c.args.x c.args.self.now.steps (omega arith))
