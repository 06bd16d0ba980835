-- `reader::best_reading` answers with the best reading, no reading, 7 or 8. Assumes nothing.
use native.Mathlib.Omega.{arith}
use Rattle.reader.specs.Cases.{readable, open_ranges, best_read, none_read}
use Rattle.reader.proofs.best_reading.Goals as goal

pub returns-then-eq : goal.returns-then-eq
returns-then-eq c =
    let r = readable c.in_default.ensures in
    none_read r.right r.short c.sweep-cell.result.weight c.sweep-cell.result.key (omega arith) _ open_ranges c.sweep-cell.ensures (grind (arith, c.eq.ensures))

pub returns : goal.returns
returns c =
    let r = readable c.in_default.ensures in
    rw c.spans_of-spans.ensures (best_read r.right r.short c.sweep-cell.result.weight c.sweep-cell.result.key (omega arith) _ open_ranges c.sweep-cell.ensures (grind (arith, c.eq.ensures)))
