-- `reader::digit` divides by a place of a key. Assumes nothing.
use Rattle.reader.proofs.Places.{place}
use Rattle.reader.proofs.digit.Goals as goal

pub pow-requires : goal.pow-requires
pow-requires c = (place c.args.m c.requires).1

pub nonzero_div-result : goal.nonzero_div-result
nonzero_div-result c = rw c.pow.ensures (place c.args.m c.requires).0
