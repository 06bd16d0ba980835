-- `lines::ended` takes off the LF that is the line's last byte, if it is. Assumes nothing.
use Rattle.std.specs.Prelude.{[], ◌∷◌}
use Rattle.std.proofs.Common.{rules}
use Rattle.std.proofs.lemmas.Bool.Decides.{Decides-eqb}
use Rattle.std.proofs.lemmas.Slice.Eq.{strip_suffix_is}
use Rattle.lines.specs.Ends.{lf}
use Rattle.lines.proofs.ended.Goals as goal

pub returns : goal.returns
returns c = search (strip_suffix_is Decides-eqb c.args.line.now (lf ∷ []), rules)
