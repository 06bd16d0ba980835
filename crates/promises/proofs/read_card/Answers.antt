-- `promises::read_card` answers by the card's text. Assumes nothing.
use mathlib.Core.Path.{refl}
use Rattle.std.proofs.Common.{rules}
use Rattle.promises.specs.Compose.{refused_as, read_so}
use Rattle.promises.proofs.read_card.Goals as goal

pub returns-in-Err : goal.returns-in-Err
returns-in-Err c = refused_as refl c.in-Err.ensures (search rules)

pub returns-in-Ok : goal.returns-in-Ok
returns-in-Ok c = read_so refl c.in-Ok.ensures c.best_reading.ensures
