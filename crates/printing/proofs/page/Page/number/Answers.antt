-- `printing::page::Page::number` puts a number's decimal digits. Assumes nothing.
use native.Mathlib.Omega.{arith}
use Rattle.printing.specs.Decimal.{digits_put}
use Rattle.printing.proofs.page.Page.number.Goals as goal

pub returns : goal.returns
returns c =
    record {
      same_reference = c.text.ensures.same_reference;
      put = digits_put c.args.n c.from.result c.decimal-k.result _ c.from.ensures (omega arith) c.decimal-k.ensures.len c.decimal-k.ensures.digits c.text.ensures.put;
    }
