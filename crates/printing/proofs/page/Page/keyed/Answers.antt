-- `printing::page::Page::keyed` puts a key and a number. Assumes nothing.
use Rattle.printing.specs.Page.{gets_then}
use Rattle.printing.proofs.page.Page.keyed.Goals as goal

pub returns : goal.returns
returns c = gets_then c.text.ensures c.number.ensures
