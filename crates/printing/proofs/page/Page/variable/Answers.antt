-- `printing::page::Page::variable` puts the line of a variable, or nothing. Assumes nothing.
use borrow.Author.Tests.{le-ltb}
use Rattle.printing.specs.Page.{gets_then}
use Rattle.printing.proofs.page.Page.variable.Goals as goal

pub returns : goal.returns
returns c = rw (le-ltb _ _ c.if-k-i.false) (gets_then (gets_then c.keyed.ensures c.keyed-2.ensures) c.field.ensures)
