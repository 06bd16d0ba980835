-- `printing::page::Page::variables` puts the lines of the variables. Assumes nothing.
use Rattle.printing.specs.Page.{gets_then}
use Rattle.printing.proofs.page.Page.variables.Goals as goal

pub returns : goal.returns
returns c = gets_then (gets_then c.variable.ensures c.variable-2.ensures) c.variable-3.ensures
