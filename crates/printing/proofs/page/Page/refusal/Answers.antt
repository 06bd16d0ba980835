-- `printing::page::Page::refusal` puts a refusal. Assumes nothing.
use Rattle.printing.specs.Page.{gets_then}
use Rattle.printing.proofs.page.Page.refusal.Goals as goal

pub returns : goal.returns
returns c = gets_then (gets_then c.text.ensures c.field.ensures) c.field-2.ensures
