-- `printing::page::Page::answer` puts an answer. Assumes nothing.
use Rattle.printing.specs.Page.{gets_then}
use Rattle.printing.proofs.page.Page.answer.Goals as goal

pub returns-in-Reading : goal.returns-in-Reading
returns-in-Reading c = rw c.in-Reading.is (gets_then (gets_then (gets_then c.field.ensures c.text.ensures) c.field-in-Reading.ensures) c.variables.ensures)

pub returns-in-NoReading : goal.returns-in-NoReading
returns-in-NoReading c = rw c.in-NoReading.is (gets_then c.field.ensures c.text-in-NoReading.ensures)

pub returns-in-Refused : goal.returns-in-Refused
returns-in-Refused c = rw c.in-Refused.is (gets_then c.field.ensures c.refusal.ensures)
