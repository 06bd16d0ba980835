-- `Table::row`: the five words of each row.
use Rattle.std.proofs.Common.{sym, ◌∙◌}
use Rattle.table.specs.Table.{automaton_of}
use Rattle.table.specs.Rows.{table_row, table_right}
use Rattle.table.proofs.right.Table.row.Goals as goal

pub returns : goal.returns
unfolding automaton_of
returns c =
    let ws = c.args.self.now.words.now in
    let e = rw c.row_start.ensures.start at c.row_at.ensures in
    record { row = e ∙ sym (table_row ws c.args.i c.row_at.result c.requires); right = table_right ws c.args.i c.row_at.result c.args.self.now.right c.requires e }
