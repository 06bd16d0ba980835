-- `Table::row_start`: a right table is long enough for its rows.
use Rattle.std.proofs.Common.{arith}
use Rattle.table.specs.Rows.{table_room}
use Rattle.table.proofs.right.Table.row_start.Goals as goal

pub returns-clause-within : goal.returns-clause-within
returns-clause-within c = omega (arith, table_room c.args.self.now.words.now c.args.i c.args.self.now.right c.requires)
