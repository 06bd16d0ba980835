-- `Table::end`: a right table is long enough for its end words.
use Rattle.std.proofs.Common.{sym, arith}
use Rattle.table.specs.Table.{automaton_of}
use Rattle.table.specs.Rows.{end_word}
use Rattle.table.proofs.right.Table.end.Goals as goal

pub overflow_add-result : goal.overflow_add-result
unfolding automaton_of
overflow_add-result c = omega (arith, c.args.self.now.right.states)

pub offset_bounds-self-q : goal.offset_bounds-self-q
unfolding automaton_of
offset_bounds-self-q c = omega (arith, c.args.self.now.right.states)

pub bounds-self-q : goal.bounds-self-q
unfolding automaton_of
bounds-self-q c = omega (arith, c.args.self.now.right.long)

pub returns : goal.returns
unfolding automaton_of
returns c = sym (end_word c.args.self.now.words.now c.args.self.now.right c.args.q c.requires)
