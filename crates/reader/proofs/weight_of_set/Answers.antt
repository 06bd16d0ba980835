-- `reader::weight_of_set` answers with the weight of a set, 7, 8 or 9. Assumes nothing.
use mathlib.Core.Path.{sym, subst}
use native.Mathlib.Omega.{arith}
use Rattle.std.specs.Prelude.{length}
use Rattle.spans.specs.Spans.{SetOfSpans}
use Rattle.table.specs.Table.{automaton_of}
use Rattle.reader.specs.Cases.{readable, vars_of, not_a_set, pinned_ranges, set_read}
use Rattle.reader.proofs.weight_of_set.Goals as goal

pub sweep-sum-requires-clause-right_table : goal.sweep-sum-requires-clause-right_table
sweep-sum-requires-clause-right_table c = let r = readable c.in_ok-right.ensures in (r.right, r.short)

pub returns-then-not-is_set : goal.returns-then-not-is_set
unfolding automaton_of
returns-then-not-is_set c =
    let r = readable c.in_ok-right.ensures in
    not_a_set r.right r.short (λ s. c.is_set.ensures.not_so c.if-not-is_set.true (subst (λ k. SetOfSpans k (length c.args.line.now) c.args.set) (sym (vars_of c.in_ok-right.ensures (grind (arith, c.vars.ensures.vars)))) s))

pub returns : goal.returns
unfolding automaton_of
returns c =
    let r = readable c.in_ok-right.ensures in
    let s = subst (λ k. SetOfSpans k (length c.args.line.now) c.args.set) (vars_of c.in_ok-right.ensures (grind (arith, c.vars.ensures.vars))) (c.is_set.ensures.so c.if-not-is_set.false) in
    set_read r.right r.short c.sweep-sum.result.weight c.sweep-sum.result.key (omega arith) c.args.set s _ (pinned_ranges c.args.set) (rw c.into-at.ensures at c.sweep-sum.ensures)
