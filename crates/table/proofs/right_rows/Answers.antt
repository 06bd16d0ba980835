-- `right_rows`: the rules for rows at each place below n.
use Rattle.std.proofs.Common.{◌+◌, ◌*◌, arith, rules}
use Rattle.std.proofs.lemmas.Iterator.{cases_from_all, YieldsList-from_range}
use Rattle.table.specs.Table.{RightRow, row_of_words}
use Rattle.table.proofs.Every.{all_decides, says_yes, says_no}
use Rattle.table.proofs.right_rows.Goals as goal

pub returns : goal.returns
returns c =
    let ws = c.args.t.now in
    all_decides (λ q. RightRow c.args.s c.args.k (row_of_words ws (3 + c.args.s + 5 * q))) c.args.n _ (cases_from_all _ _ _ (λ q. RightRow c.args.s c.args.k (row_of_words ws (3 + c.args.s + 5 * q))) (λ q. RightRow c.args.s c.args.k (row_of_words ws (3 + c.args.s + 5 * q)) → ⊥) c.all.ensures.ran (YieldsList-from_range 0 c.args.n c.args.n (cc) (omega arith)) (λ x q k. search (rules, says_yes)) (λ x q k. search (rules, says_no)))
