-- `right_ends`: the rule for end words at each place below s.
use Rattle.std.proofs.Common.{◌≡◌, refl, ◌+◌, ◌-◌, ℕ, List, take, drop, ◌∙◌, arith, rules}
use Rattle.std.proofs.lemmas.Iterator.{cases_from_all, YieldsList-from_slice}
use Rattle.table.specs.Table.{RightEnd}
use Rattle.table.proofs.Every.{all_words, says_yes, says_no}
use Rattle.table.proofs.right_ends.Goals as goal

pub returns : goal.returns
returns c =
    let ws = c.args.t.now in
    let s = c.args.s in
    let n : 3 + s - 3 ≡ s = omega arith in
    let rest : take (3 + s - 3) (drop 3 ws) ≡ take s (drop 3 ws) = rw n refl in
    let xs : List ℕ = take s (drop 3 ws) in
    all_words RightEnd ws s _ c.requires (cases_from_all _ _ _ RightEnd (λ w. RightEnd w → ⊥) c.all.ensures.ran (YieldsList-from_slice xs (c.iter.ensures.rest ∙ rest)) (λ x q k. search (rules, says_yes)) (λ x q k. search (rules, says_no)))
