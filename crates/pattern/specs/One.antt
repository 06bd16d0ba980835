-- One text has one weight for a line and a set, and one place of refusal 3; it is not both in the grammar and refused.
use Rattle.std.specs.Prelude.{◌≡◌, List, ℕ, ◌<◌}
use Rattle.std.proofs.Common.{subst, arith}
use Rattle.weight.specs.Weight.{Least}
use Rattle.weight.specs.Least.{least_one}
use Rattle.spans.specs.declared.Spans.{Spans}
use Rattle.pattern.specs.Grammar.{Pat, Pattern}
use Rattle.pattern.specs.Derivations.{Gives, WeightOfText}
use Rattle.pattern.specs.Places.{Refused}
use Rattle.pattern.specs.Laws.{tree_one}

pub text_weight_one : {K : ℕ} {text line : List ℕ} {s : Spans} {w v : ℕ} → WeightOfText K text line s w → WeightOfText K text line s v → w ≡ v
text_weight_one {K} {text} {line} {s} {w} {v} x y =
    least_one (Gives K y.tree line s) w v (subst (λ (a : Pat). Least (Gives K a line s) w) (tree_one x.parsed y.parsed) x.least) y.least

not_less : {k : ℕ} {s : List ℕ} {p q : ℕ} → Refused k s p → Refused k s q → p < q → ⊥
not_less {q = q} x y l = x.largest q l y.within y.begins

pub place_one : {k : ℕ} {s : List ℕ} {p q : ℕ} → Refused k s p → Refused k s q → p ≡ q
place_one {p = p} {q = q} x y =
    let a : ¬ (p < q) = not_less x y in
    let b : ¬ (q < p) = not_less y x in
    omega arith

pub not_both : {k : ℕ} {s : List ℕ} {p : ℕ} {a : Pat} → Refused k s p → Pattern k s a → ⊥
not_both {a = a} x t = x.outside a t
