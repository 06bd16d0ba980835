-- Two answers to one text are equal; and where its steps have room, so is each arc and each label.
use Rattle.std.specs.Prelude.{◌≡◌, List, ℕ, ◌+◌, ◌*◌, ◌<◌, get_or, Result, Ok, Err}
use Rattle.std.proofs.Common.{sym, ap, ◌∙◌}
use Rattle.pattern.specs.Grammar.{Pat, steps_of, nesting_of}
use Rattle.pattern.specs.Laws.{tree_one}
use Rattle.pattern.specs.One.{place_one}
use Rattle.arcs.specs.Exact.{arc_of}
use Rattle.grid.specs.Grow.{at}
use Rattle.parser.specs.declared.Part.{Part}
use Rattle.refusal.specs.declared.Refusal.{Refusal}
use Rattle.refusal.specs.declared.Refusal.TheVariants.{NoPattern}
use Rattle.parser.specs.Result.{Answers, is_text, no_text, Whole}

by_fields : {p q : Part} → p.next ≡ q.next → p.steps ≡ q.steps → p.deep ≡ q.deep → p.nul ≡ q.nul → p ≡ q
by_fields a b c d i = record { next = a i; steps = b i; deep = c i; nul = d i }

pub answer_one : {k : ℕ} {s c d l m : List ℕ} {r t : Result Part Refusal} → Answers k s c l r → Answers k s d m t → r ≡ t
answer_one (is_text x) (is_text y) =
    let e = tree_one x.parsed y.parsed in
    let f = ap steps_of e in
    let g = ap nesting_of e in
    let h = ap (λ (a : Pat). arc_of a 0 0) e in
    ap Ok (by_fields (x.all ∙ sym y.all) (x.counts ∙ f ∙ sym y.counts) (x.deep ∙ g ∙ sym y.deep) (x.root ∙ h ∙ sym y.root))
answer_one (is_text x) (no_text q) = absurd (q.outside x.tree x.parsed)
answer_one (no_text q) (is_text y) = absurd (q.outside y.tree y.parsed)
answer_one (no_text p) (no_text q) = ap (λ (n : ℕ). Err (NoPattern n)) (place_one p q)

pub arcs_one : {a : Pat} {c d l m : List ℕ} → Whole a c l → Whole a d m → (x y : ℕ) → 0 < x + y → x < 32 → y < 32 → at c x y ≡ at d x y
arcs_one p q x y h i j = p.arcs x y h i j ∙ sym (q.arcs x y h i j)

pub kinds_one : {a : Pat} {c d l m : List ℕ} → Whole a c l → Whole a d m → (i : ℕ) → i < steps_of a → get_or l (2 * i) 0 ≡ get_or m (2 * i) 0
kinds_one p q i h = p.kinds i h ∙ sym (q.kinds i h)

pub arguments_one : {a : Pat} {c d l m : List ℕ} → Whole a c l → Whole a d m → (i : ℕ) → i < steps_of a → get_or l (2 * i + 1) 0 ≡ get_or m (2 * i + 1) 0
arguments_one p q i h = p.arguments i h ∙ sym (q.arguments i h)
