-- MEANING. Sets of spans and their printed order (01, "Lines, spans, weights" and "The table"). Definitions only.
--
-- Spans               the six numbers s1, e1, s2, e2, s3, e3
-- Part K n v s e      the numbers s, e of variable v: a span of a line of n bytes if v is one of the K variables, else two zeros
-- SetOfSpans K n t    t is a set of spans of a line of n bytes with K variables
-- none                six zeros
-- same a b            the test that two sets are the same
-- digit m p           what is compared of the position p of the m-th of the six numbers, m from 0; smaller stands first
-- digits t            what is compared of a set, in the order of comparing
-- Lex xs ys           xs is ys, or is smaller at the first place where they differ
-- NotAfter a b        a is b, or stands before it in the printed order
use Rattle.std.specs.Prelude.{◌≡◌, ◌⊎◌, Bool, ◌&&◌, List, [], ◌∷◌, ℕ, ◌+◌, ◌≤◌, ◌<◌, eqb}
use Rattle.spans.specs.declared.Spans.{Spans}

pub record Part (K n v s e : ℕ) : Type 0 where
  pub used : v ≤ K → (1 ≤ s) × (s ≤ e) × (e ≤ n + 1)
  pub unused : K < v → (s ≡ 0) × (e ≡ 0)

pub record SetOfSpans (K n : ℕ) (t : Spans) : Type 0 where
  pub one : Part K n 1 t.s1 t.e1
  pub two : Part K n 2 t.s2 t.e2
  pub three : Part K n 3 t.s3 t.e3

abbrev pub none : Spans
none = record { s1 = 0; e1 = 0; s2 = 0; e2 = 0; s3 = 0; e3 = 0 }

abbrev pub same : Spans → Spans → Bool
same a b = eqb a.s1 b.s1 && (eqb a.e1 b.e1 && (eqb a.s2 b.s2 && (eqb a.e2 b.e2 && (eqb a.s3 b.s3 && eqb a.e3 b.e3))))

abbrev pub digit : ℕ → ℕ → ℕ
digit m p = p

abbrev pub digits : Spans → List ℕ
digits t = digit 0 t.s1 ∷ digit 1 t.e1 ∷ digit 2 t.s2 ∷ digit 3 t.e2 ∷ digit 4 t.s3 ∷ digit 5 t.e3 ∷ []

abbrev pub Lex : List ℕ → List ℕ → Type 0
Lex [] ys = Unit {0}
Lex (x ∷ xs) [] = ⊥
Lex (x ∷ xs) (y ∷ ys) = (x < y) ⊎ ((x ≡ y) × Lex xs ys)

abbrev pub NotAfter : Spans → Spans → Type 0
NotAfter a b = Lex (digits a) (digits b)
