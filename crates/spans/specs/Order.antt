-- The printed order of sets is a total order, and the test `same` tells sets apart.
--
-- lex_refl, lex_trans, lex_antisym, lex_total             the laws of Lex
-- digit_same, digits_same                                 what is compared tells positions, and sets, apart
-- not_after_refl, not_after_trans,                       the laws of NotAfter
-- not_after_antisym, not_after_total
-- same_true, same_refl                                    same a b is true exactly when a is b
use Rattle.std.specs.Prelude.{◌≡◌, refl, ◌⊎◌, true, List, [], ◌∷◌, ℕ, ◌<◌, eqb}
use Rattle.std.proofs.Common.{ap₂, ◌∙◌, inl, inr, arith, eqb-true, eq-eqb}
use Rattle.std.proofs.Math.Decide.{dec_lt}
use Rattle.basics.specs.Every.{and_true}
use Rattle.spans.specs.declared.Spans.{Spans}
use Rattle.spans.specs.Spans.{Lex, NotAfter, same, digit, digits}

pub lex_refl : (xs : List ℕ) → Lex xs xs
lex_refl [] = tt
lex_refl (x ∷ xs) = inr (refl, lex_refl xs)

pub lex_trans : (xs ys zs : List ℕ) → Lex xs ys → Lex ys zs → Lex xs zs
lex_trans [] ys zs p q = tt
lex_trans (x ∷ xs) [] zs p q = absurd p
lex_trans (x ∷ xs) (y ∷ ys) [] p q = absurd q
lex_trans (x ∷ xs) (y ∷ ys) (z ∷ zs) p q = go p q (lex_trans xs ys zs)
  where
    go : (x < y) ⊎ ((x ≡ y) × Lex xs ys) → (y < z) ⊎ ((y ≡ z) × Lex ys zs) → (Lex xs ys → Lex ys zs → Lex xs zs) → (x < z) ⊎ ((x ≡ z) × Lex xs zs)
    go (inl p) (inl q) f = inl (omega arith)
    go (inl p) (inr q) f = inl (omega arith)
    go (inr p) (inl q) f = inl (omega arith)
    go (inr p) (inr q) f = inr (p.0 ∙ q.0, f p.1 q.1)

pub lex_antisym : (xs ys : List ℕ) → Lex xs ys → Lex ys xs → xs ≡ ys
lex_antisym [] [] p q = refl
lex_antisym [] (y ∷ ys) p q = absurd q
lex_antisym (x ∷ xs) [] p q = absurd p
lex_antisym (x ∷ xs) (y ∷ ys) p q = go p q (lex_antisym xs ys)
  where
    go : (x < y) ⊎ ((x ≡ y) × Lex xs ys) → (y < x) ⊎ ((y ≡ x) × Lex ys xs) → (Lex xs ys → Lex ys xs → xs ≡ ys) → ◌≡◌ {A = List ℕ} (x ∷ xs) (y ∷ ys)
    go (inl p) (inl q) f = absurd (omega arith)
    go (inl p) (inr q) f = absurd (omega arith)
    go (inr p) (inl q) f = absurd (omega arith)
    go (inr p) (inr q) f = ap₂ ◌∷◌ p.0 (f p.1 q.1)

pub lex_total : (xs ys : List ℕ) → Lex xs ys ⊎ Lex ys xs
lex_total [] ys = inl tt
lex_total (x ∷ xs) [] = inr tt
lex_total (x ∷ xs) (y ∷ ys) = go (dec_lt x y) (dec_lt y x) (lex_total xs ys)
  where
    go : Dec (x < y) → Dec (y < x) → Lex xs ys ⊎ Lex ys xs → Lex (x ∷ xs) (y ∷ ys) ⊎ Lex (y ∷ ys) (x ∷ xs)
    go (yes h) d t = inl (inl h)
    go (no n) (yes h) t = inr (inl h)
    go (no n) (no m) (inl l) = inl (inr (omega arith, l))
    go (no n) (no m) (inr l) = inr (inr (omega arith, l))

pub digit_same : (m p q : ℕ) → digit m p ≡ digit m q → p ≡ q
digit_same m p q e = e

-- two sets with the same six numbers
by_numbers : (a b : Spans) → a.s1 ≡ b.s1 → a.e1 ≡ b.e1 → a.s2 ≡ b.s2 → a.e2 ≡ b.e2 → a.s3 ≡ b.s3 → a.e3 ≡ b.e3 → a ≡ b
by_numbers a b p q r s t u = λ i. record { s1 = p i; e1 = q i; s2 = r i; e2 = s i; s3 = t i; e3 = u i }

pub digits_same : (a b : Spans) → digits a ≡ digits b → a ≡ b
digits_same a b e =
    by_numbers a b
    (digit_same 0 a.s1 b.s1 (cc))
    (digit_same 1 a.e1 b.e1 (cc))
    (digit_same 2 a.s2 b.s2 (cc))
    (digit_same 3 a.e2 b.e2 (cc))
    (digit_same 4 a.s3 b.s3 (cc))
    (digit_same 5 a.e3 b.e3 (cc))

pub not_after_refl : (a : Spans) → NotAfter a a
not_after_refl a = lex_refl (digits a)

pub not_after_trans : (a b c : Spans) → NotAfter a b → NotAfter b c → NotAfter a c
not_after_trans a b c p q = lex_trans (digits a) (digits b) (digits c) p q

pub not_after_antisym : (a b : Spans) → NotAfter a b → NotAfter b a → a ≡ b
not_after_antisym a b p q = digits_same a b (lex_antisym (digits a) (digits b) p q)

pub not_after_total : (a b : Spans) → NotAfter a b ⊎ NotAfter b a
not_after_total a b = lex_total (digits a) (digits b)

pub same_true : (a b : Spans) → same a b ≡ true → a ≡ b
same_true a b e =
    let p = and_true (eqb a.s1 b.s1) _ e in
    let q = and_true (eqb a.e1 b.e1) _ p.1 in
    let r = and_true (eqb a.s2 b.s2) _ q.1 in
    let s = and_true (eqb a.e2 b.e2) _ r.1 in
    let t = and_true (eqb a.s3 b.s3) (eqb a.e3 b.e3) s.1 in
    by_numbers a b (eqb-true _ _ p.0) (eqb-true _ _ q.0) (eqb-true _ _ r.0) (eqb-true _ _ s.0) (eqb-true _ _ t.0) (eqb-true _ _ t.1)

pub same_refl : (a b : Spans) → a ≡ b → same a b ≡ true
same_refl a b e = rw e (self b)
  where
    self : (b : Spans) → same b b ≡ true
    self b = rw (eq-eqb b.s1 b.s1 refl, eq-eqb b.e1 b.e1 refl, eq-eqb b.s2 b.s2 refl, eq-eqb b.e2 b.e2 refl, eq-eqb b.s3 b.s3 refl, eq-eqb b.e3 b.e3 refl)
