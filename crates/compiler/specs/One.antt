-- One text, one answer: two results that satisfy the contract of compiling are equal, and so is what they leave in the room.
--
-- compiles_one        for a pattern text
-- compiles_card_one   for a card
use Rattle.std.specs.Prelude.{◌≡◌, refl, List, ◌++◌, ℕ, ◌≤◌, ◌<◌, length, drop}
use Rattle.std.proofs.Common.{sym, ap, ap₂, ◌∙◌, subst, arith}
use Rattle.std.proofs.Math.Decide.{dec_lt}
use Rattle.pattern.specs.Grammar.{Pat, Pattern}
use Rattle.pattern.specs.Laws.{tree_one}
use Rattle.pattern.specs.One.{place_one}
use Rattle.layout.specs.Layout.{TableOf}
use Rattle.layout.specs.Exact.{table_one}
use Rattle.card.specs.One.{card_one, line_one_one}
use Rattle.compiler.specs.Answers.{Printed, written, refusal, TextFails, vars, long, grammar, nesting, steps, Fails, by_text, small, Compiles, refused, table, CompilesCard, wrong_one, wrong_two, right}

-- the tables of two trees of one text are one
tables_one : {K : ℕ} {text ws vs : List ℕ} {a b : Pat} → Pattern K text a → TableOf K a ws → Pattern K text b → TableOf K b vs → ws ≡ vs
tables_one {K} {ws = ws} p x q y = table_one (subst (λ (t : Pat). TableOf K t ws) (tree_one p q) x) y

pub text_fails_one : {K : ℕ} {text : List ℕ} {n p q : ℕ} → TextFails K text n p → TextFails K text n q → p ≡ q
text_fails_one (vars h) (vars k) = refl
text_fails_one (long h) (long k) = refl
text_fails_one (grammar h) (grammar k) = place_one h k
text_fails_one (nesting h i) (nesting k j) = refl
text_fails_one (steps h i) (steps k j) = refl

pub one_to_five : {K : ℕ} {text : List ℕ} {n p : ℕ} → TextFails K text n p → (1 ≤ n) × (n ≤ 5)
one_to_five (vars h) = (omega arith, omega arith)
one_to_five (long h) = (omega arith, omega arith)
one_to_five (grammar h) = (omega arith, omega arith)
one_to_five (nesting p h) = (omega arith, omega arith)
one_to_five (steps p h) = (omega arith, omega arith)

pub one_to_six : {K : ℕ} {text room : List ℕ} {n p : ℕ} → Fails K text room n p → (1 ≤ n) × (n ≤ 6)
one_to_six (by_text f) = let h = one_to_five f in (h.0, omega (arith, h.1))
one_to_six (small p t h) = (omega arith, omega arith)

fails_one : {K : ℕ} {text room : List ℕ} {n p q : ℕ} → Fails K text room n p → Fails K text room n q → p ≡ q
fails_one (by_text f) (by_text g) = text_fails_one f g
fails_one (by_text f) (small q y k) = absurd (omega (arith, (one_to_five f).1))
fails_one (small p x h) (by_text g) = absurd (omega (arith, (one_to_five g).1))
fails_one (small p x h) (small q y k) = ap length (tables_one p x q y)

pub record Same (p q : Printed) (x y : List ℕ) : Type 0 where
  pub answer : p ≡ q
  pub room : x ≡ y

pub compiles_one : {K : ℕ} {text room x y : List ℕ} {p q : Printed} → Compiles K text room x p → Compiles K text room y q → Same p q x y
compiles_one {x = x} {y = y} (refused {n = n} {p = p} f g e) (refused {n = m} {p = q} h k i) = go (dec_lt n m) (dec_lt m n)
  where
    go : Dec (n < m) → Dec (m < n) → Same (refusal n p) (refusal m q) x y
    go (yes a) b = absurd (k n p a f)
    go (no a) (yes b) = absurd (g m q b h)
    go (no a) (no b) = let c : n ≡ m = omega arith in record { answer = ap₂ refusal c (fails_one (rw c at f) h); room = e ∙ sym i }
compiles_one (refused f g e) (table h p t i) = absurd (h _ _ f)
compiles_one (table h p t i) (refused f g e) = absurd (h _ _ f)
compiles_one {room = room} (table h p t i) (table k q u j) =
    let e = tables_one p t q u in
    record { answer = ap (λ (l : List ℕ). written (length l)) e; room = i ∙ ap (λ (l : List ℕ). l ++ drop (length l) room) e ∙ sym j }

pub compiles_card_one : {text room x y : List ℕ} {p q : Printed} → CompilesCard text room x p → CompilesCard text room y q → Same p q x y
compiles_card_one (wrong_one f e) (wrong_one g i) = record { answer = refl; room = e ∙ sym i }
compiles_card_one (wrong_one f e) (wrong_two r o g i) = absurd (f _ r o)
compiles_card_one (wrong_one f e) (right c a) = absurd (f _ c.second c.one)
compiles_card_one (wrong_two r o f e) (wrong_one g i) = absurd (g _ r o)
compiles_card_one (wrong_two r o f e) (wrong_two s q g i) = record { answer = refl; room = e ∙ sym i }
compiles_card_one {text} (wrong_two r o f e) (right {p = p} {lines = l} c a) = absurd (f p l (rw (← (line_one_one text _ _ r c.second o c.one).1) at c.two))
compiles_card_one (right c a) (wrong_one f e) = absurd (f _ c.second c.one)
compiles_card_one {text} (right {p = p} {lines = l} c a) (wrong_two r o f e) = absurd (f p l (rw (← (line_one_one text _ _ r c.second o c.one).1) at c.two))
compiles_card_one {text} (right c a) (right d b) =
    let e = card_one text _ _ _ _ _ _ c d in
    compiles_one (rw (e.0, e.1) at a) b
