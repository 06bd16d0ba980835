-- The cases of compiling, one for each number and one for the table: what the code has seen makes the answer right.
use Rattle.std.specs.Prelude.{◌≡◌, List, ◌++◌, ℕ, ◌+◌, ◌≤◌, ◌<◌, length, drop}
use Rattle.std.proofs.Common.{ap, subst, arith}
use Rattle.table.specs.Table.{most_vars}
use Rattle.pattern.specs.Grammar.{Pat, Pattern, steps_of, nesting_of}
use Rattle.pattern.specs.Places.{Refused as NotInGrammar}
use Rattle.pattern.specs.Laws.{tree_one}
use Rattle.layout.specs.Layout.{TableOf}
use Rattle.layout.specs.Words.{table_words}
use Rattle.layout.specs.Exact.{exact, table_one}
use Rattle.compiler.specs.Answers.{most_text, most_nesting, most_steps, written, refusal, vars, long, grammar, nesting, steps, Fails, by_text, small, Compiles, refused, table}

module _ {K : ℕ} {text room : List ℕ} where
  -- no number below i, where each that could be given is i at least
  below : (i : ℕ) → (most_vars < K → i ≤ 1) → (most_text < length text → i ≤ 2) → ((p : ℕ) → NotInGrammar K text p → i ≤ 3) → ((a : Pat) → Pattern K text a → most_nesting < nesting_of a → i ≤ 4)
      → ((a : Pat) → Pattern K text a → most_steps < steps_of a → i ≤ 5) → ((a : Pat) (ws : List ℕ) → Pattern K text a → TableOf K a ws → length room < length ws → i ≤ 6)
      → (m q : ℕ) → m < i → Fails K text room m q → ⊥
  below i a b c d e f m q h (by_text (vars g)) = omega (arith, a g)
  below i a b c d e f m q h (by_text (long g)) = omega (arith, b g)
  below i a b c d e f m q h (by_text (grammar g)) = omega (arith, c _ g)
  below i a b c d e f m q h (by_text (nesting p g)) = omega (arith, d _ p g)
  below i a b c d e f m q h (by_text (steps p g)) = omega (arith, e _ p g)
  below i a b c d e f m q h (small p t g) = omega (arith, f _ _ p t g)

  module _ {exit : List ℕ} (kept : exit ≡ room) where
    pub many_vars : most_vars < K → Compiles K text room exit (refusal 1 0)
    many_vars h = refused (by_text (vars h)) (below 1 (λ _. omega arith) (λ _. omega arith) (λ _ _. omega arith) (λ _ _ _. omega arith) (λ _ _ _. omega arith) (λ _ _ _ _ _. omega arith)) kept

    pub long_text : K ≤ most_vars → most_text < length text → Compiles K text room exit (refusal 2 0)
    long_text k h = refused (by_text (long h)) (below 2 (λ g. absurd (omega arith)) (λ _. omega arith) (λ _ _. omega arith) (λ _ _ _. omega arith) (λ _ _ _. omega arith) (λ _ _ _ _ _. omega arith)) kept

    pub not_pattern : {p : ℕ} → K ≤ most_vars → length text ≤ most_text → NotInGrammar K text p → Compiles K text room exit (refusal 3 p)
    not_pattern k l h = refused (by_text (grammar h)) (below 3 (λ g. absurd (omega arith)) (λ g. absurd (omega arith)) (λ _ _. omega arith) (λ _ _ _. omega arith) (λ _ _ _. omega arith) (λ _ _ _ _ _. omega arith)) kept

    module _ {a : Pat} (k : K ≤ most_vars) (l : length text ≤ most_text) (p : Pattern K text a) where
      pub deep : most_nesting < nesting_of a → Compiles K text room exit (refusal 4 0)
      deep h = refused (by_text (nesting p h)) (below 4 (λ g. absurd (omega arith)) (λ g. absurd (omega arith)) (λ q g. absurd (g.outside a p)) (λ _ _ _. omega arith) (λ _ _ _. omega arith) (λ _ _ _ _ _. omega arith)) kept

      shallow : (b : Pat) → Pattern K text b → nesting_of a ≤ most_nesting → most_nesting < nesting_of b → ⊥
      shallow b q h g = omega (arith, ap nesting_of (tree_one p q))

      few : (b : Pat) → Pattern K text b → steps_of a ≤ most_steps → most_steps < steps_of b → ⊥
      few b q h g = omega (arith, ap steps_of (tree_one p q))

      pub many_steps : nesting_of a ≤ most_nesting → most_steps < steps_of a → Compiles K text room exit (refusal 5 0)
      many_steps n h = refused (by_text (steps p h)) (below 5 (λ g. absurd (omega arith)) (λ g. absurd (omega arith)) (λ q g. absurd (g.outside a p)) (λ b q g. absurd (shallow b q n g)) (λ _ _ _. omega arith) (λ _ _ _ _ _. omega arith)) kept

      pub small_room : nesting_of a ≤ most_nesting → steps_of a ≤ most_steps → length room < length (table_words K a) → Compiles K text room exit (refusal 6 (length (table_words K a)))
      small_room n s h =
          refused (small p (exact p l) h)
          (below 6 (λ g. absurd (omega arith)) (λ g. absurd (omega arith)) (λ q g. absurd (g.outside a p)) (λ b q g. absurd (shallow b q n g)) (λ b q g. absurd (few b q s g)) (λ _ _ _ _ _. omega arith))
          kept

  pub made : {exit : List ℕ} {a : Pat} → K ≤ most_vars → length text ≤ most_text → Pattern K text a → nesting_of a ≤ most_nesting → steps_of a ≤ most_steps → length (table_words K a) ≤ length room
      → exit ≡ table_words K a ++ drop (length (table_words K a)) room → Compiles K text room exit (written (length (table_words K a)))
  made {exit} {a} k l p n s h e =
      table
      (λ m q f. below (m + 1) (λ g. absurd (omega arith)) (λ g. absurd (omega arith)) (λ q g. absurd (g.outside a p)) (λ b q g. absurd (omega (arith, ap nesting_of (tree_one p q)))) (λ b q g. absurd (omega (arith, ap steps_of (tree_one p q))))
      (λ b ws q t g. absurd (omega (arith, ap length (table_one (subst (λ (x : Pat). TableOf K x (table_words K a)) (tree_one p q) (exact p l)) t)))) m q (omega arith) f)
      p
      (exact p l)
      e
