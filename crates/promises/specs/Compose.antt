-- Compiling and then reading gives what the card's own text gives.
--
-- refused_so      a card that is refused by compiling is refused so by its text
-- read_so         what is read by the table of a card is what its text says
use Rattle.std.specs.Prelude.{◌≡◌, refl, List, ◌++◌, ℕ, ◌≤◌, ◌<◌, length, drop, Result, Ok}
use Rattle.std.proofs.Common.{ap, ◌∙◌, subst, arith}
use Rattle.std.proofs.Math.Decide.{dec_le}
use Rattle.table.specs.Table.{RightTable, most_vars, most_bytes}
use Rattle.pattern.specs.Grammar.{Pat, Pattern, steps_of}
use Rattle.layout.specs.Layout.{TableOf}
use Rattle.layout.specs.Words.{table_words}
use Rattle.layout.specs.Exact.{exact, table_one}
use Rattle.layout.specs.Reading.{is_right, best_text, none_text}
use Rattle.refusal.specs.declared.Refusal.{Refusal}
use Rattle.compiler.specs.Answers.{most_text, most_nesting, most_steps, compiled, CompilesCard, Compiles}
use Rattle.compiler.specs.Answers as made
use Rattle.compiler.specs.Room.{room, room_enough}
use Rattle.compiler.specs.One.{one_to_five, one_to_six}
use Rattle.reader.specs.Answers.{Printed, reading, no_reading, refusal, BestAnswer}
use Rattle.reader.specs.Answers as answers
use Rattle.promises.specs.Reading.{Fails, TextAnswer, CardAnswer}
use Rattle.promises.specs.Reading as text

-- what is refused by numbers 1 to 5 is refused so by the text, and number 6 does not arise
module _ {K : ℕ} {s rm : List ℕ} (big : length rm ≡ room) where
  enough : {a : Pat} {ws : List ℕ} → Pattern K s a → TableOf K a ws → length rm < length ws → ((m q : ℕ) → m < 6 → made.Fails K s rm m q → ⊥) → ⊥
  enough {a} p t h low = omega (arith, room_enough p (short (dec_le (length s) most_text)) (few (dec_le (steps_of a) most_steps)) t)
    where
      short : Dec (length s ≤ most_text) → length s ≤ most_text
      short (yes k) = k
      short (no k) = absurd (low 2 0 (omega arith) (made.by_text (made.long (omega arith))))

      few : Dec (steps_of a ≤ most_steps) → steps_of a ≤ most_steps
      few (yes k) = k
      few (no k) = absurd (low 5 0 (omega arith) (made.by_text (made.steps p (omega arith))))

  pub refused_text : {line : List ℕ} {n p : ℕ} → made.Fails K s rm n p → ((m q : ℕ) → m < n → made.Fails K s rm m q → ⊥) → TextAnswer K s line (refusal n p)
  refused_text {line} (made.by_text {n = n} f) low = text.refused (text.by_text f) lows
    where
      lows : (m q : ℕ) → m < n → Fails K s line m q → ⊥
      lows m q h (text.by_text g) = low m q h (made.by_text g)
      lows m q h (text.long_line g) = omega (arith, (one_to_five f).1)
  refused_text (made.small p t h) low = absurd (enough p t h low)

-- no number from 1 to 6: the limits hold
module _ {K : ℕ} {s rm : List ℕ} (sound : (n p : ℕ) → made.Fails K s rm n p → ⊥) where
  pub few_vars_of : Dec (K ≤ most_vars) → K ≤ most_vars
  few_vars_of (yes h) = h
  few_vars_of (no h) = absurd (sound 1 0 (made.by_text (made.vars (omega arith))))

  pub short_of : Dec (length s ≤ most_text) → length s ≤ most_text
  short_of (yes h) = h
  short_of (no h) = absurd (sound 2 0 (made.by_text (made.long (omega arith))))

  pub few_steps_of : {a : Pat} → Pattern K s a → Dec (steps_of a ≤ most_steps) → steps_of a ≤ most_steps
  few_steps_of p (yes h) = h
  few_steps_of p (no h) = absurd (sound 5 0 (made.by_text (made.steps p (omega arith))))

  only_line : {line : List ℕ} {n p : ℕ} → Fails K s line n p → (n ≡ 8) × (most_bytes < length line)
  only_line (text.by_text f) = absurd (sound _ _ (made.by_text f))
  only_line (text.long_line h) = (refl, h)

  pub read_text : {a : Pat} {line ws ex : List ℕ} {r : Printed} → Pattern K s a → TableOf K a ws → ex ≡ ws ++ drop (length ws) rm → BestAnswer ex line r → TextAnswer K s line r
  read_text {a} {line} {ws} {ex} {r} p t e b = go b
    where
      short : length s ≤ most_text
      short = short_of (dec_le (length s) most_text)

      steps : steps_of a ≤ most_steps
      steps = few_steps_of p (dec_le (steps_of a) most_steps)

      vars : K ≤ most_vars
      vars = few_vars_of (dec_le K most_vars)

      is : (rest : List ℕ) × (ex ≡ table_words K a ++ rest)
      is = (drop (length ws) rm, e ∙ ap (λ (l : List ℕ). l ++ drop (length ws) rm) (table_one t (exact p short)))

      right_table : RightTable ex
      right_table = is_right p short steps vars ex line is

      fit : ((n : ℕ) → answers.Fails ex line n → ⊥) → (n q : ℕ) → Fails K s line n q → ⊥
      fit f n q g = f 8 (answers.long (only_line g).1)

      refused_so : {n : ℕ} → answers.Fails ex line n → TextAnswer K s line (refusal n 0)
      refused_so (answers.table h) = absurd (h right_table)
      refused_so (answers.long h) = text.refused (text.long_line h) (λ m q k g. omega (arith, (only_line g).0))

      go : {q : Printed} → BestAnswer ex line q → TextAnswer K s line q
      go (answers.not_read f low) = refused_so f
      go (answers.best {w = w} {t = u} f i) = text.best (fit f) (best_text p short steps vars ex line is w u i)
      go (answers.no_run f i) = text.none_best (fit f) (none_text p short steps vars ex line is i)

-- a refused card
pub refused_so : {card rm ex line : List ℕ} {n q : ℕ} → length rm ≡ room → CompilesCard card rm ex (made.refusal n q) → CardAnswer card line (refusal n q)
refused_so {card} {rm} {ex} {line} big c = go c refl
  where
    inner : {K : ℕ} {s : List ℕ} {a : made.Printed} {n q : ℕ} → Compiles K s rm ex a → a ≡ made.refusal n q → TextAnswer K s line (refusal n q)
    inner (made.refused f low e) i = let j : made.refusal _ _ ≡ made.refusal _ _ = i in rw (← ap (λ (x : made.Printed). x.number) i, ← ap (λ (x : made.Printed). x.place) i) (refused_text big f low)
    inner (made.table sound p t e) i = absurd (omega (arith, ap (λ (x : made.Printed). x.words) i))

    go : {a : made.Printed} {n q : ℕ} → CompilesCard card rm ex a → a ≡ made.refusal n q → CardAnswer card line (refusal n q)
    go (made.wrong_one f e) i = rw (← ap (λ (x : made.Printed). x.number) i, ← ap (λ (x : made.Printed). x.place) i) (text.wrong_one f)
    go (made.wrong_two r o f e) i = rw (← ap (λ (x : made.Printed). x.number) i, ← ap (λ (x : made.Printed). x.place) i) (text.wrong_two r o f)
    go (made.right k m) i = text.right k (inner m i)

-- a compiled card
pub read_so : {card rm ex line : List ℕ} {n : ℕ} {a : Printed} → length rm ≡ room → CompilesCard card rm ex (made.written n) → BestAnswer ex line a → CardAnswer card line a
read_so {card} {rm} {ex} {line} {a = a} big c b = go c refl
  where
    inner : {K n : ℕ} {s : List ℕ} {p : made.Printed} → Compiles K s rm ex p → p ≡ made.written n → TextAnswer K s line a
    inner (made.refused f low e) i = absurd (omega (arith, ap (λ (x : made.Printed). x.number) i, (one_to_six f).0))
    inner (made.table sound p t e) i = read_text sound p t e b

    go : {p : made.Printed} {n : ℕ} → CompilesCard card rm ex p → p ≡ made.written n → CardAnswer card line a
    go (made.wrong_one f e) i = absurd (omega (arith, ap (λ (x : made.Printed). x.number) i))
    go (made.wrong_two r o f e) i = absurd (omega (arith, ap (λ (x : made.Printed). x.number) i))
    go (made.right k m) i = text.right k (inner m i)

-- and whatever prints as its number and place
pub refused_as : {card rm ex line : List ℕ} {n q : ℕ} {a : Printed} → length rm ≡ room → CompilesCard card rm ex (made.refusal n q) → a ≡ refusal n q → CardAnswer card line a
refused_as big c e = rw e (refused_so big c)

-- by what the code has in hand
pub read_as : {card rm ex line : List ℕ} {r : Result ℕ Refusal} {n : ℕ} {a : Printed} → length rm ≡ room → r ≡ Ok n → CompilesCard card rm ex (compiled r) → BestAnswer ex line a → CardAnswer card line a
read_as {card} {rm} {ex} big e c b = read_so big (subst (λ (x : Result ℕ Refusal). CompilesCard card rm ex (compiled x)) e c) b
