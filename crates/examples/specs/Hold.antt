-- The test of an example, and the lemma that makes an example of it. That every example passes is proofs/Hold.antt.
--
-- tells ws line s     the test that the kernel, over the words ws, answers the line with s
-- right c             the test of a card: 01's limits, its words, its lines
-- pass_all            what a test says that every element of a list passes
-- all_both            two facts of every element together
-- card_holds          what the test of a card says of its text and its table
use Rattle.std.specs.Prelude.{◌≡◌, refl, Bool, true, ◌&&◌, List, [], ◌∷◌, ◌++◌, ℕ, ◌+◌, ◌*◌, ◌≤◌, leb, ltb, eqb, length}
use Rattle.std.proofs.Common.{sym, ◌∙◌, append-nil, arith, leb-true, ltb-true, eqb-true}
use Rattle.basics.specs.Every.{and_true}
use Rattle.basics.specs.Lists.{All, all_map, equal, equal_true}
use Rattle.weight.specs.Weight.{mark}
use Rattle.spans.specs.Spans.{same}
use Rattle.spans.specs.Order.{same_true}
use Rattle.table.specs.Table.{automaton_of, most_vars}
use Rattle.togo.specs.Price.{base, key_of, answer}
use Rattle.best.specs.Decode.{spans_of_key}
use Rattle.best.specs.Questions.{best_answer, none_answer}
use Rattle.pattern.specs.Grammar.{Pat, Pattern, steps_of, nesting_of}
use Rattle.layout.specs.Words.{table_words}
use Rattle.layout.specs.Exact.{exact}
use Rattle.layout.specs.Reading.{is_right, best_text, none_text}
use Rattle.examples.specs.Cards.{Said, reading, no_reading, Card, Within, Says, Holds}
use Rattle.examples.specs.Texts.{Parsed}

-- every position is allowed
abbrev pub anywhere : ℕ → ℕ → Bool
anywhere m p = true

abbrev pub priced : List ℕ → List ℕ → ℕ → ℕ → Bool
priced ws line w k = leb (length line) 1024 && eqb (answer anywhere (automaton_of ws) line) (w * base + k)

abbrev pub tells : List ℕ → List ℕ → Said → Bool
tells ws line (reading w t) = (ltb w mark && (ltb (key_of t) base && same (spans_of_key (key_of t)) t)) && priced ws line w (key_of t)
tells ws line no_reading = priced ws line mark 0

abbrev pub passes : {R : Type 0} → (R → Bool) → List R → Bool
passes f [] = true
passes f (x ∷ xs) = f x && passes f xs

abbrev pub limits : Card → Bool
limits c = leb (length c.text) 255 && (leb (nesting_of c.tree) 16 && (leb (steps_of c.tree) 31 && leb c.vars most_vars))

abbrev pub compiled : Card → Bool
compiled c = eqb (length c.words) c.room && equal (table_words c.vars c.tree) c.words

abbrev pub right : Card → Bool
right c = limits c && (compiled c && passes (λ x. tells c.words x.line x.said) c.lines)

pub pass_all : {R : Type 0} (f : R → Bool) (xs : List R) → passes f xs ≡ true → All (λ x. f x ≡ true) xs
pass_all f [] e = tt
pass_all f (x ∷ xs) e = let p = and_true (f x) (passes f xs) e in (p.0, pass_all f xs p.1)

pub all_both : {R : Type 0} {P Q S : R → Type 0} → ((x : R) → P x → Q x → S x) → (xs : List R) → All P xs → All Q xs → All S xs
all_both f [] h g = tt
all_both f (x ∷ xs) h g = (f x h.0 g.0, all_both f xs h.1 g.1)

module _ {K : ℕ} {s : List ℕ} {a : Pat} (p : Pattern K s a) (short : length s ≤ 255) (few_steps : steps_of a ≤ 31) (few_vars : K ≤ most_vars)
    (ws : List ℕ) (are : table_words K a ≡ ws) where
  begins : (rest : List ℕ) × (ws ≡ table_words K a ++ rest)
  begins = ([], sym are ∙ sym (append-nil (table_words K a)))

  says : (line : List ℕ) (said : Said) → tells ws line said ≡ true → Says K s line said
  says line (reading w t) e =
      let h = and_true _ _ e in
      let i = and_true _ _ h.0 in
      let j = and_true _ _ i.1 in
      let k = and_true _ _ h.1 in
      let b = best_answer ws (is_right p short few_steps few_vars ws line begins) line (leb-true _ _ k.0) anywhere (λ m p l g. refl) w (key_of t) (ltb-true _ _ j.0) (eqb-true _ _ k.1) (ltb-true _ _ i.0) in
      best_text p short few_steps few_vars ws line begins w t (rw (same_true (spans_of_key (key_of t)) t j.1) at b)
  says line no_reading e =
      let k = and_true _ _ e in
      none_text p short few_steps few_vars ws line begins
      (none_answer ws (is_right p short few_steps few_vars ws line begins) line (leb-true _ _ k.0) anywhere (λ m p l g. refl) mark 0 (eqb-true _ _ k.1) (omega arith))

within : (c : Card) → limits c ≡ true → Within c
within c e =
    let h = and_true _ _ e in
    let i = and_true _ _ h.1 in
    let j = and_true _ _ i.1 in
    record { short = leb-true _ _ h.0; shallow = leb-true _ _ i.0; few_steps = leb-true _ _ j.0; few_vars = leb-true _ _ j.1 }

pub card_holds : (c : Card) → Parsed c → right c ≡ true → Holds c
card_holds c p e =
    let h = and_true _ _ e in
    let i = and_true _ _ h.1 in
    let j = and_true _ _ i.0 in
    let l = within c h.0 in
    let are : table_words c.vars c.tree ≡ c.words = equal_true _ _ j.1 in
    record {
      compiles =
          record {
            parsed = p.is;
            within = l;
            table = rw are at (exact p.is l.short);
            fills = eqb-true _ _ j.0;
          };
      answers = all_map (λ x t. says p.is l.short l.few_steps l.few_vars c.words are x.line x.said t) c.lines (pass_all _ c.lines i.1);
    }
