-- What the parser leaves in the cells and labels is the table of the text's tree, word for word.
--
-- made_table      the words that are emitted from them are the words of the tree's table
use Rattle.std.specs.Prelude.{◌≡◌, List, ◌++◌, ℕ, ◌≤◌, ◌<◌, length, drop, Result, Ok, Err}
use Rattle.std.proofs.Common.{ap, ◌∙◌, arith}
use Rattle.refusal.specs.declared.CardLine.{CardLine}
use Rattle.refusal.specs.declared.Refusal.{Refusal}
use Rattle.refusal.specs.declared.Refusal.TheVariants.{NoPattern}
use Rattle.refusal.specs.Numbers.{line_of, place_of}
use Rattle.weight.specs.Weight.{mark}
use Rattle.table.specs.Table.{most_vars}
use Rattle.pattern.specs.Grammar.{Pat, Pattern, steps_of, nesting_of}
use Rattle.pattern.specs.Places.{Refused as NotInGrammar}
use Rattle.pattern.specs.Derivations.{labels_of, nth_label}
use Rattle.layout.specs.Words.{table_words}
use Rattle.emit.specs.Cells.{labels_in, table_in, Emits, written, short}
use Rattle.emit.specs.Compiled.{compiled_words}
use Rattle.parser.specs.declared.Part.{Part}
use Rattle.parser.specs.Result.{Whole, Read, Answers, is_text}
use Rattle.parser.specs.Result as parser
use Rattle.card.specs.Form.{FormOf}
use Rattle.card.specs.Form as card
use Rattle.compiler.specs.Answers.{most_text, most_nesting, most_steps, Printed, compiled, refusal, Compiles, CompilesCard, wrong_one, wrong_two}
use Rattle.compiler.specs.Cases.{made, not_pattern, small_room}

module _ (k : ℕ) (s cells labels : List ℕ) (n st dp nul : ℕ) (r : Read k s cells labels n st dp nul) (few : steps_of r.tree ≤ 31) where
  whole : Whole r.tree cells labels
  whole = r.whole few

  does : (i : ℕ) → i < steps_of r.tree → labels_in labels i ≡ nth_label (labels_of r.tree) i
  does i h = λ j. record { kind = whole.kinds i h j; argument = whole.arguments i h j }

  pub made_table : table_in cells labels nul st k ≡ table_words k r.tree
  made_table =
      ap (λ (m : ℕ). table_in cells labels nul m k) r.counts
      ∙ compiled_words cells labels nul k r.tree r.root (λ x y h g i. whole.arcs x y h (omega arith) (omega arith)) does

-- the two cases of what the parser answers
pub text_of : {k : ℕ} {s cells labels : List ℕ} {p : Part} → Answers k s cells labels (Ok p) → Read k s cells labels p.next p.steps p.deep p.nul
text_of (is_text r) = r

pub no_text_of : {k : ℕ} {s cells labels : List ℕ} {p : ℕ} → Answers k s cells labels (Err (NoPattern p)) → NotInGrammar k s p
no_text_of (parser.no_text r) = r

pub no_text : {K : ℕ} {text cells labels room exit : List ℕ} {r : Refusal} → exit ≡ room → K ≤ most_vars → length text ≤ most_text → Answers K text cells labels (Err r) → Compiles K text room exit (compiled (Err r))
no_text e k l (parser.no_text h) = not_pattern e k l h

-- what was emitted is the exact table, or its length
pub emitted : {K : ℕ} {text room exit ws : List ℕ} {a : Pat} {r : Result ℕ Refusal} {p : Printed} → K ≤ most_vars → length text ≤ most_text → Pattern K text a → nesting_of a ≤ most_nesting → steps_of a ≤ most_steps
    → ws ≡ table_words K a → Emits ws room r exit → p ≡ compiled r → Compiles K text room exit p
emitted {K} {text} {room} {exit} {ws} {a} k l p n s e (written i h f) q =
    rw (q, i ∙ ap length e) (made k l p n s (rw e at h) (f ∙ ap (λ (x : List ℕ). x ++ drop (length x) room) e))
emitted {K} {text} {room} {exit} {ws} {a} k l p n s e (short i h f) q = rw (q, i ∙ ap length e) (small_room f k l p n s (rw e at h))

-- the words needed are few
abbrev pub Small : Result ℕ Refusal → Type 0
Small (Ok n) = Unit {0}
Small (Err r) = place_of r ≤ mark

pub few_words : {ws room exit : List ℕ} {r : Result ℕ Refusal} → length ws ≤ mark → Emits ws room r exit → Small r
few_words h (written i g f) = tt
few_words h (short i g f) = omega arith

-- a card whose form is wrong
pub wrong_card : {text room exit : List ℕ} {l : CardLine} → exit ≡ room → FormOf text (Err l) → CompilesCard text room exit (refusal 10 (line_of l))
wrong_card e (card.wrong_one f) = wrong_one f e
wrong_card e (card.wrong_two r o f) = wrong_two r o f e
