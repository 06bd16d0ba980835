-- A table and a line have one answer, and so have a table, a line and a set: two results that satisfy a contract are equal.
--
-- best_answer_one     for the best reading
-- set_answer_one      for the weight of a set
use Rattle.std.specs.Prelude.{◌≡◌, refl, List, ℕ, ◌<◌}
use Rattle.std.proofs.Common.{ap, ap₂, arith}
use Rattle.std.proofs.Math.Decide.{dec_lt}
use Rattle.spans.specs.declared.Spans.{Spans}
use Rattle.table.specs.Table.{automaton_of}
use Rattle.best.specs.Questions.{best_one, best_not_none}
use Rattle.reader.specs.Answers.{Printed, reading, refusal, Fails, BestAnswer, not_read, best, no_run, SetAnswer, not_weighed, weight}

-- the lowest number that could be given is one number
lowest_one : (F : ℕ → Type 0) (n m : ℕ) → F n → ((i : ℕ) → i < n → F i → ⊥) → F m → ((i : ℕ) → i < m → F i → ⊥) → n ≡ m
lowest_one F n m f g h k = go (dec_lt n m) (dec_lt m n)
  where
    go : Dec (n < m) → Dec (m < n) → n ≡ m
    go (yes a) b = absurd (k n a f)
    go (no a) (yes b) = absurd (g m b h)
    go (no a) (no b) = omega arith

pub best_answer_one : {ws line : List ℕ} {p q : Printed} → BestAnswer ws line p → BestAnswer ws line q → p ≡ q
best_answer_one {ws} {line} (not_read {n = n} f g) (not_read {n = m} h k) = ap (λ (i : ℕ). refusal i 0) (lowest_one (Fails ws line) n m f g h k)
best_answer_one (not_read f g) (best h b) = absurd (h _ f)
best_answer_one (not_read f g) (no_run h b) = absurd (h _ f)
best_answer_one (best h b) (not_read f g) = absurd (h _ f)
best_answer_one {ws} {line} (best h a) (best k b) = let e = best_one (automaton_of ws) line _ _ _ _ a b in ap₂ reading e.0 e.1
best_answer_one {ws} {line} (best h a) (no_run k b) = absurd (best_not_none (automaton_of ws) line _ _ a b)
best_answer_one (no_run h b) (not_read f g) = absurd (h _ f)
best_answer_one {ws} {line} (no_run h b) (best k a) = absurd (best_not_none (automaton_of ws) line _ _ a b)
best_answer_one (no_run h a) (no_run k b) = refl

pub set_answer_one : {ws line : List ℕ} {t : Spans} {p q : Printed} → SetAnswer ws line t p → SetAnswer ws line t q → p ≡ q
set_answer_one {ws} {line} {t} (not_weighed {n = n} f g) (not_weighed {n = m} h k) = ap (λ (i : ℕ). refusal i 0) (lowest_one _ n m f g h k)
set_answer_one (not_weighed f g) (weight h) = absurd (h _ f)
set_answer_one (weight h) (not_weighed f g) = absurd (h _ f)
set_answer_one (weight h) (weight k) = refl
