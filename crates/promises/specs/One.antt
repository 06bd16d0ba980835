-- A card and a line have one answer: two results that satisfy the contract of read_card are equal.
--
-- text_answer_one     for a pattern text
-- card_answer_one     for a card
use Rattle.std.specs.Prelude.{◌≡◌, refl, List, ℕ, ◌<◌}
use Rattle.std.proofs.Common.{ap₂, arith}
use Rattle.std.proofs.Math.Decide.{dec_lt}
use Rattle.spans.specs.declared.Spans.{Spans}
use Rattle.spans.specs.Order.{not_after_antisym}
use Rattle.pattern.specs.Best.{TextBest, TextNone}
use Rattle.pattern.specs.One.{text_weight_one}
use Rattle.card.specs.One.{card_one, line_one_one}
use Rattle.compiler.specs.One.{text_fails_one, one_to_five}
use Rattle.reader.specs.Answers.{Printed, reading, refusal}
use Rattle.promises.specs.Reading.{Fails, by_text, long_line, TextAnswer, refused, best, none_best, CardAnswer, wrong_one, wrong_two, right}

fails_one : {K : ℕ} {text line : List ℕ} {n p q : ℕ} → Fails K text line n p → Fails K text line n q → p ≡ q
fails_one (by_text f) (by_text g) = text_fails_one f g
fails_one (by_text f) (long_line k) = absurd (omega (arith, (one_to_five f).1))
fails_one (long_line h) (by_text g) = absurd (omega (arith, (one_to_five g).1))
fails_one (long_line h) (long_line k) = refl

pub text_best_one : {K : ℕ} {text line : List ℕ} {w v : ℕ} {t s : Spans} → TextBest K text line w t → TextBest K text line v s → (w ≡ v) × (t ≡ s)
text_best_one {w = w} {v = v} {t = t} {s = s} a b = (e, not_after_antisym t s (a.first s b.set (rw e b.own)) (b.first t a.set (rw (← e) a.own)))
  where
    e : w ≡ v
    e = omega (arith, a.lightest s v b.set b.own, b.lightest t w a.set a.own)

best_none : {K : ℕ} {text line : List ℕ} {w : ℕ} {t : Spans} → TextBest K text line w t → TextNone K text line → ⊥
best_none {w = w} {t = t} a b = omega (arith, a.real, text_weight_one a.own (b.all t a.set))

pub text_answer_one : {K : ℕ} {text line : List ℕ} {p q : Printed} → TextAnswer K text line p → TextAnswer K text line q → p ≡ q
text_answer_one (refused {n = n} {p = p} f g) (refused {n = m} {p = q} h k) = go (dec_lt n m) (dec_lt m n)
  where
    go : Dec (n < m) → Dec (m < n) → refusal n p ≡ refusal m q
    go (yes a) b = absurd (k n p a f)
    go (no a) (yes b) = absurd (g m q b h)
    go (no a) (no b) = let c : n ≡ m = omega arith in ap₂ refusal c (fails_one (rw c at f) h)
text_answer_one (refused f g) (best h b) = absurd (h _ _ f)
text_answer_one (refused f g) (none_best h b) = absurd (h _ _ f)
text_answer_one (best h b) (refused f g) = absurd (h _ _ f)
text_answer_one (best h a) (best k b) = let e = text_best_one a b in ap₂ reading e.0 e.1
text_answer_one (best h a) (none_best k b) = absurd (best_none a b)
text_answer_one (none_best h b) (refused f g) = absurd (h _ _ f)
text_answer_one (none_best h b) (best k a) = absurd (best_none a b)
text_answer_one (none_best h a) (none_best k b) = refl

pub card_answer_one : {card line : List ℕ} {p q : Printed} → CardAnswer card line p → CardAnswer card line q → p ≡ q
card_answer_one (wrong_one f) (wrong_one g) = refl
card_answer_one (wrong_one f) (wrong_two r o g) = absurd (f _ r o)
card_answer_one (wrong_one f) (right c a) = absurd (f _ c.second c.one)
card_answer_one (wrong_two r o f) (wrong_one g) = absurd (g _ r o)
card_answer_one (wrong_two r o f) (wrong_two s q g) = refl
card_answer_one {card} (wrong_two r o f) (right {text = p} {lines = l} c a) = absurd (f p l (rw (← (line_one_one card _ _ r c.second o c.one).1) at c.two))
card_answer_one (right c a) (wrong_one f) = absurd (f _ c.second c.one)
card_answer_one {card} (right {text = p} {lines = l} c a) (wrong_two r o f) = absurd (f p l (rw (← (line_one_one card _ _ r c.second o c.one).1) at c.two))
card_answer_one {card} (right c a) (right d b) = let e = card_one card _ _ _ _ _ _ c d in text_answer_one (rw (e.0, e.1) at a) b
