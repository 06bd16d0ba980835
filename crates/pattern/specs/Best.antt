-- MEANING. The best reading of a line by a text: demand 2's definition, said of the text's own weights. Definitions only.
--
-- TextBest K text line w t    t is a set of spans of the line, w is the weight that the text gives it and not the mark, the text
--                             gives no set less, and no set of that weight stands before t in the printed order
-- TextNone K text line        the text gives every set of spans of the line the mark
use Rattle.std.specs.Prelude.{List, ℕ, ◌≤◌, ◌<◌, length}
use Rattle.weight.specs.Weight.{mark}
use Rattle.spans.specs.declared.Spans.{Spans}
use Rattle.spans.specs.Spans.{SetOfSpans, NotAfter}
use Rattle.pattern.specs.Derivations.{WeightOfText}

pub record TextBest (K : ℕ) (text line : List ℕ) (w : ℕ) (t : Spans) : Type 0 where
  pub set : SetOfSpans K (length line) t
  pub own : WeightOfText K text line t w
  pub real : w < mark
  pub lightest : (s : Spans) (v : ℕ) → SetOfSpans K (length line) s → WeightOfText K text line s v → w ≤ v
  pub first : (s : Spans) → SetOfSpans K (length line) s → WeightOfText K text line s w → NotAfter t s

pub record TextNone (K : ℕ) (text line : List ℕ) : Type 0 where
  pub all : (s : Spans) → SetOfSpans K (length line) s → WeightOfText K text line s mark
