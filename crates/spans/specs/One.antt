-- Two results that satisfy the contract of a public function are equal.
--
-- is_set_one      Spans::is_set
use Rattle.std.specs.Prelude.{◌≡◌, Bool, ℕ}
use Rattle.basics.specs.Decides.{Decides, decided_one}
use Rattle.spans.specs.declared.Spans.{Spans}
use Rattle.spans.specs.Spans.{SetOfSpans}

pub is_set_one : (K n : ℕ) (t : Spans) (a b : Bool) → Decides (SetOfSpans K n t) a → Decides (SetOfSpans K n t) b → a ≡ b
is_set_one K n t a b p q = decided_one a b p q
