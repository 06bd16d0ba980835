-- Two results that satisfy the contract of a public function are equal.
--
-- row_at_one      row_at
-- is_right_one    is_right
use Rattle.std.specs.Prelude.{◌≡◌, Bool, List, ℕ}
use Rattle.std.proofs.Common.{sym, ◌∙◌}
use Rattle.basics.specs.Decides.{Decides, decided_one}
use Rattle.table.specs.declared.Row.{Row}
use Rattle.table.specs.Table.{row_of_words, RightTable}

pub row_at_one : (ws : List ℕ) (at : ℕ) (r s : Row) → r ≡ row_of_words ws at → s ≡ row_of_words ws at → r ≡ s
row_at_one ws at r s p q = p ∙ sym q

pub is_right_one : (ws : List ℕ) (a b : Bool) → Decides (RightTable ws) a → Decides (RightTable ws) b → a ≡ b
is_right_one ws a b p q = decided_one a b p q
