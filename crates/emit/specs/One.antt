-- Two results of `emit` for one table and one room are equal, and leave the room the same.
use Rattle.std.specs.Prelude.{◌≡◌, Result, Ok, Err, List, ℕ}
use Rattle.std.proofs.Common.{sym, ap, ◌∙◌, arith}
use Rattle.refusal.specs.declared.Refusal.{Refusal}
use Rattle.refusal.specs.declared.Refusal.TheVariants.{ShortRoom}
use Rattle.emit.specs.Cells.{Emits, written, short}

pub emits_one : {ws old : List ℕ} {r s : Result ℕ Refusal} {a b : List ℕ} → Emits ws old r a → Emits ws old s b → (r ≡ s) × (a ≡ b)
emits_one (written e h f) (written g k i) = (ap Ok (e ∙ sym g), f ∙ sym i)
emits_one (written e h f) (short g k i) = absurd (omega arith)
emits_one (short e h f) (written g k i) = absurd (omega arith)
emits_one (short e h f) (short g k i) = (ap (λ (k : ℕ). Err (ShortRoom k)) (e ∙ sym g), f ∙ sym i)
