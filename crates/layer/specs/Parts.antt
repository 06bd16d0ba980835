-- METHOD. What the inner functions of the byte step and of the closing have done to a layer. Definitions only.
--
-- Written         the cell at `here` is x, and every other is as it was
-- Taken           the cell at `here` is the lighter of what it was and of x, and every other is as it was
-- RowRelaxed      one row's byte, at the settings from low up to k
-- OneRelaxed      one row's byte, at every setting from low on, if it reads that byte
-- OneClosed       one row's marker, at setting u
-- ClosedAt        the markers of all of `rows`, at setting u
-- Ended           the end words of the first n states, at setting 26
-- Stepped         from a layer that is right after the byte b to one that is right before it, at position p
use Rattle.std.specs.Prelude.{◌≡◌, Bool, List, ◌∷◌, ℕ, ◌+◌, ◌*◌, ◌≤◌, ◌<◌, Option}
use Rattle.weight.specs.Weight.{lighter_to, joint_to}
use Rattle.weight.specs.Semiring.{sum}
use Rattle.weight.specs.Tropical.{least}
use Rattle.table.specs.declared.Row.{Row}
use Rattle.table.specs.Table.{Automaton, automaton_of}
use Rattle.togo.specs.Price.{base, cap}
use Rattle.layer.specs.declared.cells.Layer.{Layer}
use Rattle.layer.specs.Layer.{Cells, held, brings, carries, Right}

pub record Written (x here : ℕ) (new last : Layer) : Type 0 where
  pub cell : held last here ≡ x
  pub others : (c : ℕ) → (c ≡ here → ⊥) → held last c ≡ held new c

pub record Taken (x here : ℕ) (new last : Layer) : Type 0 where
  pub cell : held last here ≡ lighter_to cap (held new here) x
  pub others : (c : ℕ) → (c ≡ here → ⊥) → held last c ≡ held new c

pub record RowRelaxed (low from to price k : ℕ) (old new last : Cells) : Type 0 where
  pub done : (u : ℕ) → low ≤ u → u < k → last from u ≡ lighter_to cap (new from u) (joint_to cap price (old to u))
  pub kept : (q u : ℕ) → u < 27 → (q ≡ from → k ≤ u) → last q u ≡ new q u

pub record OneRelaxed (low b : ℕ) (r : Row) (old new last : Cells) : Type 0 where
  pub cell : (q u : ℕ) → low ≤ u → u < 27 → last q u ≡ lighter_to cap (new q u) (brings b old q u r)

pub record OneClosed (ts : List (Option ℕ)) (r : Row) (u : ℕ) (new last : Cells) : Type 0 where
  pub here : (q : ℕ) → last q u ≡ lighter_to cap (new q u) (carries ts new q u r)
  pub there : (q w : ℕ) → w < 27 → (w ≡ u → ⊥) → last q w ≡ new q w

pub record ClosedAt (ts : List (Option ℕ)) (rows : List Row) (u : ℕ) (new last : Cells) : Type 0 where
  pub here : (q : ℕ) → last q u ≡ lighter_to cap (new q u) (sum (least cap) (carries ts new q u) rows)
  pub there : (q w : ℕ) → w < 27 → (w ≡ u → ⊥) → last q w ≡ new q w

pub record Ended (ws : List ℕ) (n : ℕ) (new last : Layer) : Type 0 where
  pub word : (q : ℕ) → q < n → held last (q * 27 + 26) ≡ (automaton_of ws).end q * base
  pub kept : (q u : ℕ) → u < 26 → held last (q * 27 + u) ≡ held new (q * 27 + u)

pub record Stepped (allow : ℕ → ℕ → Bool) (A : Automaton) (p b : ℕ) (old new : Cells) : Type 0 where
  pub then : (bs : List ℕ) → Right allow A bs (p + 1) old → Right allow A (b ∷ bs) p new
