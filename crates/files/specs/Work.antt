-- MEANING. What a run of a program's work did, by the steps of the closure that does it.
--
-- AllOk step f last       f was called some number of times, one after the other, each call answered with Ok, and the last left it as `last`
use Rattle.std.specs.Prelude.{List, Result, Ok}
use Rattle.std.specs.List.{FoldsTo}

abbrev pub AllOk : {F X E : Type 0} → (F → X → Result (Unit {0}) E → X → F → Type 0) → F → F → Type 0
AllOk {F} {X} step f last = (calls : List X) × FoldsTo (λ p x q. (y : X) × step p x (Ok tt) y q) f calls last
