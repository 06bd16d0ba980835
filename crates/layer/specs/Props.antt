-- What a plan keeps has one proof at most.
--
-- Markers-prop, Moves-prop
use Rattle.std.specs.Prelude.{List, [], ◌∷◌, ℕ}
use Rattle.std.specs.Coded.{×_prop, Unit-prop}
use Rattle.std.proofs.Props.{props}
use Rattle.basics.specs.Lists.{All}
use Rattle.setting.specs.Setting.{Moves}
use Rattle.table.specs.Props.{RightLabel-prop}
use Rattle.layer.specs.Layer.{MarkerAt, Markers}

pub All-prop : {R : Type 0} {P : R → Type 0} → ((r : R) → IsProp (P r)) → (rs : List R) → IsProp (All P rs)
All-prop one [] = Unit-prop
All-prop one (r ∷ rs) = ×_prop (one r) (All-prop one rs)

pub MarkerAt-prop : (ws : List ℕ) (at : ℕ) → IsProp (MarkerAt ws at)
MarkerAt-prop ws at = Prim.hlevel (RightLabel-prop, props)

pub Markers-prop : (ws : List ℕ) (n : ℕ) (offs : List ℕ) → IsProp (Markers ws n offs)
Markers-prop ws n offs = let each : IsProp (All (MarkerAt ws) offs) = All-prop (MarkerAt-prop ws) offs in Prim.hlevel (each, props)

pub Moves-prop : (t : List ℕ) → IsProp (Moves t)
Moves-prop t = Prim.hlevel props
