-- A table's rules have one proof at most, so that a struct may keep them beside the words.
--
-- RightLabel-prop, RightEnd-prop, RightTable-prop
use Rattle.std.specs.Prelude.{◌≡◌, List, ℕ}
use Rattle.std.proofs.Common.{ap, ap₂, inl, inr, arith}
use Rattle.std.proofs.Props.{props}
use Rattle.std.specs.Coded.{le_prop}
use Rattle.weight.specs.Weight.{mark}
use Rattle.marks.specs.Labels.{RightLabel, byte, opens, closes}
use Rattle.table.specs.Table.{RightEnd, RightTable}

pub RightLabel-prop : {K k a : ℕ} → IsProp (RightLabel K k a)
RightLabel-prop (byte s o) (byte t p) = ap₂ byte (le_prop s t) (le_prop o p)
RightLabel-prop (opens l u) (opens m v) = ap₂ opens (le_prop l m) (le_prop u v)
RightLabel-prop (closes l u) (closes m v) = ap₂ closes (le_prop l m) (le_prop u v)

pub RightEnd-prop : (w : ℕ) → IsProp (RightEnd w)
RightEnd-prop w (inl a) (inl b) = ap inl (le_prop a b)
RightEnd-prop w (inl a) (inr f) = absurd (omega arith)
RightEnd-prop w (inr e) (inl b) = absurd (omega arith)
RightEnd-prop w (inr e) (inr f) = let one : IsProp (w ≡ mark) = Prim.hlevel props in ap inr (one e f)

pub RightTable-prop : (ws : List ℕ) → IsProp (RightTable ws)
RightTable-prop ws = Prim.hlevel (RightLabel-prop, RightEnd-prop, props)
