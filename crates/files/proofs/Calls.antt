-- One more call that was answered with Ok.
use Rattle.std.specs.Prelude.{[], ◌∷◌, ◌++◌, Result, Ok}
use Rattle.std.proofs.lemmas.Fn.{FoldsTo-push}
use Rattle.files.specs.Work.{AllOk}

pub one_more : {F X E : Type 0} (step : F → X → Result (Unit {0}) E → X → F → Type 0) {f p q : F} {x y : X} → AllOk step f p → step p x (Ok tt) y q → AllOk step f q
one_more step {f = f} {p = p} {q = q} {x = x} {y = y} w s = (w.0 ++ (x ∷ []), FoldsTo-push _ f w.0 p x q w.1 (y, s))
