-- `files::each` may go on calling its work, and each call so far was answered with Ok.
use Rattle.files.specs.Work.{AllOk}
use Rattle.files.proofs.each.Given as goal

abbrev pub invariant-loop-i : goal.invariant-loop-i
invariant-loop-i g l = goal.F-IsAlwaysCallable g l.work × AllOk (goal.F-step g) l.fn.work l.work
