-- `files::each`: the call for an open file is one more; a file that cannot be opened leaves the work as it was.
use Rattle.std.proofs.Common.{of_calls}
use Rattle.files.proofs.Calls.{one_more}
use Rattle.files.proofs.each.Given as given
use Rattle.files.proofs.each.Goals as goal
use Rattle.files.proofs.each.Goals.{in-Ok-open+in_ok-work-in-Ok-open, in-Err+in_ok-refuse-in-Err}

pub loop-i-preserved : goal.loop-i-preserved
loop-i-preserved g c =
    elim c.match-open.branch [
      | in-Ok-open+in_ok-work-in-Ok-open w ↦
          rw w.work-is (search of_calls, one_more (given.F-step g) c.loop-i.invariant.1 w.in_ok-work-in-Ok-open.ensures)
      | in-Err+in_ok-refuse-in-Err w ↦ rw w.work-is c.loop-i.invariant
    ]
