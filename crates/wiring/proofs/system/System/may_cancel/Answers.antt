-- `System::may_cancel` meets its contract: two loops look at every two records, and have met none that cross (`Uncrossing`). Assumes nothing.
use Rattle.wiring.proofs.derivative.Cancelling.{uncrossing_ends, uncancelled}
use Rattle.wiring.proofs.system.System.may_cancel.Goals as goal

pub returns : goal.returns
returns c e = uncancelled _ c.args.self.clean (uncrossing_ends c.loop-t.invariant (rw c.count-t-end.ensures at c.loop-t-test.false))
