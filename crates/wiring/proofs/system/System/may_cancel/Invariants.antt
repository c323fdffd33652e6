-- `System::may_cancel` meets its contract: two loops look at every two records, and have met none that cross (`Uncrossing`). Assumes nothing.
use Rattle.wiring.proofs.derivative.Cancelling.{Uncrossing}
use Rattle.wiring.proofs.system.System.may_cancel.Given as goal

abbrev pub invariant-loop-u : goal.invariant-loop-u
invariant-loop-u l = Uncrossing l.self.terms.now l.t l.u

abbrev pub invariant-loop-t : goal.invariant-loop-t
invariant-loop-t l = Uncrossing l.self.terms.now l.t 0
