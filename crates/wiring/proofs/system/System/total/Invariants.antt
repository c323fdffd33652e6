-- `System::total` meets its contract: the loop adds the records up in 32 bits (`Adding`). Assumes nothing.
use Rattle.wiring.proofs.derivative.Bounds.{Adding}
use Rattle.wiring.proofs.system.System.total.Given as goal

abbrev pub invariant-loop-t : goal.invariant-loop-t
invariant-loop-t l = Adding l.self.terms.now l.z.e l.m.e l.sum l.t
