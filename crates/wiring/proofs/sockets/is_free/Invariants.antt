-- `sockets::is_free` meets its contract: the exponents that are left say what all say (`Clearing`). Assumes nothing.
use Rattle.monomial.specs.Monomial.{width}
use Rattle.wiring.proofs.sockets.Laws.{Clearing}
use Rattle.wiring.proofs.sockets.is_free.Given as goal

abbrev pub invariant-loop-e : goal.invariant-loop-e
invariant-loop-e l = Clearing width l.marks l.fn.m.e l.rest l.e-index
