-- `sockets::halved` meets its contract: what is left to be halved says what the whole says (`Halving`). Assumes nothing.
use Rattle.wiring.proofs.sockets.Laws.{Halving}
use Rattle.wiring.proofs.sockets.halved.Given as goal

abbrev pub invariant-loop : goal.invariant-loop
invariant-loop l = Halving l.fn.m l.fn.times l.rest l.counter
