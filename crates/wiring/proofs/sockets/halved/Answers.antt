-- `sockets::halved` meets its contract: what is left to be halved says what the whole says (`Halving`). Assumes nothing.
use Rattle.wiring.proofs.sockets.Laws.{halving_start, halving_on, halving_ends}
use Rattle.wiring.proofs.sockets.halved.Goals as goal

pub loop-init : goal.loop-init
loop-init c = halving_start _ _

pub loop-preserved : goal.loop-preserved
loop-preserved c = halving_on c.loop.invariant c.loop-test.true

pub returns : goal.returns
returns c = halving_ends c.loop.invariant c.loop-test.false
