-- `digest` meets its contract: the loop has the rest of the bytes before it (`Digesting`). Assumes nothing.
use Rattle.std.proofs.Common.{ap, arith}
use Rattle.lines.specs.Digest.{multiplied}
use Rattle.lines.proofs.digest.Laws.{digesting_start, digesting_next, digesting_end}
use Rattle.lines.proofs.digest.digest.Goals as goal

pub loop-x-init : goal.loop-x-init
loop-x-init c = digesting_start _

pub loop-x-preserved : goal.loop-x-preserved
loop-x-preserved c = digesting_next c.loop-x.invariant _ c.loop-x-test.true (ap multiplied c.mix-h.ensures)

pub returns : goal.returns
returns c = digesting_end c.loop-x.invariant (omega arith)
