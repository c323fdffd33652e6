-- `digest` meets its contract: the loop has the rest of the bytes before it (`Digesting`). Assumes nothing.
use Rattle.lines.proofs.digest.Laws.{Digesting}
use Rattle.lines.proofs.digest.digest.Given as goal

abbrev pub invariant-loop-x : goal.invariant-loop-x
invariant-loop-x l = Digesting l.s l.h l.x-index
