-- `number_of` meets its contract: the loop has the rest of the word before it (`Reading`). Assumes nothing.
use Rattle.lines.proofs.number.Laws.{Reading}
use Rattle.lines.proofs.number.number_of.Given as goal

abbrev pub invariant-loop-x : goal.invariant-loop-x
invariant-loop-x l = Reading l.word l.v l.x-index
