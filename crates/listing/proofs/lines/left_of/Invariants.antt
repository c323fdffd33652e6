-- `left_of` meets its contract: the loop's invariant is `Counting`. Assumes nothing.
use Rattle.listing.proofs.lines.Laws.{Counting}
use Rattle.listing.proofs.lines.left_of.Given as goal

abbrev pub invariant-loop-i : goal.invariant-loop-i
invariant-loop-i l = Counting l.known l.names l.line l.marks l.i l.more
