-- `names_of` meets its contract: the loop's invariant is `Hearing`. Assumes nothing.
use Rattle.desktop.proofs.names.Hearing.{Hearing}
use Rattle.desktop.proofs.names.names_of.Given as goal

abbrev pub invariant-loop-x : goal.invariant-loop-x
invariant-loop-x l = Hearing l.known l.text l.g l.x-index l.k
