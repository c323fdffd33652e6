-- `record_of` meets its contract: the loop writes the monomials one behind the other (`Making`). Assumes nothing.
use Rattle.wiring.specs.Sets.{monomials_of}
use Rattle.roster.proofs.roster.Writing.{Making}
use Rattle.roster.proofs.roster.record_of.Given as goal

abbrev pub invariant-loop-i : goal.invariant-loop-i
invariant-loop-i l = Making (monomials_of l.set) l.bytes l.i
