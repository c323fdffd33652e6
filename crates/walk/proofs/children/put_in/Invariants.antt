-- `put_in` meets its contract: the loop moves up by one place what does not stand before m (`Inserting`). Assumes nothing.
use Rattle.walk.proofs.children.Offers.{Inserting}
use Rattle.walk.proofs.children.put_in.Given as goal

abbrev pub invariant-loop-i : goal.invariant-loop-i
invariant-loop-i l = Inserting l.m.e l.len l.initial.s l.s l.i
