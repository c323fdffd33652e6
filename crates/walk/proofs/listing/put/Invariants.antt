-- `put` meets its contract: the loop pastes the bytes of the record over the buffer (`Pasting`). Assumes nothing.
use Rattle.monomial.proofs.Loops.{Pasting}
use Rattle.wiring.specs.Panel.{set_bytes}
use Rattle.wiring.specs.Signals.{tabled}
use Rattle.wiring.specs.Sets.{set_record}
use Rattle.walk.proofs.listing.put.Given as goal

abbrev pub invariant-loop-i : goal.invariant-loop-i
invariant-loop-i l = Pasting 0 set_bytes l.at (set_record (tabled l.set)) l.initial.out l.out l.i
