-- `compare` meets its contract: the loop compares byte by byte, in both words (`Comparing`). Assumes nothing.
use Rattle.monomial.specs.Order.{same, before}
use Rattle.monomial.proofs.Loops.{Comparing}
use Rattle.wiring.specs.Panel.{set_bytes}
use Rattle.wiring.specs.Signals.{tabled}
use Rattle.wiring.specs.Sets.{set_record}
use Rattle.walk.proofs.listing.compare.Given as goal

abbrev pub invariant-loop-i : goal.invariant-loop-i
invariant-loop-i l = Comparing set_bytes before l.s (set_record (tabled l.set)) l.i × Comparing set_bytes same l.s (set_record (tabled l.set)) l.i
