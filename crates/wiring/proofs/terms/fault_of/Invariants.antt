-- `terms::fault_of` meets its contract: the loop judges the records one by one (`Judging`). Assumes nothing.
use Rattle.wiring.specs.Terms.{records}
use Rattle.wiring.proofs.terms.Laws.{Judging}
use Rattle.wiring.proofs.terms.fault_of.Given as goal

abbrev pub invariant-loop-t : goal.invariant-loop-t
invariant-loop-t l = Judging l.panel (records l.terms) l.t
