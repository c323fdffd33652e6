-- `seek` meets its contract: the loop goes from divisor to divisor, and has met no pair of the kind that is sought (`Seeking`). Assumes nothing.
use lib.ListN.{length}
use Rattle.monomial.specs.Claims.{pairs_from}
use Rattle.wiring.specs.Signals.{signals_at}
use Rattle.lister.specs.Cheap.{of_kind}
use Rattle.lister.proofs.passes.Laws.{Seeking}
use Rattle.lister.proofs.passes.seek.Given as goal

abbrev pub invariant-loop-m : goal.invariant-loop-m
invariant-loop-m l = Seeking l.m.e (of_kind (signals_at l.v.n l.v.set.now) l.from.rest) l.initial.a.e l.a.e

abbrev pub decreases-loop-m : goal.decreases-loop-m
decreases-loop-m l = length (pairs_from l.m.e l.a.e)
