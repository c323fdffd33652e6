-- `next_part` meets its contract: what is behind the pick and has a coefficient is what is asked for (`Parting`). Assumes nothing.
use lib.ListN.{length}
use Rattle.monomial.specs.Lists.{keep}
use Rattle.wiring.specs.Derivative.{images}
use Rattle.wiring.specs.Choice.{beyond}
use Rattle.wiring.specs.Terms.{records}
use Rattle.wiring.proofs.parts.Laws.{Parting}
use Rattle.wiring.proofs.system.System.next_part.Given as goal

abbrev pub invariant-loop-m : goal.invariant-loop-m
invariant-loop-m l = Parting (records l.self.terms.now) l.z.e l.initial.behind l.behind

abbrev pub decreases-loop-m : goal.decreases-loop-m
decreases-loop-m l = length (keep (beyond l.behind) (images (records l.self.terms.now) l.z.e))
