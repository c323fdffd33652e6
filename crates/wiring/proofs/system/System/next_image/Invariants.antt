-- `next_image` meets its contract: the loop keeps the best of what the records give (`Collecting`). Assumes nothing.
use Rattle.wiring.specs.Derivative.{gives}
use Rattle.wiring.specs.Terms.{records}
use Rattle.monomial.specs.Order.{before}
use Rattle.monomial.proofs.Loops.{Collecting}
use Rattle.wiring.specs.Choice.{beyond, Best}
use Rattle.wiring.proofs.quadratic.Records.{met}
use Rattle.wiring.proofs.system.System.next_image.Given as goal

abbrev pub invariant-loop-t : goal.invariant-loop-t
invariant-loop-t loop = Collecting (met (gives (beyond loop.last) loop.z.e) loop.z.e) (records loop.self.terms.now) (λ l. Best before l loop.best) loop.t
