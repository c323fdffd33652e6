-- `cheapest_of` meets its contract: the loop keeps the cheapest of the monomials met (`Collecting`). Assumes nothing.
use mathlib.Core.List.{[], ◌∷◌}
use Rattle.monomial.proofs.Loops.{Collecting}
use Rattle.wiring.specs.Signals.{tabled}
use Rattle.wiring.specs.Choice.{cheaper, Best}
use Rattle.counting.proofs.gathering.cheapest_of.Given as goal

abbrev pub invariant-loop-i : goal.invariant-loop-i
invariant-loop-i loop = Collecting (λ x. x ∷ []) (tabled loop.list) (λ l. Best cheaper l loop.best) loop.i
