-- `is_beyond` meets its contract: behind none, everything stands. Assumes nothing.
use Rattle.monomial.proofs.order.Derived.{before_from_lt}
use Rattle.wiring.proofs.parts.is_beyond.Goals as goal

pub returns-in-Some : goal.returns-in-Some
returns-in-Some c = rw c.in-Some.is (before_from_lt _ _ _ c.lt.ensures)
