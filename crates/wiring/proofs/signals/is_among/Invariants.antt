-- `is_among` meets its contract: the loop looks through the monomials of the list (`Seeking`). Assumes nothing.
use Rattle.monomial.specs.Order.{same}
use Rattle.monomial.proofs.Loops.{Seeking}
use Rattle.wiring.specs.Signals.{tabled}
use Rattle.wiring.proofs.signals.is_among.Given as goal

abbrev pub invariant-loop-i : goal.invariant-loop-i
invariant-loop-i l = Seeking (same l.m.e) (tabled l.list) l.i
