-- `Monomial::next_divisor` meets its contract: the loop carries from the last exponent on (`Carrying`). Assumes nothing.
use Rattle.monomial.specs.Monomial.{width}
use Rattle.monomial.proofs.divisors.Following.{Carrying}
use Rattle.monomial.proofs.Monomial.next_divisor.Given as goal

abbrev pub invariant-loop-i : goal.invariant-loop-i
invariant-loop-i l = Carrying width l.m.e l.initial.e l.e l.i
