-- `Monomial::is_within` meets its contract: the loop tests the exponents from number n on (`CheckingFrom`). Assumes nothing.
use lib.Dec.{eqb}
use Rattle.monomial.proofs.Loops.{CheckingFrom}
use Rattle.monomial.proofs.Monomial.is_within.Given as goal

abbrev pub invariant-loop-i : goal.invariant-loop-i
invariant-loop-i l = CheckingFrom (eqb 0) l.self.e l.n l.i
