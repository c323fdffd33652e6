-- `Monomial::write` meets its contract: the loop pastes the exponents over the slice (`Pasting`). Assumes nothing.
use Rattle.monomial.proofs.Loops.{Pasting}
use Rattle.monomial.specs.Monomial.{width}
use Rattle.monomial.proofs.Monomial.write.Given as goal

abbrev pub invariant-loop-i : goal.invariant-loop-i
invariant-loop-i l = Pasting 0 width l.at l.self.e l.initial.s l.s l.i
