-- `<` of monomials meets its contract: what the places from i on answer, the monomials answer. Assumes nothing.
use mathlib.Core.Path.{◌≡◌}
use lib.ListN.{drop}
use Rattle.monomial.proofs.order.Derived.{compared}
use Rattle.monomial.proofs.order.MonomialPartialOrd.partial_cmp.Given as goal

abbrev pub invariant-loop-i : goal.invariant-loop-i
invariant-loop-i l = compared (drop l.i l.self.e) (drop l.i l.other.e) ≡ compared l.self.e l.other.e
