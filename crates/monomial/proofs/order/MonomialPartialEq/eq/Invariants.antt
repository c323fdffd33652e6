-- `==` of monomials meets its contract: the loop compares place by place. Assumes nothing.
use mathlib.Core.Path.{◌≡◌}
use lib.Dec.{eqb}
use lib.ListN.{drop}
use Rattle.std.specs.Cmp.Lexicographic.{pointwise}
use Rattle.monomial.proofs.order.MonomialPartialEq.eq.Given as goal

abbrev pub invariant-loop-i : goal.invariant-loop-i
invariant-loop-i l = pointwise eqb (drop l.i l.self.e) (drop l.i l.other.e) ≡ pointwise eqb l.self.e l.other.e
