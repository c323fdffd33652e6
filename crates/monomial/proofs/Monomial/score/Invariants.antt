-- `Monomial::score` meets its contract: the product so far, times that of the places left, is the score. Assumes nothing.
use mathlib.Core.Path.{◌≡◌}
use Prim.Native.Nat.{◌*◌}
use lib.ListN.{drop}
use Rattle.monomial.specs.Divisors.{score}
use Rattle.monomial.proofs.Monomial.score.Given as goal

abbrev pub invariant-loop-x : goal.invariant-loop-x
invariant-loop-x l = l.r * score (drop l.x-index l.fn.self.e) ≡ score l.fn.self.e
