-- `entered` meets its contract: the loop goes along the set with one monomial in hand (`Handing`). Assumes nothing.
use mathlib.Core.Path.{◌≡◌}
use Prim.Native.Nat.{◌≤◌}
use lib.ListN.{length}
use Rattle.monomial.specs.Lists.{insert_by}
use Rattle.monomial.specs.Order.{same, before}
use Rattle.wiring.specs.Panel.{cards}
use Rattle.wiring.specs.Sets.{monomials_of}
use Rattle.roster.proofs.roster.Placing.{Handing}
use Rattle.roster.proofs.roster.entered.Given as goal

abbrev pub invariant-loop-i : goal.invariant-loop-i
invariant-loop-i l =
    (l.i ≤ l.len) × (l.len ≡ l.set.len) × (length l.next ≡ cards) × Handing (monomials_of l.set) (insert_by same before l.initial.hand.e (monomials_of l.set)) l.next l.hand l.i
