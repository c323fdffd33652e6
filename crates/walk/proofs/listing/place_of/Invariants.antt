-- `place_of` meets its contract: the loop passes the finds that stand before the set (`Placing`), and none of them is it (`Seeking`). Assumes nothing.
use mathlib.Core.Bool.{not}
use Rattle.monomial.specs.Order.{same_set, before_set}
use Rattle.monomial.proofs.Loops.{Placing, Seeking}
use Rattle.wiring.specs.Signals.{tabled}
use Rattle.walk.specs.Walk.{Finds}
use Rattle.walk.specs.Listing.{Shown}
use Rattle.walk.proofs.listing.place_of.Given as goal

abbrev pub invariant-loop-i : goal.invariant-loop-i
invariant-loop-i l =
    (finds : Finds) → Shown finds l.count l.s → Seeking (same_set (tabled l.set)) finds l.i × Placing (λ f. not (before_set f (tabled l.set))) finds l.i
