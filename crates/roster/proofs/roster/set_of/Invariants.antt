-- `set_of` meets its contract: the names join one by one, the last first (`Joining`). Assumes nothing.
use Prim.Native.Nat.{◌≤◌}
use Rattle.wiring.specs.Panel.{cards}
use Rattle.wiring.specs.Sets.{monomials_of}
use Rattle.roster.proofs.roster.Joining.{Joining}
use Rattle.roster.proofs.roster.set_of.Given as goal

abbrev pub invariant-loop-i : goal.invariant-loop-i
invariant-loop-i l = record {
  few : l.set.1.0 ≤ cards;
  joining : Joining l.panel (monomials_of l.names) (record { m = l.set.0; len = l.set.1.0; few = few }) l.i;
}
