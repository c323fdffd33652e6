-- `set_of` meets its contract: the loop copies the used places (`Copying`). Assumes nothing.
use Prim.Native.Nat.{◌≤◌}
use lib.ListN.{take}
use Rattle.wiring.specs.Sets.{places}
use Rattle.wiring.proofs.signals.Arrays.{Copying}
use Rattle.wiring.specs.Panel.{cards}
use Rattle.wiring.proofs.sets.set_of.Given as goal

abbrev pub invariant-loop-i : goal.invariant-loop-i
invariant-loop-i l = (l.i ≤ l.len) × Copying cards (take l.len (places l.s)) l.m l.i
