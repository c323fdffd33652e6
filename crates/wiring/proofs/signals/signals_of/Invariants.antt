-- `signals_of` meets its contract: one loop writes the constants, one the set (`Signalling`). Assumes nothing.
use Prim.Native.Nat.{◌+◌, ◌≤◌}
use Rattle.wiring.proofs.signals.Laws.{Signalling}
use Rattle.wiring.proofs.signals.signals_of.Given as goal

abbrev pub invariant-loop-i : goal.invariant-loop-i
invariant-loop-i l = (l.i ≤ l.n) × Signalling l.n l.set.len l.set.m l.m (l.i + 1)

abbrev pub invariant-loop-j : goal.invariant-loop-j
invariant-loop-j l = (l.j ≤ l.set.len) × Signalling l.n l.set.len l.set.m l.m (l.n + 1 + l.j)
