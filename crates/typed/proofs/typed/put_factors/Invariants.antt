-- `put_factors` meets its contract: the loop puts power after power, each behind its lead (`Powering`). Assumes nothing.
use Rattle.typed.proofs.typed.Laws.{Powering}
use Rattle.typed.proofs.typed.put_factors.Given as goal

abbrev pub invariant-loop-i : goal.invariant-loop-i
invariant-loop-i l = Powering l.e-items l.i l.some l.initial.line l.line
