-- `put_right` meets its contract: the loop puts term after term (`Summing`). Assumes nothing.
use Rattle.typed.specs.Typed.{wires_in}
use Rattle.typed.proofs.typed.Laws.{Summing}
use Rattle.typed.proofs.typed.Listing.put_right.Given as goal

abbrev pub invariant-loop-j : goal.invariant-loop-j
invariant-loop-j l = Summing l.self.known l.l (wires_in l.self.count l.self.wires.now) l.j l.i l.initial.line l.line
