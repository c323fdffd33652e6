-- `stays_below` meets its contract: the quotients that occur once, twice, and so on are added up (`Summing`). Assumes nothing.
use Rattle.wiring.specs.Signals.{tabled, signals_at}
use Rattle.wiring.specs.Sockets.{can_build}
use Rattle.counting.proofs.counting.Sums.{Summing}
use Rattle.counting.proofs.counting.stays_below.Given as goal

abbrev pub invariant-loop-often : goal.invariant-loop-often
invariant-loop-often l = Summing (can_build l.panel) (signals_at l.v.n l.v.set.now) (tabled l.list) l.room l.wanted l.left l.often
