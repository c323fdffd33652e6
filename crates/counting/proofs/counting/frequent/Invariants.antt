-- `frequent` meets its contract: one monomial of the list after the other (`Finding`), which comes to all quotients (`news_frequent`).
-- Assumes nothing.
use Rattle.wiring.specs.Signals.{tabled, signals_at}
use Rattle.wiring.specs.Sockets.{can_build}
use Rattle.counting.proofs.counting.Begins.{Finding}
use Rattle.counting.proofs.counting.frequent.Given as goal

abbrev pub invariant-loop-i : goal.invariant-loop-i
invariant-loop-i l =
    Finding (can_build l.panel) (signals_at l.v.n l.v.set.now) l.often (tabled l.list) l.cap l.i l.met
