-- `tally_at` meets its contract: the loop adds up the quotients that begin (`Tallying`). Assumes nothing.
use Prim.Native.Nat.{◌+◌}
use lib.ListN.{get_or, take, drop}
use Rattle.monomial.specs.Monomial.{one, width}
use Rattle.wiring.specs.Signals.{tabled, signals_at}
use Rattle.wiring.specs.Sockets.{can_build}
use Rattle.counting.specs.Counting.{begins}
use Rattle.counting.proofs.counting.Hits.{Tallying}
use Rattle.counting.proofs.counting.tally_at.Given as goal

abbrev pub invariant-loop-j : goal.invariant-loop-j
invariant-loop-j l =
    Tallying (begins (can_build l.panel) (signals_at l.v.n l.v.set.now) l.often (take l.i (tabled l.list)) (drop (l.i + 1) (tabled l.list)) (get_or (tabled l.list) l.i (one width))) (signals_at l.v.n l.v.set.now) l.cap l.many l.j l.met
