-- `recurs` meets its contract: the loop meets one multiple after the other (`Recurring`). Assumes nothing.
use mathlib.Core.Path.{◌≡◌}
use Prim.Native.Nat.{◌-◌, ◌/◌}
use lib.ListN.{length}
use Rattle.monomial.specs.Monomial.{width}
use Rattle.wiring.specs.Signals.{tabled, signals_at}
use Rattle.counting.proofs.counting.Hits.{Recurring}
use Rattle.counting.proofs.counting.recurs.Given as goal

abbrev pub invariant-loop-left : goal.invariant-loop-left
invariant-loop-left l = (l.len ≡ length l.list / width) × Recurring (signals_at l.v.n l.v.set.now) l.q.e (tabled l.list) l.from l.often l.left l.a

abbrev pub decreases-loop-left : goal.decreases-loop-left
decreases-loop-left l = l.len - l.a
