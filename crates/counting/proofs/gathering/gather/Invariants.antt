-- `gather` meets its contract: two loops list the nonsquares of one signal's derivative after the other, from the last (`Gathering`). Assumes nothing.
use mathlib.Core.Path.{◌≡◌}
use Prim.Native.Nat.{◌+◌}
use lib.ListN.{length}
use Rattle.wiring.specs.Poly.{plain}
use Rattle.wiring.specs.Derivative.{derivative}
use Rattle.wiring.specs.Signals.{signals_at}
use Rattle.wiring.specs.Terms.{records, system}
use Rattle.counting.proofs.gathering.Laws.{Gathering}
use Rattle.counting.proofs.gathering.gather.Given as goal

abbrev pub invariant-loop-i : goal.invariant-loop-i
invariant-loop-i l =
    (length l.list ≡ length l.initial.list) × Gathering (signals_at l.v.n l.v.set.now) (derivative plain (system (records l.s.terms.now))) l.most l.len l.list (l.v.n + 1 + l.i)

abbrev pub invariant-loop-j : goal.invariant-loop-j
invariant-loop-j l =
    (length l.list ≡ length l.initial.list) × Gathering (signals_at l.v.n l.v.set.now) (derivative plain (system (records l.s.terms.now))) l.most l.len l.list l.j
