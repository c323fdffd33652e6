-- `is_unmet` meets its contract: the loop looks through the signals from the last one for one with a nonsquare (`SeekingDown`). Assumes nothing.
use mathlib.Core.Bool.{Bool}
use mathlib.Core.List.{List}
use Prim.Native.Nat.{ℕ}
use Rattle.monomial.specs.Lists.{some}
use Rattle.monomial.specs.Monomial.{Mono}
use Rattle.monomial.proofs.Loops.{SeekingDown}
use Rattle.wiring.specs.Poly.{plain}
use Rattle.wiring.specs.Derivative.{derivative}
use Rattle.wiring.specs.Quadratic.{unmet}
use Rattle.wiring.specs.Signals.{signals_at}
use Rattle.wiring.specs.Terms.{records, system}
use Rattle.wiring.proofs.system.System.is_unmet.Given as goal

-- the test that the loop asks of each signal
abbrev pub bad : List ℕ → List Mono → Mono → Bool
bad terms v z = some (unmet plain v (derivative plain (system (records terms)) z))

abbrev pub invariant-loop-j : goal.invariant-loop-j
invariant-loop-j l = SeekingDown (bad l.self.terms.now (signals_at l.v.n l.v.set.now)) (signals_at l.v.n l.v.set.now) l.j
