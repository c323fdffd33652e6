-- `nearest` meets its contract: V and the root are tried one after the other (`Nearing`). Assumes nothing.
use Rattle.wiring.specs.Signals.{signals_at}
use Rattle.lister.specs.Nearest.{Nearing}
use Rattle.lister.proofs.nearest.nearest.Given as goal

abbrev pub invariant-loop-j : goal.invariant-loop-j
invariant-loop-j l = Nearing (signals_at l.v.n l.v.set.now) l.m.e l.a.e l.near l.j
