-- `pair_of` meets its contract: both loops look for the first that passes (`PairRow` outside, `Placing` inside). Assumes nothing.
use mathlib.Core.Path.{◌≡◌}
use mathlib.Core.List.{[]}
use Prim.Native.Nat.{ℕ, ◌<◌}
use lib.Dec.{T}
use lib.ListN.{get_or}
use Rattle.monomial.specs.Monomial.{Mono}
use Rattle.monomial.specs.Quotient.{quo, divides}
use Rattle.monomial.proofs.Loops.{Placing}
use Rattle.wiring.specs.declared.held.Signals.{Signals}
use Rattle.wiring.specs.Signals.{signals_of}
use Rattle.wiring.proofs.wires.Pairs.{beside, PairRow}
use Rattle.wiring.proofs.wires.pair_of.Given as goal

-- the inner loop: signal a divides m, and the quotient is looked for from b on
pub record Inside (v : Signals) (m : Mono) (len a : ℕ) (rest : Mono) (b : ℕ) : Type 0 where
  pub long : len ≡ v.len
  pub below : a < v.len
  pub divided : T (divides (get_or (signals_of v) a []) m)
  pub quotient : rest ≡ quo m (get_or (signals_of v) a [])
  pub outer : PairRow (signals_of v) m a
  pub inner : Placing (beside (signals_of v) m (get_or (signals_of v) a [])) (signals_of v) b

abbrev pub invariant-loop-b : goal.invariant-loop-b
invariant-loop-b l = Inside l.v l.m.e l.len l.a l.rest.e l.b

abbrev pub invariant-loop-a : goal.invariant-loop-a
invariant-loop-a l = (l.len ≡ l.v.len) × PairRow (signals_of l.v) l.m.e l.a
