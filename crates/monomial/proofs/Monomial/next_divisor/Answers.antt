-- `Monomial::next_divisor` meets its contract: the loop carries from the last exponent on (`Carrying`). Assumes nothing.
use mathlib.Core.Path.{◌≡◌, subst}
use Prim.Native.Nat.{ℕ, ◌+◌, ◌-◌, ◌<◌}
use native.Mathlib.Omega.{arith}
use Rattle.monomial.specs.Monomial.{Mono, width}
use Rattle.monomial.proofs.divisors.Following.{Carrying, carrying_start, carrying_rises, carrying_on, carrying_ends}
use borrow.Author.Rules.{rules}
use Rattle.monomial.proofs.Monomial.next_divisor.Goals as goal

-- the place above i - 1 is i
at_above : {m d r : Mono} (i : ℕ) → 0 < i → Carrying width m d r i → Carrying width m d r (i - 1 + 1)
at_above {m} {d} {r} i h v = let e : i ≡ i - 1 + 1 = omega arith in subst (Carrying width m d r) e v

pub loop-i-init : goal.loop-i-init
loop-i-init c = carrying_start width _ _ (search rules) (search rules)

pub returns-then-e-i : goal.returns-then-e-i
returns-then-e-i c = carrying_rises (c.loop-i.i - 1) (at_above c.loop-i.i (omega arith) c.loop-i.invariant) c.if-e-i.true

pub loop-i-preserved : goal.loop-i-preserved
loop-i-preserved c = carrying_on (c.loop-i.i - 1) (at_above c.loop-i.i (omega arith) c.loop-i.invariant) c.if-e-i.false

pub returns-after-loop-i : goal.returns-after-loop-i
returns-after-loop-i c = carrying_ends c.loop-i.invariant (omega arith)
