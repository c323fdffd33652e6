-- `signals_of` meets its contract: one loop writes the constants, one the set (`Signalling`). Assumes nothing.
use mathlib.Core.Path.{◌≡◌, refl, ap}
use Prim.Native.Nat.{ℕ, ◌+◌}
use native.Mathlib.Omega.{arith}
use Rattle.wiring.proofs.signals.Arrays.{array_length}
use Rattle.wiring.proofs.signals.Laws.{signalling_start, signalling_constant, signalling_new, signalling_end}
use borrow.Author.Rules.{rules}
use Rattle.wiring.proofs.signals.signals_of.Goals as goal

pub loop-i-init : goal.loop-i-init
loop-i-init c = (omega arith, signalling_start _ _ _ _ c.requires c.args.set.few (search (rules, array_length)) refl refl)

pub loop-i-preserved : goal.loop-i-preserved
loop-i-preserved c = (omega arith, signalling_constant c.loop-i.invariant.1 c.constant.result (omega arith) c.constant.ensures)

pub loop-j-preserved : goal.loop-j-preserved
loop-j-preserved c = (omega arith, signalling_new c.loop-j.invariant.1 _ c.loop-j.j refl (omega arith) refl)

pub returns : goal.returns
returns c =
    let len = c.args.set.len in
    let j : c.loop-j.j ≡ len = omega arith in
    (signalling_end c.loop-j.invariant.1 (ap (λ (k : ℕ). c.args.n + 1 + k) j), refl)
