-- `set_of` meets its contract: the loop copies the used places (`Copying`). Assumes nothing.
use mathlib.Core.Path.{◌≡◌, refl, sym, ap, ◌∙◌}
use mathlib.Core.List.{[]}
use Prim.Native.Nat.{ℕ}
use native.Mathlib.Omega.{arith}
use Rattle.wiring.specs.Signals.{front}
use Rattle.wiring.proofs.signals.Arrays.{writing_start, copying_next, copying_end}
use Rattle.wiring.proofs.sets.Laws.{used_length, used_at}
use Rattle.wiring.specs.Panel.{cards}
use Rattle.wiring.proofs.sets.set_of.Goals as goal

pub loop-i-init : goal.loop-i-init
loop-i-init c =
    let a = c.args in
    (omega arith, writing_start cards _ _ refl (omega (arith, used_length a.s.now a.len (omega arith))))

pub loop-i-preserved : goal.loop-i-preserved
loop-i-preserved c =
    let a = c.args in
    let i = c.loop-i.i in
    let place = c.read.ensures ∙ sym (used_at a.s.now a.len (omega arith) i [] (omega arith)) in
    (omega arith, copying_next c.loop-i.invariant.1 c.read.result [] (omega (arith, used_length a.s.now a.len (omega arith))) place)

pub returns-clause-holds : goal.returns-clause-holds
returns-clause-holds c =
    let a = c.args in
    let i : c.loop-i.i ≡ a.len = omega arith in
    ap (λ (k : ℕ). front k c.loop-i.m) (sym i) ∙ copying_end c.loop-i.invariant.1 (omega (arith, used_length a.s.now a.len (omega arith)))
