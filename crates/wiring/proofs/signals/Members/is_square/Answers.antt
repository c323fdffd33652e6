-- `is_square` meets its contract: m is low, or a new factor leaves it a member of V (`square_low`, `square_else`); the loop goes through the new ones from the last
-- down (`SeekingDown`). Assumes nothing.
use mathlib.Core.Path.{◌≡◌, sym, ap, subst, ◌∙◌}
use mathlib.Core.Bool.{true, false}
use Prim.Native.Nat.{ℕ, ◌-◌}
use native.Mathlib.Omega.{arith}
use Rattle.monomial.specs.Lists.{any}
use Rattle.monomial.proofs.Loops.{SeekingDown, down_start, down_ends}
use Rattle.wiring.specs.Signals.{tabled}
use Rattle.wiring.proofs.signals.Tables.{tabled_length, tabled_wide, tabled_last, tabled_down}
use Rattle.wiring.proofs.signals.Division.{leaves, leaves_says, leaves_not, square_low, square_else}
use borrow.Author.Rules.{rules}
use Rattle.wiring.proofs.signals.Members.is_square.Goals as goal
use Rattle.wiring.proofs.signals.Members.is_square.Goals.{else-divides-via-then-divides+else-is_signal, else-divides-via-else-divides}

pub returns-then-is_low : goal.returns-then-is_low
returns-then-is_low c =
    let a = c.args in
    let is_low = sym c.is_low.ensures ∙ c.if-is_low.true in
    square_low a.self.n (tabled a.self.set.now) a.m.e (tabled_wide a.self.set.now) (search rules) is_low

pub loop-i-init : goal.loop-i-init
loop-i-init c = down_start _ _ _ (c.order-i.ensures ∙ sym (tabled_length c.args.self.set.now))

pub returns-then-is_signal : goal.returns-then-is_signal
returns-then-is_signal c =
    let k = c.loop-i in
    let a = c.args in
    let s = tabled a.self.set.now in
    let f = leaves a.self.n s a.m.e in
    let not_low = sym c.is_low.ensures ∙ c.if-is_low.false in
    let divided = sym c.divides.ensures ∙ c.if-divides.true in
    let here = ap f (sym c.read-z.ensures) ∙ leaves_says a.self.n s a.m.e _ _ _ divided c.over.ensures c.is_signal.ensures ∙ c.if-is_signal.true in
    let found : true ≡ any f s = tabled_last f a.self.set.now k.invariant (k.i - 1) (omega arith) here in
    found ∙ square_else a.self.n s a.m.e (tabled_wide a.self.set.now) (search rules) not_low

pub loop-i-preserved : goal.loop-i-preserved
loop-i-preserved c =
    let k = c.loop-i in
    let a = c.args in
    let s = tabled a.self.set.now in
    let f = leaves a.self.n s a.m.e in
    let divided = c.divides.ensures in
    let not_here : f c.read-z.result.e ≡ false =
    elim c.else-divides.branch [
      | else-divides-via-then-divides+else-is_signal w ↦ leaves_says a.self.n s a.m.e _ _ _ (sym divided ∙ w.if-divides.true) w.over.ensures w.is_signal.ensures ∙ w.if-is_signal.false
      | else-divides-via-else-divides w ↦ leaves_not a.self.n s a.m.e _ (sym divided ∙ w.if-divides.false)
    ] in
    tabled_down f a.self.set.now k.invariant (k.i - 1) (omega arith) (ap f (sym c.read-z.ensures) ∙ not_here)

pub returns : goal.returns
returns c =
    let a = c.args in
    let s = tabled a.self.set.now in
    let f = leaves a.self.n s a.m.e in
    let not_low = sym c.is_low.ensures ∙ c.if-is_low.false in
    let none : c.loop-i.i ≡ 0 = omega arith in
    let all_fail : false ≡ any f s = down_ends f (subst (λ (i : ℕ). SeekingDown f s i) none c.loop-i.invariant) in
    all_fail ∙ square_else a.self.n s a.m.e (tabled_wide a.self.set.now) (search rules) not_low
