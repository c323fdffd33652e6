-- `is_unmet` meets its contract: the loop looks through the signals from the last one for one with a nonsquare (`SeekingDown`). Assumes nothing.
use mathlib.Core.Path.{◌≡◌, sym, ap, ◌∙◌, subst}
use Prim.Native.Nat.{◌-◌}
use native.Mathlib.Omega.{arith}
use Rattle.monomial.specs.Monomial.{one, width}
use Rattle.monomial.proofs.Loops.{SeekingDown, down_found, down_on, down_ends}
use Rattle.monomial.proofs.order.Laws.{mono_order}
use Rattle.wiring.specs.Panel.{set_exponent}
use Rattle.wiring.specs.Poly.{plain}
use Rattle.wiring.specs.Derivative.{derivative}
use Rattle.wiring.specs.Signals.{signals_at}
use Rattle.wiring.specs.Terms.{records, system}
use Rattle.wiring.proofs.signals.Laws.{fitting_at}
use Rattle.wiring.proofs.quadratic.Laws.{some_nonsquares}
use Rattle.wiring.proofs.system.System.is_unmet.Invariants.{bad}
use Rattle.wiring.proofs.system.System.is_unmet.Goals as goal

pub has_nonsquare-requires : goal.has_nonsquare-requires
has_nonsquare-requires c =
    let v = signals_at c.args.v.n c.args.v.set.now in
    let j = c.loop-j.j in
    let fits = fitting_at set_exponent v (j - 1) (one width) c.requires.fits (omega (arith, c.loop-j.invariant.within)) in
    rw c.signal.ensures fits

pub returns-then-has_nonsquare : goal.returns-then-has_nonsquare
returns-then-has_nonsquare c =
    let a = c.args in
    let v = signals_at a.v.n a.v.set.now in
    let f = bad a.self.terms.now v in
    let k = c.loop-j in
    let here = ap f (sym c.signal.ensures) ∙ sym c.has_nonsquare.ensures ∙ c.if-has_nonsquare.true in
    down_found f (one width) k.invariant (k.j - 1) (omega arith) here ∙ sym (some_nonsquares plain mono_order v (derivative plain (system (records a.self.terms.now))))

pub loop-j-preserved : goal.loop-j-preserved
loop-j-preserved c =
    let a = c.args in
    let f = bad a.self.terms.now (signals_at a.v.n a.v.set.now) in
    let k = c.loop-j in
    let not_here = ap f (sym c.signal.ensures) ∙ sym c.has_nonsquare.ensures ∙ c.if-has_nonsquare.false in
    down_on f (one width) k.invariant (k.j - 1) (omega arith) not_here

pub returns : goal.returns
returns c =
    let a = c.args in
    let v = signals_at a.v.n a.v.set.now in
    let k = c.loop-j in
    let last : k.j ≡ 0 = omega arith in
    down_ends (bad a.self.terms.now v) (subst (SeekingDown (bad a.self.terms.now v) v) last k.invariant)
    ∙ sym (some_nonsquares plain mono_order v (derivative plain (system (records a.self.terms.now))))
