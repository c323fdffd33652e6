-- `is_among` meets its contract: the loop looks through the monomials of the list (`Seeking`). Assumes nothing.
use mathlib.Core.Path.{sym, ap, ◌∙◌}
use native.Mathlib.Omega.{arith}
use Rattle.monomial.specs.Order.{same}
use Rattle.wiring.proofs.signals.Tables.{tabled_found, tabled_on, tabled_ends}
use Rattle.monomial.proofs.order.Derived.{same_from_eq}
use Rattle.wiring.proofs.signals.is_among.Goals as goal

pub returns-then-eq : goal.returns-then-eq
returns-then-eq c =
    let a = c.args in
    let here = ap (same a.m.e) (sym c.read.ensures) ∙ sym (same_from_eq _ _ _ c.eq.ensures) ∙ c.if-eq.true in
    tabled_found (same a.m.e) a.list.now c.loop-i.invariant (omega arith) here

pub loop-i-preserved : goal.loop-i-preserved
loop-i-preserved c =
    let a = c.args in
    let not_here = ap (same a.m.e) (sym c.read.ensures) ∙ sym (same_from_eq _ _ _ c.eq.ensures) ∙ c.if-eq.false in
    tabled_on (same a.m.e) a.list.now c.loop-i.invariant (omega arith) not_here

pub returns : goal.returns
returns c = tabled_ends (same c.args.m.e) c.args.list.now c.loop-i.invariant (omega arith)
