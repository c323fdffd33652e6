-- `System::crosses` meets its contract: records of one equation do not cross, and of two the products decide. Assumes nothing.
use mathlib.Core.Path.{sym, ap₂, subst, ◌∙◌}
use native.Mathlib.Omega.{arith}
use Rattle.monomial.specs.Order.{same}
use Rattle.monomial.specs.Product.{FitsBytes}
use Rattle.wiring.specs.Terms.{record_at}
use Rattle.wiring.proofs.terms.Laws.{clean_at}
use Rattle.wiring.proofs.derivative.Cancelling.{crosses_alone, crosses_says, crossing_made, crossing_fits}
use Rattle.monomial.proofs.order.Derived.{same_from_eq}
use Rattle.wiring.proofs.system.System.crosses.Goals as goal

pub returns-then-a-b : goal.returns-then-a-b
returns-then-a-b c =
    let l = c.args.self.terms.now in
    sym (crosses_alone (record_at l c.args.t) (record_at l c.args.u) (sym c.equation-a.ensures.value ∙ c.if-a-b.true ∙ c.equation-b.ensures.value))

pub times-x-requires : goal.times-x-requires
times-x-requires c =
    let l = c.args.self.terms.now in
    let r = record_at l c.args.t in
    let q = record_at l c.args.u in
    let made = crossing_made r _ _ _ q.equation c.monomial.ensures c.constant.ensures c.equation-b.ensures.value in
    let fits = crossing_fits r q.equation (clean_at l c.args.self.clean c.args.t (omega arith)) (clean_at l c.args.self.clean c.args.u (omega arith)).high in
    subst FitsBytes (sym made) fits

pub times-y-requires : goal.times-y-requires
times-y-requires c =
    let l = c.args.self.terms.now in
    let r = record_at l c.args.t in
    let q = record_at l c.args.u in
    let made = crossing_made q _ _ _ r.equation c.monomial-2.ensures c.constant-2.ensures c.equation-a.ensures.value in
    let fits = crossing_fits q r.equation (clean_at l c.args.self.clean c.args.u (omega arith)) (clean_at l c.args.self.clean c.args.t (omega arith)).high in
    subst FitsBytes (sym made) fits

pub returns : goal.returns
returns c =
    let l = c.args.self.terms.now in
    let r = record_at l c.args.t in
    let q = record_at l c.args.u in
    let first = c.times-x.ensures ∙ crossing_made r _ _ _ q.equation c.monomial.ensures c.constant.ensures c.equation-b.ensures.value in
    let second = c.times-y.ensures ∙ crossing_made q _ _ _ r.equation c.monomial-2.ensures c.constant-2.ensures c.equation-a.ensures.value in
    (same_from_eq _ _ _ c.eq.ensures) ∙ ap₂ same first second ∙ sym (crosses_says r q (λ e. c.if-a-b.false (c.equation-a.ensures.value ∙ e ∙ sym c.equation-b.ensures.value)))
