-- `nonsquare_of` meets its contract: the tests of the code are those of `offers`, in its order. Assumes nothing.
use mathlib.Core.Path.{◌≡◌, sym, ap, ◌∙◌}
use mathlib.Core.Bool.{not, false}
use Rattle.wiring.specs.Signals.{signals_at}
use native.Mathlib.Omega.{arith}
use lib.ListN.{length}
use borrow.Author.Rules.{rules, sfits_of}
use Rattle.monomial.proofs.product.Laws.{at_most_weaken}
use Rattle.monomial.specs.Monomial.{Mono, width}
use Rattle.wiring.specs.Coefficient.{is_zero}
use Rattle.wiring.specs.Poly.{plain, coeff}
use Rattle.wiring.specs.Derivative.{derivative}
use Rattle.wiring.specs.Terms.{record_at, records, system}
use Rattle.wiring.proofs.coefficient.Laws.{tested_zero, tested_nonzero}
use Rattle.wiring.proofs.quadratic.Records.{outside, offered_low, offered_fails, offered_zero, offered_here}
use Rattle.wiring.proofs.system.System.nonsquare_of.Goals as goal
use Rattle.wiring.proofs.system.System.nonsquare_of.Goals.{else-self-via-then-self+else-total-eq0, else-self-via-else-self}

pub returns-then-power-lt1 : goal.returns-then-power-lt1
returns-then-power-lt1 c =
    let a = c.args in
    let l = a.self.terms.now in
    offered_low (outside (signals_at a.v.n a.v.set.now)) (system (records l)) a.z.e (record_at l a.t) c.power.result
    c.power.ensures c.if-power-lt1.true

pub image-m-requires-clause-small : goal.image-m-requires-clause-small
image-m-requires-clause-small c = at_most_weaken c.args.z.e (omega arith) c.requires.small

pub returns-then-is_square : goal.returns-then-is_square
returns-then-is_square c =
    let a = c.args in
    let l = a.self.terms.now in
    let x = c.power in
    let m = c.image-m in
    offered_fails (outside (signals_at a.v.n a.v.set.now)) (system (records l)) a.z.e (record_at l a.t) x.result m.result
    x.ensures c.if-power-lt1.false m.ensures (ap not (sym c.is_square.ensures ∙ c.if-is_square.true))

pub returns-then-total-eq0 : goal.returns-then-total-eq0
returns-then-total-eq0 c =
    let a = c.args in
    let l = a.self.terms.now in
    let x = c.power in
    let m = c.image-m in
    offered_zero (outside (signals_at a.v.n a.v.set.now)) (system (records l)) a.z.e (record_at l a.t) x.result m.result
    x.ensures c.if-power-lt1.false m.ensures
    (ap not (sym c.is_square.ensures ∙ c.if-is_square.false)) (tested_zero _ (sfits_of c.total.type_inv) c.total.ensures c.if-total-eq0.true)

-- the total is summed and is not 0; or no total is 0, so none is summed
pub returns : goal.returns
returns c =
    let long : length c.args.z.e ≡ width = search rules in
    let a = c.args in
    let l = a.self.terms.now in
    let x = c.power in
    let m = c.image-m in
    let kept = elim c.else-self.branch as (λ _. is_zero (coeff plain (derivative plain (system (records l)) a.z.e) m.result.e) ≡ false) [
      | else-self-via-then-self+else-total-eq0 w ↦
          tested_nonzero _ (sfits_of w.total.type_inv) w.total.ensures w.if-total-eq0.false
      | else-self-via-else-self w ↦
          ap (λ (y : Mono). is_zero (coeff plain (derivative plain (system (records l)) a.z.e) y)) m.ensures
          ∙ a.self.sums w.if-self.false a.z.e a.t long c.requires.inside (omega (arith, x.ensures, c.if-power-lt1.false))
    ] in
    offered_here (outside (signals_at a.v.n a.v.set.now)) (system (records l)) a.z.e (record_at l a.t) x.result m.result
    x.ensures c.if-power-lt1.false m.ensures (ap not (sym c.is_square.ensures ∙ c.if-is_square.false)) kept
