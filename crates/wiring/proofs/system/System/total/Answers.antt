-- `System::total` meets its contract: the loop adds the records up in 32 bits (`Adding`). Assumes nothing.
use mathlib.Core.Path.{sym, ◌∙◌}
use native.Mathlib.Omega.{arith}
use Rattle.monomial.proofs.product.Laws.{at_most_weaken}
use Rattle.wiring.proofs.derivative.Bounds.{adding_start, adding_ends, adding_flat, adding_miss, adding_hit, product_fits, sum_of_fits}
use borrow.Author.Rules.{rules}
use Rattle.monomial.proofs.order.Derived.{same_from_eq}
use Rattle.wiring.proofs.system.System.total.Goals as goal
use Rattle.wiring.proofs.system.System.total.Goals.{then-k-gt0+then-eq, else-k-gt0, else-k-gt0-via-then-k-gt0+else-eq, else-k-gt0-via-else-k-gt0}

pub loop-t-init : goal.loop-t-init
loop-t-init c = adding_start _ _ _ c.args.self.clean (search rules) c.requires

pub image-requires-clause-small : goal.image-requires-clause-small
image-requires-clause-small c = at_most_weaken c.args.z.e (omega arith) c.requires

pub overflow_mul-sum : goal.overflow_mul-sum
overflow_mul-sum c =
    rw c.from.ensures (product_fits c.loop-t.invariant (rw c.count-t-end.ensures at c.loop-t-test.true) _ _ c.power-k.ensures c.coefficient.ensures)

pub overflow_add-sum : goal.overflow_add-sum
overflow_add-sum c =
    let hit = sym (same_from_eq _ _ _ c.eq.ensures) ∙ c.if-eq.true in
    rw c.from.ensures (sum_of_fits c.loop-t.invariant (rw c.count-t-end.ensures at c.loop-t-test.true) _ _ c.power-k.ensures c.coefficient.ensures _ c.image.ensures hit)

pub loop-t-preserved : goal.loop-t-preserved
loop-t-preserved c =
    let inv = c.loop-t.invariant in
    let more = rw c.count-t-end.ensures at c.loop-t-test.true in
    elim c.if-k-gt0.branch [
      | then-k-gt0+then-eq w ↦ rw (w.sum-is, w.from.ensures) (adding_hit inv more _ _ c.power-k.ensures w.coefficient.ensures _ w.image.ensures (sym (same_from_eq _ _ _ w.eq.ensures) ∙ w.if-eq.true))
      | else-k-gt0 w ↦ rw w.sum-is (elim w.else-k-gt0.branch [
        | else-k-gt0-via-then-k-gt0+else-eq x ↦ adding_miss inv more _ x.image.ensures (sym (same_from_eq _ _ _ x.eq.ensures) ∙ x.if-eq.false)
        | else-k-gt0-via-else-k-gt0 x ↦ adding_flat inv more (omega (arith, c.power-k.ensures, x.if-k-gt0.false))
      ])
    ]

pub returns : goal.returns
returns c = adding_ends c.loop-t.invariant (rw c.count-t-end.ensures at c.loop-t-test.false)
