-- `put_factors` meets its contract: the loop puts power after power, each behind its lead (`Powering`). Assumes nothing.
use Rattle.std.proofs.Common.{◌≡◌, ◌<◌, length, arith, rules}
use Rattle.monomial.specs.Monomial.{width}
use Rattle.typed.proofs.typed.Laws.{powering_start, powering_skip, powering_next, powering_end}
use Rattle.typed.proofs.typed.put_factors.Goals as goal
use Rattle.typed.proofs.typed.put_factors.Goals.{then-e-ne0, else-e-ne0}

pub loop-i-init : goal.loop-i-init
loop-i-init c = powering_start c.args.m.e c.args.line.now

pub loop-i-preserved : goal.loop-i-preserved
loop-i-preserved c =
    let p = c.loop-i.invariant in
    let long : length c.args.m.e ≡ width = search rules in
    let inside : c.loop-i.i < length c.args.m.e = omega arith in
    elim c.if-e-ne0.branch [
      | then-e-ne0 w ↦
          let lead = w.put_lead.ensures in
          let put = w.put_factor.ensures in
          rw (w.line-is, w.some-is) (powering_next p inside w.if-e-ne0.true lead.text put.text (omega (arith, lead.room, put.short)))
      | else-e-ne0 w ↦ rw (w.line-is, w.some-is) (powering_skip p inside w.if-e-ne0.false)
    ]

pub returns-clause-text : goal.returns-clause-text
returns-clause-text c =
    let long : length c.args.m.e ≡ width = search rules in
    powering_end c.loop-i.invariant (omega arith)
