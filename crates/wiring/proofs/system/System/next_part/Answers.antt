-- `next_part` meets its contract: what is behind the pick and has a coefficient is what is asked for (`Parting`). Assumes nothing.
use mathlib.Core.Path.{◌∙◌}
use borrow.Author.Rules.{sfits_of}
use mir.Syntax.{w32}
use mir.ValLaws.{to_z-of_z}
use Rattle.wiring.proofs.coefficient.Laws.{tested_zero, tested_nonzero}
use Rattle.wiring.proofs.parts.Laws.{parting_start, parting_none, parting_here, parting_on, parting_less}
use Rattle.wiring.proofs.system.System.next_part.Goals as goal

pub loop-m-init : goal.loop-m-init
loop-m-init c = parting_start _ _ _

pub returns : goal.returns
returns c =
    record { heads = parting_none _ _ _ c.loop-m.invariant c.in_default.ensures; total_value = tt }

pub returns-then-total-ne0 : goal.returns-then-total-ne0
returns-then-total-ne0 c =
    let m = c.in-Some in
    let sum = c.total-total in
    let counts = tested_nonzero _ (sfits_of sum.type_inv) sum.ensures c.if-total-ne0.true in
    record { heads = parting_here _ _ _ c.loop-m.invariant m.m m.ensures counts; total_value = to_z-of_z w32 sum.result (sfits_of sum.type_inv) ∙ sum.ensures }

pub loop-m-smaller : goal.loop-m-smaller
loop-m-smaller c = parting_less _ _ _ c.loop-m.invariant c.in-Some.m c.in-Some.ensures

pub loop-m-preserved : goal.loop-m-preserved
loop-m-preserved c =
    let m = c.in-Some in
    let sum = c.total-total in
    let zero = tested_zero _ (sfits_of sum.type_inv) sum.ensures c.if-total-ne0.false in
    parting_on _ _ _ c.loop-m.invariant m.m m.ensures zero
