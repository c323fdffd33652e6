-- `judge` meets its contract: the set is judged at its level or below it. Assumes nothing.
use mathlib.Core.Path.{sym, ap, ◌∙◌, subst}
use mathlib.Core.Bool.{Bool, cond}
use Prim.Native.Nat.{ℕ, ◌-◌, ◌<◌}
use native.Mathlib.Omega.{arith}
use lib.ListN.{length}
use Rattle.wiring.specs.Poly.{plain}
use Rattle.wiring.specs.Derivative.{derivative}
use Rattle.wiring.specs.Quadratic.{nonsquares}
use Rattle.wiring.specs.Signals.{tabled, signals_at}
use Rattle.wiring.specs.Sockets.{can_build}
use Rattle.wiring.specs.Terms.{records, system}
use Rattle.wiring.proofs.signals.Tables.{tabled_length}
use Rattle.counting.specs.Verdict.{Weighing, Judged}
use Rattle.counting.specs.declared.verdict.Verdict.{Verdict}
use Rattle.counting.specs.declared.verdict.Verdict.TheVariants as verdict
use Rattle.walk.proofs.walk.Laws.{signals_fit}
use Rattle.walk.proofs.walk.Judging.{weighed_last, weighing, weighed_below}
use Rattle.walk.proofs.walk.judge.Goals as goal

-- a set at its level, by whether it is unmet
abbrev judged_by : Bool → Verdict
judged_by unmet = cond unmet verdict.Closed verdict.Found

pub is_unmet-requires-clause-fits : goal.is_unmet-requires-clause-fits
is_unmet-requires-clause-fits c = signals_fit c.args.f.now.panel.n c.args.set.now c.requires.openable.walked

pub returns-then-is_unmet : goal.returns-then-is_unmet
returns-then-is_unmet c =
    let a = c.args in
    weighed_last a.f.now.panel a.f.now.system.terms.now a.f.now.level a.set.now c.requires.openable verdict.Closed (sym (ap judged_by (sym c.is_unmet.ensures ∙ c.if-is_unmet.true))) (omega (arith, tabled_length a.set.now, c.if-f-len.true))

pub returns-then-f-len : goal.returns-then-f-len
returns-then-f-len c =
    let a = c.args in
    weighed_last a.f.now.panel a.f.now.system.terms.now a.f.now.level a.set.now c.requires.openable verdict.Found (sym (ap judged_by (sym c.is_unmet.ensures ∙ c.if-is_unmet.false))) (omega (arith, tabled_length a.set.now, c.if-f-len.true))

pub verdict_of-requires-clause-weighed : goal.verdict_of-requires-clause-weighed
verdict_of-requires-clause-weighed c =
    let a = c.args in
    let low : length (tabled a.set.now) < a.f.now.level = omega (arith, tabled_length a.set.now, c.if-f-len.false) in
    let asked = weighing a.f.now.panel a.f.now.system.terms.now a.f.now.level a.set.now c.requires.openable low a.f.now.system.clean a.f.now.system.cancels a.f.now.system.sums in
    subst (λ (k : ℕ). Weighing a.f.now.system.terms.now a.f.now.panel.n a.set.now a.f.now.system.cancels (a.f.now.level - k)) (tabled_length a.set.now ∙ sym c.order-len.ensures) asked

pub returns : goal.returns
returns c =
    let a = c.args in
    let low : length (tabled a.set.now) < a.f.now.level = omega (arith, tabled_length a.set.now, c.if-f-len.false) in
    let v = signals_at a.f.now.panel.n a.set.now in
    let gaps = nonsquares plain v (derivative plain (system (records a.f.now.system.terms.now))) in
    let said = c.verdict_of in
    weighed_below a.f.now.panel a.f.now.system.terms.now a.f.now.level a.set.now c.requires.openable low said.result
    (subst (λ (k : ℕ). Judged (can_build a.f.now.panel) (a.f.now.level - k) v gaps said.result) (c.order-len.ensures ∙ sym (tabled_length a.set.now)) said.ensures)
