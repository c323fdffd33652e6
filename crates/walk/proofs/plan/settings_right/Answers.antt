-- `settings_right` meets its contract: the tests are the definition's. Assumes nothing.
use mathlib.Core.Path.{sym, ◌∙◌}
use mathlib.Core.Logic.{⊎_elim}
use Prim.Native.Nat.{◌<◌}
use native.Mathlib.Omega.{arith}
use borrow.Author.Tests.{le-leb, lt-leb}
use Rattle.wiring.specs.Panel.{cards}
use Rattle.walk.specs.Plan.{settings_right}
use Rattle.walk.proofs.plan.settings_right.Goals as goal
use Rattle.walk.proofs.plan.settings_right.Goals.{then-panel_right, else-panel_right, then-cap, else-cap}

pub returns-then-limit-ge1 : goal.returns-then-limit-ge1
unfolding settings_right
returns-then-limit-ge1 c =
    let a = c.args in
    let t = c.if-limit-ge1.true in
    rw (sym c.panel_right.ensures ∙ t.0, le-leb a.cap cards t.1, le-leb 1 a.limit t.2)

pub returns-else-limit-ge1 : goal.returns-else-limit-ge1
unfolding settings_right
returns-else-limit-ge1 c =
    let a = c.args in
    elim c.if-panel_right.branch [
      | then-panel_right w ↦ elim c.if-cap.branch [
        | then-cap v ↦
            let right = v.if-cap.true in
            let low : a.limit < 1 = ⊎_elim (λ h. h.2) (⊎_elim (λ h. omega (arith, h.1, right.1)) (λ h. let z : ⊥ = cc in absurd z)) c.if-limit-ge1.either in
            v.t-7-is ∙ rw (sym c.panel_right.ensures ∙ right.0, le-leb a.cap cards right.1, lt-leb 1 a.limit low)
        | else-cap v ↦
            let right = w.if-panel_right.true in
            let high : cards < a.cap = ⊎_elim (λ h. h.1) (λ h. let z : ⊥ = cc in absurd z) v.if-cap.either in
            v.t-7-is ∙ w.t-8-is ∙ rw (sym c.panel_right.ensures ∙ right, lt-leb a.cap cards high)
      ]
      | else-panel_right w ↦ elim c.if-cap.branch [
        | then-cap v ↦
            let right = v.if-cap.true.0 in
            let wrong = w.if-panel_right.false in
            let z : ⊥ = cc in
            absurd z
        | else-cap v ↦
            let wrong = w.if-panel_right.false in
            v.t-7-is ∙ w.t-8-is ∙ rw (sym c.panel_right.ensures ∙ wrong, wrong)
      ]
    ]
