-- `with_two` meets its contract: refused where two more are too many or one of them may not be, or made one after the other. Assumes nothing.
use mathlib.Core.Path.{sym, ◌∙◌}
use Rattle.walk.proofs.children.Offers.{copied, two_refused, first_barred, second_barred, two_made}
use Rattle.wiring.specs.Sockets.{can_build}
use Rattle.walk.proofs.children.with_two.Goals as goal
use Rattle.walk.proofs.children.with_two.Goals.{then-level-len-via-then-level-len, then-level-len-via-else-level-len+then-not-can_build, then-level-len-via-else-level-len+else-not-can_build+then-not-can_build-2}

pub returns-then-level-len : goal.returns-then-level-len
returns-then-level-len c =
    let a = c.args in
    λ lacks lacks_first. elim c.then-level-len.branch [
      | then-level-len-via-then-level-len w ↦ two_refused a.set.now (can_build a.panel) a.level _ _ lacks lacks_first w.if-level-len.true
      | then-level-len-via-else-level-len+then-not-can_build w ↦
          first_barred a.set.now (can_build a.panel) a.level _ _ lacks lacks_first (sym w.can_build.ensures ∙ w.if-not-can_build.true)
      | then-level-len-via-else-level-len+else-not-can_build+then-not-can_build-2 w ↦
          second_barred a.set.now (can_build a.panel) a.level _ _ lacks lacks_first (sym w.can_build-else-not-can_build.ensures ∙ w.if-not-can_build-2.true)
    ]

pub returns : goal.returns
returns c =
    let a = c.args in
    let may_first = sym c.can_build.ensures ∙ c.if-not-can_build.false in
    let may_second = sym c.can_build-else-not-can_build.ensures ∙ c.if-not-can_build-2.false in
    let held = copied a.set.now c.requires.whole _ _ c.put.ensures in
    λ lacks lacks_first.
    two_made a.set.now (can_build a.panel) a.level _ _ lacks lacks_first c.if-level-len.false may_first may_second
    _ _ _ held c.put_in.ensures c.put_in-2.ensures c.requires.ascending
