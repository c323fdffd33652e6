-- `with_one` meets its contract: refused where the set is as long as the level or m may not be, or made. Assumes nothing.
use mathlib.Core.Path.{sym, ◌∙◌}
use Rattle.walk.proofs.children.Offers.{copied, one_refused, one_barred, one_made}
use Rattle.wiring.specs.Sockets.{can_build}
use Rattle.walk.proofs.children.with_one.Goals as goal
use Rattle.walk.proofs.children.with_one.Goals.{then-level-len-via-then-level-len, then-level-len-via-else-level-len+then-not-can_build}

pub returns-then-level-len : goal.returns-then-level-len
returns-then-level-len c =
    let a = c.args in
    λ lacks. elim c.then-level-len.branch [
      | then-level-len-via-then-level-len w ↦ one_refused a.set.now (can_build a.panel) a.level _ w.if-level-len.true lacks
      | then-level-len-via-else-level-len+then-not-can_build w ↦ one_barred a.set.now (can_build a.panel) a.level _ (sym w.can_build.ensures ∙ w.if-not-can_build.true)
    ]

pub returns : goal.returns
returns c =
    let a = c.args in
    let may = sym c.can_build.ensures ∙ c.if-not-can_build.false in
    let held = copied a.set.now c.requires.whole _ _ c.put.ensures in
    λ lacks. one_made a.set.now (can_build a.panel) a.level _ c.if-level-len.false may _ _ held c.put_in.ensures c.requires.ascending lacks
