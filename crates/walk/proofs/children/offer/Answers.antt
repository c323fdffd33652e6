-- `offer` meets its contract: what is to be added is told by what V holds of the pair, and the child is the set with just that. Assumes nothing.
use mathlib.Core.Path.{sym, ◌∙◌}
use Prim.Native.Nat.{◌/◌}
use lib.ListN.{length}
use Rattle.std.specs.Prelude.{Some}
use Rattle.monomial.specs.Monomial.{width}
use Rattle.wiring.specs.Signals.{tabled}
use Rattle.walk.specs.Walk.{kit_rules}
use Rattle.walk.proofs.children.Offers.{same_child, made_own, opens_none, opens_second, opens_first, opens_both}
use Rattle.walk.proofs.children.Offers.{child_none, child_second, child_first, child_both, set_lacks, first_lacks, both_lack}
use Rattle.walk.proofs.children.offer.Goals as goal
use Rattle.walk.proofs.children.offer.Goals.{in-true-false, in-false-true}

pub returns-in-true-true : goal.returns-in-true-true
returns-in-true-true c =
    let a = c.args in
    let s = tabled a.set.now in
    let has = sym c.requires.holds.second ∙ c.in-true-true.is-1 in
    let met = sym c.requires.holds.first ∙ c.in-true-true.is-0 in
    let up = c.requires.growing.ascending in
    same_child (Some (length a.set.now / width)) c.put.new.out (opens_none a.panel.n s a.a.e a.b.e (kit_rules a.panel) a.level up c.requires.growing.within has met)
    (child_none a.panel.n s a.a.e a.b.e up has met) (made_own a.set.now c.requires.growing.whole _ _ c.put.ensures)

pub returns-in-false-false : goal.returns-in-false-false
returns-in-false-false c =
    let a = c.args in
    let s = tabled a.set.now in
    let lacks = sym c.requires.holds.second ∙ c.in-false-false.is-1 in
    let unmet = sym c.requires.holds.first ∙ c.in-false-false.is-0 in
    same_child c.with_two.result c.with_two.new.next (opens_both a.panel.n s a.a.e a.b.e (kit_rules a.panel) a.level lacks unmet)
    (child_both a.panel.n s a.a.e a.b.e lacks unmet)
    (c.with_two.ensures (set_lacks a.panel.n s a.a.e a.b.e a.b.e lacks) (both_lack a.panel.n s a.a.e a.b.e unmet))

pub returns : goal.returns
returns c =
    let a = c.args in
    let s = tabled a.set.now in
    let up = c.requires.growing.ascending in
    elim c.if-held.branch [
      | in-true-false w ↦
          let lacks = sym c.requires.holds.second ∙ w.in-true-false.is-1 in
          let met = sym c.requires.holds.first ∙ w.in-true-false.is-0 in
          let told = rw w.m-is at c.with_one.ensures in
          same_child c.with_one.result c.with_one.new.next (opens_second a.panel.n s a.a.e a.b.e (kit_rules a.panel) a.level up lacks met)
          (child_second a.panel.n s a.a.e a.b.e up lacks met)
          (told (set_lacks a.panel.n s a.a.e a.b.e a.b.e lacks))
      | in-false-true w ↦
          let has = sym c.requires.holds.second ∙ w.in-false-true.is-1 in
          let unmet = sym c.requires.holds.first ∙ w.in-false-true.is-0 in
          let told = rw w.m-is at c.with_one.ensures in
          same_child c.with_one.result c.with_one.new.next (opens_first a.panel.n s a.a.e a.b.e (kit_rules a.panel) a.level has unmet)
          (child_first a.panel.n s a.a.e a.b.e has unmet)
          (told (first_lacks a.panel.n s a.a.e a.b.e unmet))
    ]
