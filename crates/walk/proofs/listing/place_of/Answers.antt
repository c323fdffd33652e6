-- `place_of` meets its contract: the loop passes the finds that stand before the set (`Placing`), and none of them is it (`Seeking`). Assumes nothing.
use mathlib.Core.Path.{sym, ap, ◌∙◌}
use mathlib.Core.Bool.{not}
use mathlib.Core.List.{[]}
use native.Mathlib.Omega.{arith}
use Rattle.monomial.proofs.Loops.{placing_found, placing_on, placing_ends, seeking_found, seeking_on, seeking_ends}
use Rattle.walk.proofs.listing.Finds.{shown_before, shown_same, shown_passed}
use Rattle.walk.proofs.listing.place_of.Goals as goal

pub returns-in-Equal-clause-sought : goal.returns-in-Equal-clause-sought
returns-in-Equal-clause-sought c =
    let k = c.loop-i in
    let own = c.requires.lies.recorded in
    λ finds s. sym (seeking_found _ [] (k.invariant finds s).0 (omega (arith, s.counted)) (sym (shown_same s _ own k.i (omega arith)) ∙ c.in-Equal.ensures))

pub returns-in-Greater-clause-sought : goal.returns-in-Greater-clause-sought
returns-in-Greater-clause-sought c =
    let k = c.loop-i in
    let own = c.requires.lies.recorded in
    λ finds s.
    let unlike = sym (shown_same s _ own k.i (omega arith)) ∙ c.in-Greater.ensures.0 in
    let behind = sym (shown_before s _ own k.i (omega arith)) ∙ c.in-Greater.ensures.1 in
    (shown_passed s _ own k.i (omega arith) (k.invariant finds s).0 unlike behind, placing_found _ [] (k.invariant finds s).1 (omega (arith, s.counted)) (ap not behind))

pub loop-i-preserved : goal.loop-i-preserved
loop-i-preserved c =
    let k = c.loop-i in
    let own = c.requires.lies.recorded in
    λ finds s.
    let unlike = sym (shown_same s _ own k.i (omega arith)) ∙ c.in-Less.ensures.0 in
    let ahead = sym (shown_before s _ own k.i (omega arith)) ∙ c.in-Less.ensures.1 in
    (seeking_on _ [] (k.invariant finds s).0 (omega (arith, s.counted)) unlike, placing_on _ [] (k.invariant finds s).1 (omega (arith, s.counted)) (ap not ahead))

pub returns-clause-sought : goal.returns-clause-sought
returns-clause-sought c = λ finds s.
    let all = placing_ends _ (c.loop-i.invariant finds s).1 (omega (arith, s.counted)) in
    (sym (seeking_ends _ (c.loop-i.invariant finds s).0 (omega (arith, s.counted))), omega (arith, all, s.counted))
