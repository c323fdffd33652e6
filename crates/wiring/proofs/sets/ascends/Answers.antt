-- `ascends` meets its contract: the chain compares neighbours. Assumes nothing.
use mathlib.Core.Path.{◌≡◌, refl, sym, ap, ap₂, ◌∙◌}
use mathlib.Core.List.{[]}
use Prim.Native.Nat.{suc, ◌+◌, ◌-◌}
use native.Mathlib.Omega.{arith}
use borrow.Author.Rules.{rules}
use borrow.Author.Tests.{tests}
use lib.ListN.{take}
use Rattle.std.proofs.lemmas.Iterator.{YieldsList-from_range}
use Rattle.std.proofs.lemmas.Iterator.Search.{all_from_yields_List}
use Rattle.monomial.specs.Order.{before}
use Rattle.monomial.proofs.order.Derived.{before_from_lt}
use Rattle.wiring.specs.Sets.{places}
use Rattle.wiring.proofs.sets.Laws.{place_at, used_length, used_at, neighbours_ascend}
use Rattle.wiring.proofs.sets.ascends.Goals as goal

pub returns : goal.returns
returns c =
    let len = c.args.len in
    let s = c.args.s.now in
    let few = c.requires in
    let long = used_length s len few in
    all_from_yields_List (λ i. before (place_at s (i - 1)) (place_at s i)) _ _ _ c.all.ensures.ran (YieldsList-from_range 1 len (len - 1) refl refl) (λ i b q k. (search rules, before_from_lt _ _ _ (search (rules, tests))))
    ∙ neighbours_ascend _ 1 (take len (places s)) (len - 1) (omega arith) (λ i h.
    let back : 1 + i - 1 ≡ i = omega arith in
    let on : 1 + i ≡ suc i = omega arith in
    let here = ap (place_at s) back ∙ sym (used_at s len few i [] (omega arith)) in
    let next = ap (place_at s) on ∙ sym (used_at s len few (suc i) [] (omega arith)) in
    ap₂ before here next)
