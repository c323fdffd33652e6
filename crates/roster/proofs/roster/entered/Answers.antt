-- `entered` meets its contract: the loop goes along the set with one monomial in hand (`Handing`). Assumes nothing.
use mathlib.Core.Path.{◌≡◌, refl, sym, ap, ◌∙◌}
use mathlib.Core.List.{[]}
use Prim.Native.Nat.{ℕ, ◌+◌, ◌<◌, ◌≤◌}
use native.Mathlib.Omega.{arith}
use lib.ListN.{length, get_or, set, length-set}
use Rattle.monomial.specs.Lists.{insert_by}
use Rattle.monomial.specs.Order.{same, before}
use Rattle.monomial.specs.Claims.{◌∈◌}
use Rattle.monomial.proofs.Tests.{is→n_t}
use Rattle.monomial.proofs.order.Laws.{mono_order}
use Rattle.monomial.proofs.order.Ascending.{among_in}
use Rattle.wiring.specs.Panel.{cards}
use Rattle.wiring.specs.Signals.{front}
use Rattle.wiring.specs.Sets.{monomials_of}
use Rattle.wiring.proofs.signals.Arrays.{array_length, front_length, front_at}
use Rattle.roster.proofs.roster.Placing.{handing_start, handing_by, handing_down, handing_end}
use borrow.Author.Rules.{rules}
use Rattle.monomial.proofs.order.Derived.{before_from_lt}
use Rattle.roster.proofs.roster.entered.Goals as goal
use Rattle.roster.proofs.roster.entered.Goals.{then-lt, else-lt}

pub loop-i-init : goal.loop-i-init
loop-i-init c =
    let s = c.args.set in
    let e = c.requires in
    let six : length s.m ≡ cards = search (rules, array_length) in
    let room : length (monomials_of s) < cards = omega (arith, e.room, front_length s.len s.m (omega (arith, e.room))) in
    let new : c.args.m.e ∈ monomials_of s → ⊥ = λ k. is→n_t _ e.new (among_in mono_order k) in
    (omega arith, refl, refl, handing_start (monomials_of s) c.args.m _ refl room e.ascends new)

pub loop-i-preserved : goal.loop-i-preserved
loop-i-preserved c =
    let s = c.args.set in
    let k = c.loop-i in
    let six : length s.m ≡ cards = search (rules, array_length) in
    let few : s.len ≤ length s.m = omega (arith, c.requires.room) in
    let below : k.i < length (monomials_of s) = omega (arith, front_length s.len s.m few) in
    let x = get_or s.m k.i (record { e = [] }) in
    let is : x.e ≡ get_or (monomials_of s) k.i [] = sym (front_at s.len s.m k.i [] (omega arith) few) in
    let t = insert_by same before c.args.m.e (monomials_of s) in
    let here : before k.hand.e x.e ≡ c.lt.result = sym (before_from_lt _ _ _ c.lt.ensures) in
    elim c.if-lt.branch [
      | then-lt w ↦ rw (w.next-is, w.hand-is)
          (omega arith, refl, length-set k.next k.i k.hand ∙ k.invariant.2, handing_down k.invariant.3 x below is (here ∙ w.if-lt.true))
      | else-lt w ↦ rw (w.next-is, w.hand-is)
          (omega arith, refl, length-set k.next k.i x ∙ k.invariant.2, handing_by k.invariant.3 x below is (here ∙ w.if-lt.false))
    ]

pub returns : goal.returns
returns c =
    let s = c.args.set in
    let k = c.loop-i in
    let six : length s.m ≡ cards = search (rules, array_length) in
    let few : s.len ≤ length s.m = omega (arith, c.requires.room) in
    let at : k.i ≡ s.len = omega arith in
    let all = handing_end k.invariant.3 (omega (arith, front_length s.len s.m few)) in
    record { holds = ap (λ (n : ℕ). front (n + 1) (set k.next n k.hand)) (sym at) ∙ all; size = refl; wide = search rules }
