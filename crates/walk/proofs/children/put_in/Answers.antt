-- `put_in` meets its contract: the loop moves up by one place what does not stand before m (`Inserting`). Assumes nothing.
use mathlib.Core.Path.{◌≡◌, sym, ap, ◌∙◌, subst}
use mathlib.Core.List.{List}
use Prim.Native.Nat.{ℕ, ◌+◌, ◌*◌, ◌-◌}
use native.Mathlib.Omega.{arith}
use lib.ListN.{length}
use lib.Seq.{paste}
use Rattle.monomial.specs.Monomial.{width}
use Rattle.wiring.specs.Signals.{listed}
use Rattle.walk.proofs.children.Offers.{Inserting, inserting_start, inserting_on, inserting_first, inserting_behind}
use borrow.Author.Rules.{rules}
use Rattle.monomial.proofs.order.Derived.{before_from_lt}
use Rattle.walk.proofs.children.put_in.Goals as goal

pub loop-i-init : goal.loop-i-init
loop-i-init c = inserting_start _ _ _ c.requires

pub loop-i-preserved : goal.loop-i-preserved
loop-i-preserved c =
    let a = c.args in
    let k = c.loop-i in
    let up : k.i ≡ k.i - 1 + 1 = omega arith in
    let not_before = sym (before_from_lt _ _ _ c.lt.ensures) ∙ c.if-lt.false in
    let next = inserting_on k.invariant c.read-x.result.e (omega arith) c.read-x.ensures not_before in
    let written = c.write-in-loop-i.ensures ∙ ap (λ (i : ℕ). paste k.s (width * i) c.read-x.result.e width) (sym up) in
    subst (λ (b : List ℕ). Inserting a.m.e a.len a.s.now b (k.i - 1)) (sym written) next

pub returns-then-lt : goal.returns-then-lt
returns-then-lt c =
    let a = c.args in
    let k = c.loop-i in
    let up : k.i ≡ k.i - 1 + 1 = omega arith in
    let wide : length a.m.e ≡ width = search (rules, c.well_formed.1.1.0) in
    λ ascends lacks.
    ap (λ (b : List ℕ). listed (a.len + 1) b) (c.write.ensures ∙ ap (λ (i : ℕ). paste k.s (width * i) a.m.e width) (sym up))
    ∙ inserting_behind k.invariant wide ascends lacks _ (omega arith) c.read-x.ensures (sym (before_from_lt _ _ _ c.lt.ensures) ∙ c.if-lt.true)

pub returns : goal.returns
returns c =
    let a = c.args in
    let k = c.loop-i in
    let none : k.i ≡ 0 = omega arith in
    let wide : length a.m.e ≡ width = search (rules, c.well_formed.1.1.0) in
    λ ascends lacks.
    ap (λ (b : List ℕ). listed (a.len + 1) b) (c.write-2.ensures ∙ ap (λ (i : ℕ). paste k.s (width * i) a.m.e width) (sym none))
    ∙ inserting_first k.invariant wide ascends lacks none
