-- `<` of monomials meets its contract: what the places from i on answer, the monomials answer. Assumes nothing.
use Rattle.std.proofs.Common.{◌≡◌, ◌∙◌, sym, arith, rules, length}
use Rattle.monomial.specs.Monomial.{width}
use Rattle.monomial.proofs.order.Derived.{compared_on, compared_differs, compared_ends}
use Rattle.monomial.proofs.order.MonomialPartialOrd.partial_cmp.Goals as goal

pub returns-then-self-i : goal.returns-then-self-i
returns-then-self-i c =
    let x = c.args.self.now.e in
    let y = c.args.other.now.e in
    let xl : length x ≡ width = search rules in
    let yl : length y ≡ width = search rules in
    c.partial_cmp.ensures ∙ sym (compared_differs x y c.loop-i.i (omega arith) (omega arith) c.if-self-i.true) ∙ c.loop-i.invariant

pub loop-i-preserved : goal.loop-i-preserved
loop-i-preserved c =
    let x = c.args.self.now.e in
    let y = c.args.other.now.e in
    let xl : length x ≡ width = search rules in
    let yl : length y ≡ width = search rules in
    sym (compared_on x y c.loop-i.i (omega arith) (omega arith) c.if-self-i.false) ∙ c.loop-i.invariant

pub returns : goal.returns
returns c =
    let x = c.args.self.now.e in
    let y = c.args.other.now.e in
    let xl : length x ≡ width = search rules in
    let yl : length y ≡ width = search rules in
    sym (compared_ends x y c.loop-i.i (omega arith) (omega arith)) ∙ c.loop-i.invariant
