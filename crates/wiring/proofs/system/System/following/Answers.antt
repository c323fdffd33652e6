-- `following` meets its contract: the tests of the code are those of `gives`, in its order. Assumes nothing.
use mathlib.Core.Path.{sym, ◌∙◌}
use Rattle.wiring.specs.Choice.{beyond}
use native.Mathlib.Omega.{arith}
use Rattle.monomial.proofs.product.Laws.{at_most_weaken}
use Rattle.wiring.specs.Terms.{record_at}
use Rattle.wiring.proofs.quadratic.Records.{given_low, given_fails, given_here}
use Rattle.wiring.proofs.system.System.following.Goals as goal

pub returns-then-power-lt1 : goal.returns-then-power-lt1
returns-then-power-lt1 c =
    let a = c.args in
    let l = a.self.terms.now in
    given_low (beyond a.last) a.z.e (record_at l a.t) c.power.result c.power.ensures c.if-power-lt1.true

pub image-m-requires-clause-small : goal.image-m-requires-clause-small
image-m-requires-clause-small c = at_most_weaken c.args.z.e (omega arith) c.requires.small

pub returns-then-not-is_beyond : goal.returns-then-not-is_beyond
returns-then-not-is_beyond c =
    let a = c.args in
    let l = a.self.terms.now in
    let x = c.power in
    let m = c.image-m in
    given_fails (beyond a.last) a.z.e (record_at l a.t) x.result m.result x.ensures
    c.if-power-lt1.false m.ensures (sym c.is_beyond.ensures ∙ c.if-not-is_beyond.true)

pub returns : goal.returns
returns c =
    let a = c.args in
    let l = a.self.terms.now in
    let x = c.power in
    let m = c.image-m in
    given_here (beyond a.last) a.z.e (record_at l a.t) x.result m.result x.ensures
    c.if-power-lt1.false m.ensures (sym c.is_beyond.ensures ∙ c.if-not-is_beyond.false)
