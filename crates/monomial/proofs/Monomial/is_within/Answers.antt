-- `Monomial::is_within` meets its contract: the loop tests the exponents from number n on (`CheckingFrom`). Assumes nothing.
use mathlib.Core.Path.{◌≡◌, refl, sym}
use native.Mathlib.Omega.{arith}
use borrow.Author.Tests.{eq-eqb, ne_eqb}
use borrow.Author.Rules.{rules}
use lib.ListN.{length}
use Rattle.monomial.specs.Monomial.{width}
use Rattle.monomial.proofs.Loops.{from_fails, from_on, from_ends}
use Rattle.monomial.proofs.Monomial.is_within.Goals as goal

pub loop-i-init : goal.loop-i-init
loop-i-init c = record { rest = refl }

pub returns-then-self-i-ne0 : goal.returns-then-self-i-ne0
returns-then-self-i-ne0 c =
    let l : length c.args.self.e ≡ width = search rules in
    from_fails 0 c.loop-i.invariant (omega arith) (ne_eqb 0 _ (λ e. c.if-self-i-ne0.true (sym e)))

pub loop-i-preserved : goal.loop-i-preserved
loop-i-preserved c =
    let l : length c.args.self.e ≡ width = search rules in
    from_on 0 c.loop-i.invariant (omega arith) (eq-eqb 0 _ (sym c.if-self-i-ne0.false))

pub returns : goal.returns
returns c =
    let l : length c.args.self.e ≡ width = search rules in
    from_ends 0 c.loop-i.invariant (omega arith)
