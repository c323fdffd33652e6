-- `terms::exponents_right` meets its contract: the chain asks whether each exponent is `Fit`. Assumes nothing.
use borrow.Author.Rules.{rules}
use borrow.Author.Tests.{tests}
use mathlib.Core.Path.{◌≡◌, refl}
use lib.ListN.{length}
use Rattle.std.proofs.lemmas.Iterator.{YieldsList-from_range, cases_from_all}
use Rattle.monomial.specs.Monomial.{width}
use Rattle.wiring.proofs.terms.Laws.{FitAt, exponents_asked}
use Rattle.wiring.proofs.terms.exponents_right.Goals as goal

pub returns : goal.returns
returns c =
    let m = c.args.m.e in
    let long : length m ≡ width = search rules in
    let fit = FitAt c.args.most c.args.n m in
    let cases = cases_from_all _ _ c.all.result fit (λ i. fit i → ⊥) c.all.ensures.ran (YieldsList-from_range 0 6 6 refl refl) (λ i q k. (search rules, record { small = search (rules, tests); zero = λ h. search (rules, tests, h) })) (λ i q k f. search (rules, tests, f.small, f.zero)) in
    exponents_asked c.args.most c.args.n m long c.all.result cases
