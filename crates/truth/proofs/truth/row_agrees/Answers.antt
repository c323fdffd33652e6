-- `row_agrees` meets its contract: the numbers of the signals from a on are asked, as a row asks the signals (`all_from`). Assumes nothing.
use mathlib.Core.Path.{◌≡◌, refl, ap, ◌∙◌}
use mathlib.Core.Bool.{Bool}
use native.Mathlib.Omega.{arith}
use borrow.Author.Rules.{rules}
use borrow.Author.Tests.{tests}
use lib.ListN.{length}
use Rattle.std.proofs.lemmas.Iterator.{serves_from_Range, YieldsList-from_range}
use Rattle.std.proofs.lemmas.Iterator.Search.{all_from_yields_List}
use Rattle.monomial.specs.Monomial.{Mono}
use Rattle.monomial.specs.Product.{mul}
use Rattle.wiring.specs.Panel.{most_signals}
use Rattle.wiring.specs.Poly.{plain}
use Rattle.wiring.specs.Derivative.{derivative}
use Rattle.wiring.specs.Signals.{signals_of}
use Rattle.wiring.specs.Terms.{records, system}
use Rattle.wiring.proofs.signals.Arrays.{entry, array_length}
use Rattle.truth.specs.Sums.{agrees, row_agrees}
use Rattle.truth.proofs.truth.Ranges.{all_from}
use Rattle.truth.proofs.truth.Places.{long, product_fits, product_is, product_met}
use Rattle.truth.proofs.truth.row_agrees.Goals as goal

pub all-requires-clause-callable : goal.all-requires-clause-callable
all-requires-clause-callable c =
    let v = c.args.v in
    let p = c.requires in
    let room : length v.m ≡ most_signals = search (rules, array_length) in
    serves_from_Range (λ b q k. search (rules, tests))
    (λ b low high. search (rules, arith, v.few, p.fits, p.small, product_fits v room p.fits c.args.a b p.inside high, product_met v room p.fits c.args.a b p.inside high))

pub returns : goal.returns
unfolding row_agrees
returns c =
    let v = c.args.v in
    let p = c.requires in
    let room : length v.m ≡ most_signals = search (rules, array_length) in
    let test : Mono → Bool = agrees (signals_of v) c.args.sums.now (derivative plain (system (records c.args.s.terms.now)) c.args.z.e) in
    let found = all_from_yields_List (λ b. test (mul (entry v.m c.args.a) (entry v.m b))) _ _ c.all.result c.all.ensures.ran (YieldsList-from_range c.args.a v.len _ refl refl) (λ b r q k. search (rules, tests)) in
    found ∙ all_from (plain.one 0) _ (λ y. test (mul _ y)) (signals_of v) c.args.a _ (omega (arith, long v room p.fits))
    (λ b low high. ap test (product_is v room p.fits c.args.a b p.inside (omega (arith, long v room p.fits)) _ refl))
