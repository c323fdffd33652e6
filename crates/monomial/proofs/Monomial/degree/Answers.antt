-- `Monomial::degree` meets its contract: the chain adds the exponents up. Assumes nothing.
use Rattle.std.proofs.Common.{◌≡◌, ◌≤◌, ◌*◌, refl, ◌∙◌, sym, ℕ, length, get_or, Fits, w8, arith, rules, tests, sum_by}
use Rattle.std.proofs.lemmas.Iterator.{YieldsList-from_slice, YieldsList-from_map}
use Rattle.std.proofs.lemmas.Iterator.Consumers.{sum_by_from_yields_List, fits_by_from_yields_list}
use Rattle.std.proofs.lemmas.List.Recursion.{is_sum_by}
use Rattle.monomial.specs.Monomial.{Mono, width}
use Rattle.monomial.specs.Degree.{degree}
use Rattle.monomial.proofs.degree.Laws.{degree_most}
use Rattle.monomial.proofs.product.Laws.{at_most_all}
use Rattle.monomial.proofs.Monomial.degree.Goals as goal

degree_sum : (m : Mono) → degree m ≡ sum_by (λ x. x) m
unfolding degree
degree_sum = is_sum_by degree (λ x. x) refl (λ _ _. refl)

pub sum-requires-clause-fits : goal.sum-requires-clause-fits
sum-requires-clause-fits c =
    let es = c.args.self.e in
    let long : length es ≡ width = search rules in
    let bytes : (k : ℕ) → Fits w8 (get_or es k 0) = λ k. search rules in
    let most : degree es ≤ length es * 255 = degree_most 255 es (at_most_all 255 es (λ k. omega (arith, bytes k))) in
    fits_by_from_yields_list (λ x. x) es c.map.result _ (YieldsList-from_map _ (λ x. x) (YieldsList-from_slice es cc) c.map.ensures.closure (λ x r q k. search (rules, tests))) (omega (arith, degree_sum es))

pub returns : goal.returns
returns c =
    let es = c.args.self.e in
    sum_by_from_yields_List (λ x. x) es c.map.result _ c.sum.ensures.ran (YieldsList-from_map _ (λ x. x) (YieldsList-from_slice es cc) c.map.ensures.closure (λ x r q k. search (rules, tests)))
    ∙ sym (degree_sum es)
