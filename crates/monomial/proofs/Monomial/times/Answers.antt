-- `Monomial::times` meets its contract: each exponent is the sum of the two. Assumes nothing.
use Rattle.std.proofs.Common.{rules, tests, ◌≡◌, ◌+◌, arith, length}
use Rattle.monomial.specs.Monomial.{width}
use Rattle.monomial.proofs.FromFn.{serves_below, pointwise_from_fn}
use Rattle.monomial.proofs.product.Laws.{product_fits}
use Rattle.monomial.proofs.Monomial.times.Goals as goal

pub from_fn-requires : goal.from_fn-requires
from_fn-requires c =
    let a = c.args in
    let x_long : length a.self.e ≡ width = search rules in
    let y_long : length a.other.e ≡ width = search rules in
    (omega arith, serves_below width (λ x q k. search (rules, tests)) (λ x l. let fits = product_fits 255 a.self.e a.other.e x (omega arith) (omega arith) c.requires in search rules))

pub returns : goal.returns
returns c = pointwise_from_fn _ _ c.from_fn.result ◌+◌ _ _ width (search rules) (search rules) c.from_fn.ensures.items (λ i y q l k. search (rules, tests))
