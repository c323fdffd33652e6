-- `Monomial::over` meets its contract: each exponent is that of self without that of the divisor. Assumes nothing.
use Rattle.std.proofs.Common.{rules, tests, ◌-◌, arith}
use Rattle.monomial.specs.Monomial.{width}
use Rattle.monomial.proofs.FromFn.{serves_below, pointwise_from_fn}
use Rattle.monomial.proofs.quotient.Laws.{divides_at}
use Rattle.monomial.proofs.Monomial.over.Goals as goal

pub from_fn-requires : goal.from_fn-requires
from_fn-requires c =
    let a = c.args in
    (omega arith, serves_below width (λ x q k. search (rules, tests)) (λ x l. let less = divides_at a.other.e a.self.e x c.requires in search rules))

pub returns : goal.returns
returns c = pointwise_from_fn _ _ c.from_fn.result ◌-◌ _ _ width (search rules) (search rules) c.from_fn.ensures.items (λ i y q l k. search (rules, tests))
