-- `Monomial::leads` meets its contract: self does not stand behind its quotient. Assumes nothing.
use Rattle.std.proofs.Common.{◌∙◌, ap}
use mathlib.Core.Bool.{not}
use Rattle.monomial.specs.Monomial.{Mono}
use Rattle.monomial.specs.Order.{before}
use Rattle.monomial.proofs.order.Derived.{not_before_from_le}
use Rattle.monomial.proofs.Monomial.leads.Goals as goal

pub returns : goal.returns
returns c =
    let d = c.args.self.e in
    not_before_from_le _ _ _ c.le.ensures ∙ ap (λ (q : Mono). not (before q d)) c.over.ensures
