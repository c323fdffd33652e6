-- `terms::records_alike` meets its contract: the equations first, then the exponents. Assumes nothing.
use mathlib.Core.Path.{◌∙◌, ap₂}
use borrow.Author.Tests.{eq-eqb}
use Rattle.monomial.specs.Order.{same}
use Rattle.monomial.proofs.order.Derived.{same_from_eq}
use Rattle.wiring.proofs.terms.records_alike.Goals as goal

pub returns-then-terms-t : goal.returns-then-terms-t
returns-then-terms-t c = rw (eq-eqb _ _ c.if-terms-t.true) (same_from_eq _ _ _ c.eq.ensures ∙ ap₂ same c.read-m.ensures c.read.ensures)
