-- `coefficient_of` meets its contract: the size is the number or 1 (`sized`), and the sign goes with it. Assumes nothing.
use mathlib.Core.Path.{sym, ap, ◌∙◌}
use Rattle.listing.specs.Meaning.{signed}
use Rattle.truth.proofs.truth.Machine.{sized, minus_is}
use Rattle.truth.proofs.truth.coefficient_of.Goals as goal

pub returns-then-negative : goal.returns-then-negative
returns-then-negative c = minus_is (sized _ _ c.requires c.max-size.ensures) ∙ ap (λ b. signed b c.args.number) (sym c.if-negative.true)

pub returns-else-negative : goal.returns-else-negative
returns-else-negative c = (sized _ _ c.requires c.max-size.ensures).plus ∙ ap (λ b. signed b c.args.number) (sym c.if-negative.false)
