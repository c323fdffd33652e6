-- `least` meets its contract: the better of the two is the best of both. Assumes nothing.
use borrow.Author.Rules.{rules}
use Rattle.monomial.proofs.order.Laws.{mono_order}
use Rattle.wiring.proofs.choice.Laws.{better_best}
use Rattle.monomial.proofs.order.Derived.{before_from_lt}
use Rattle.wiring.proofs.choice.least.Goals as goal

pub returns : goal.returns
returns c = λ l b. better_best mono_order l c.args.m (λ old said h. search (rules, before_from_lt)) c.args.best _ c.better.ensures b
