-- `cheapest` meets its contract: the better of the two is the best of both. Assumes nothing.
use Rattle.wiring.proofs.choice.Laws.{cheap_order, better_best}
use Rattle.wiring.proofs.choice.cheapest.Goals as goal

pub returns : goal.returns
returns c = λ l b. better_best cheap_order l c.args.m (λ old said h. h.2) c.args.best _ c.better.ensures b
