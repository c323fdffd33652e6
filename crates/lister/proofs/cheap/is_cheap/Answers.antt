-- `is_cheap` meets its contract: one of the two tests alone (`cheap_held`). Assumes nothing.
use Rattle.lister.proofs.cheap.Laws.{cheap_held}
use Rattle.lister.proofs.cheap.is_cheap.Goals as goal

pub returns : goal.returns
returns c = λ v p q. cheap_held v p c.args.h q
