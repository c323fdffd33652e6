-- `siragumon_read_listing` meets its contract: the reply of reading goes out as its five numbers, beside the set. Assumes nothing.
use Rattle.planner_c.proofs.calls.Laws.{handed_on}
use Rattle.planner_c.proofs.calls.siragumon_read_listing.Goals as goal

pub returns : goal.returns
returns c =
    let said = c.read_listing-heard in
    handed_on said.result.reply _ _ _ c.numbers.ensures said.ensures
