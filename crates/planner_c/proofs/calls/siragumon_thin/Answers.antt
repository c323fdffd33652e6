-- `siragumon_thin` meets its contract: the reply of thinning goes out as its five numbers, beside the buffer. Assumes nothing.
use Rattle.planner_c.proofs.calls.Laws.{handed_on}
use Rattle.planner_c.proofs.calls.siragumon_thin.Goals as goal

pub returns : goal.returns
returns c =
    let said = c.thin-r in
    handed_on said.result _ _ _ c.numbers.ensures said.ensures
