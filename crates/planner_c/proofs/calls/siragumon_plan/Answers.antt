-- `siragumon_plan` meets its contract: the reply of planning goes out as its five numbers, beside the buffer. Assumes nothing.
use Rattle.planner_c.proofs.calls.Laws.{handed_on}
use Rattle.planner_c.proofs.calls.siragumon_plan.Goals as goal

pub returns : goal.returns
returns c =
    let said = c.plan-r in
    handed_on said.result _ _ _ c.numbers.ensures said.ensures
