-- `read` meets its contract: settings that are right have a room that the buffer has (`asked_roomy`). Assumes nothing.
use Rattle.asked.proofs.settings.Laws.{asked_roomy, thin_roomy, wire_roomy}
use Rattle.asked.proofs.settings.read.Goals as goal

pub returns-in-4 : goal.returns-in-4
returns-in-4 g c = rw c.wiring_of.ensures (wire_roomy _ _ _)

pub returns-in-5 : goal.returns-in-5
returns-in-5 g c = rw c.thinning_of.ensures (thin_roomy _ _ _ _)

pub returns-in-8 : goal.returns-in-8
returns-in-8 g c = rw c.settings_of.ensures (asked_roomy _ _ _ _ _ _ _)
