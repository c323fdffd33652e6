-- `wiring_of` meets its contract: word by word. Assumes nothing.
use Rattle.asked.specs.Settings.{asked_wire}
use Rattle.asked.proofs.settings.wiring_of.Goals as goal

pub returns-in_err-n : goal.returns-in_err-n
unfolding asked_wire
returns-in_err-n c = rw (c.from_residual.ensures, c.in_err-n.was)

pub returns-in_err-marks : goal.returns-in_err-marks
unfolding asked_wire
returns-in_err-marks c = rw (c.from_residual-in_err-marks.ensures, c.in_ok-n.was, c.in_err-marks.was)

pub returns-in_err-degree : goal.returns-in_err-degree
unfolding asked_wire
returns-in_err-degree c = rw (c.from_residual-in_err-degree.ensures, c.in_ok-n.was, c.in_ok-marks.was, c.in_err-degree.was)

pub returns : goal.returns
unfolding asked_wire
returns c = rw (c.in_ok-n.was, c.in_ok-marks.was, c.in_ok-degree.was)
