-- `settings_of` meets its contract: word by word. Assumes nothing.
use Rattle.std.proofs.Common.{◌≤◌, ◌<◌, arith, le-leb}
use borrow.Author.Tests.{lt-leb}
use Rattle.asked.specs.Settings.{most_sets, asked}
use Rattle.asked.proofs.settings.settings_of.Goals as goal

pub returns-in_err-n : goal.returns-in_err-n
unfolding asked
returns-in_err-n c = rw (c.from_residual.ensures, c.in_err-n.was)

pub returns-in_err-marks : goal.returns-in_err-marks
unfolding asked
returns-in_err-marks c = rw (c.from_residual-in_err-marks.ensures, c.in_ok-n.was, c.in_err-marks.was)

pub returns-in_err-degree : goal.returns-in_err-degree
unfolding asked
returns-in_err-degree c = rw (c.from_residual-in_err-degree.ensures, c.in_ok-n.was, c.in_ok-marks.was, c.in_err-degree.was)

pub returns-in_err-cap : goal.returns-in_err-cap
unfolding asked
returns-in_err-cap c = rw (c.from_residual-in_err-cap.ensures, c.in_ok-n.was, c.in_ok-marks.was, c.in_ok-degree.was, c.in_err-cap.was)

pub returns-in_err-limit : goal.returns-in_err-limit
unfolding asked
returns-in_err-limit c = rw (c.from_residual-in_err-limit.ensures, c.in_ok-n.was, c.in_ok-marks.was, c.in_ok-degree.was, c.in_ok-cap.was, c.in_err-limit.was)

pub returns-in_err-sets : goal.returns-in_err-sets
unfolding asked
returns-in_err-sets c = rw (c.from_residual-in_err-sets.ensures, c.in_ok-n.was, c.in_ok-marks.was, c.in_ok-degree.was, c.in_ok-cap.was, c.in_ok-limit.was, c.in_err-sets.was)

pub returns-in_err-which : goal.returns-in_err-which
unfolding asked
returns-in_err-which c = rw (c.from_residual-in_err-which.ensures, c.in_ok-n.was, c.in_ok-marks.was, c.in_ok-degree.was, c.in_ok-cap.was, c.in_ok-limit.was, c.in_ok-sets.was, c.in_err-which.was)

pub returns-then-s-le-MOST_SETS : goal.returns-then-s-le-MOST_SETS
unfolding asked
returns-then-s-le-MOST_SETS c =
    let sets = c.in_ok-sets.field-0 in
    let room : sets ≤ most_sets = omega arith in
    rw (c.in_ok-n.was, c.in_ok-marks.was, c.in_ok-degree.was, c.in_ok-cap.was, c.in_ok-limit.was, c.in_ok-sets.was, c.in_ok-which.was, le-leb sets most_sets room)

pub returns-else-s-le-MOST_SETS : goal.returns-else-s-le-MOST_SETS
unfolding asked
returns-else-s-le-MOST_SETS c =
    let sets = c.in_ok-sets.field-0 in
    let room : most_sets < sets = omega arith in
    rw (c.in_ok-n.was, c.in_ok-marks.was, c.in_ok-degree.was, c.in_ok-cap.was, c.in_ok-limit.was, c.in_ok-sets.was, c.in_ok-which.was, lt-leb sets most_sets room)
