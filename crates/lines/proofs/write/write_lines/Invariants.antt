-- `write_lines` ends: each line that is told is one of so many. Assumes nothing.
use Rattle.std.proofs.Common.{◌-◌}
use Rattle.lines.specs.Write.{EndsAt}
use Rattle.lines.proofs.write.write_lines.Given as goal

abbrev pub invariant-loop-line : goal.invariant-loop-line
invariant-loop-line g l = goal.F-IsAlwaysCallable g l.tell × EndsAt g.F.FnMut g.most l.tell

abbrev pub decreases-loop-line : goal.decreases-loop-line
decreases-loop-line g l = g.most - l.k
