-- `is_square` meets its contract: m is low, or a new factor leaves it a member of V (`square_low`, `square_else`); the loop goes through the new ones from the last
-- down (`SeekingDown`). Assumes nothing.
use Rattle.monomial.proofs.Loops.{SeekingDown}
use Rattle.wiring.specs.Signals.{tabled}
use Rattle.wiring.proofs.signals.Division.{leaves}
use Rattle.wiring.proofs.signals.Members.is_square.Given as goal

abbrev pub invariant-loop-i : goal.invariant-loop-i
invariant-loop-i l = SeekingDown (leaves l.self.n (tabled l.self.set.now) l.m.e) (tabled l.self.set.now) l.i
