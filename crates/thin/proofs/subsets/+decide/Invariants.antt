-- `decide` ends: the number of undecided signals falls. Assumes nothing.
use Prim.Native.Nat.{◌-◌}
use Rattle.thin.proofs.subsets.+decide.Given as goal

abbrev pub decreases-decide : goal.decreases-decide
decreases-decide l = l.given.len - l.at
