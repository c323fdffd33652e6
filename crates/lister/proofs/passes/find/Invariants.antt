-- `find` meets its contract: one pass ends with a pair, or with nothing more to list, or the rest begins. Assumes nothing.
use mathlib.Core.Path.{◌≡◌}
use mathlib.Core.Bool.{false, cond}
use Rattle.wiring.specs.Signals.{signals_at}
use Rattle.lister.specs.Passes.{Standing, list_from}
use Rattle.lister.proofs.passes.find.Given as goal

-- from here on is listed what was listed from the first place on
abbrev pub invariant-loop-m : goal.invariant-loop-m
invariant-loop-m l =
    Standing (signals_at l.v.n l.v.set.now) l.m.e l.at.rest l.at.a.e l.at.listed
    × ((l.all ≡ false → l.at.rest ≡ false)
    × (list_from (signals_at l.v.n l.v.set.now) l.m.e l.all l.initial.at.rest l.initial.at.a.e ≡ list_from (signals_at l.v.n l.v.set.now) l.m.e l.all l.at.rest l.at.a.e))

abbrev pub decreases-loop-m : goal.decreases-loop-m
decreases-loop-m l = cond l.at.rest 0 1
