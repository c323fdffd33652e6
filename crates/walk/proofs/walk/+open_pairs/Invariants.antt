-- The cycle of the opener and the pair runner: each leans on the other at a smaller measure, which is twice the room left below the level, and one
-- more for the opener. And the loop of the pair runner. Assumes nothing.
use mathlib.Core.Path.{◌≡◌}
use mathlib.Core.Bool.{false}
use mathlib.Core.List.{◌++◌}
use Prim.Native.Nat.{◌+◌, ◌*◌, ◌-◌}
use lib.ListN.{length}
use Rattle.wiring.specs.Panel.{set_bytes}
use Rattle.wiring.specs.Signals.{tabled, signals_at}
use Rattle.lister.specs.Passes.{Standing, list_from, put_off}
use Rattle.walk.specs.Walk.{kit_rules}
use Rattle.walk.proofs.walk.Laws.{Running}
use Rattle.walk.proofs.walk.+open_pairs.Given as goal

abbrev pub decreases-open : goal.decreases-open
decreases-open l = 2 * (l.f.now.level - length (tabled l.set.now)) + 1

abbrev pub decreases-pairs : goal.decreases-pairs
decreases-pairs l = 2 * (l.f.now.level - length (tabled l.set.now))

-- ---- the loop: what is listed from its place on, and what is put off, are the pairs that are left
abbrev pub invariant-pairs-loop-held : goal.invariant-pairs-loop-held
invariant-pairs-loop-held l =
    Running (kit_rules l.f.panel) l.f.panel.n l.f.system.terms.now l.f.level l.f.limit l.set l.m.e l.initial.cur l.initial.out
    (list_from (signals_at l.f.panel.n l.set) l.m.e l.all l.at.rest l.at.a.e ++ put_off (signals_at l.f.panel.n l.set) l.m.e l.all) l.cur l.out
    × (Standing (signals_at l.f.panel.n l.set) l.m.e l.at.rest l.at.a.e l.at.listed
    × ((l.all ≡ false → l.at.rest ≡ false) × (length l.child ≡ set_bytes)))

abbrev pub decreases-pairs-loop-held : goal.decreases-pairs-loop-held
decreases-pairs-loop-held l = length (list_from (signals_at l.f.panel.n l.set) l.m.e l.all l.at.rest l.at.a.e)
