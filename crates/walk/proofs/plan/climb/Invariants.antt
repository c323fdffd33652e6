-- `climb` meets its contract: no set is found below level k, and the levels from k on are the plan (`Climbing`). Assumes nothing.
use lib.ListN.{length}
use Rattle.wiring.specs.Terms.{records, system}
use Rattle.walk.specs.Walk.{kit_rules}
use Rattle.walk.proofs.plan.Laws.{Climbing}
use Rattle.walk.proofs.plan.climb.Given as goal

abbrev pub invariant-loop-k : goal.invariant-loop-k
invariant-loop-k l = Climbing (kit_rules l.panel) l.panel.n (system (records l.terms)) l.limit l.cap (length l.initial.out) l.k l.steps l.out
