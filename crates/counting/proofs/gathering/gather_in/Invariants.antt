-- `gather_in` meets its contract: the loop lists what the records offer (`Meeting`). Assumes nothing.
use mathlib.Core.Path.{◌≡◌}
use lib.ListN.{length}
use Rattle.wiring.specs.Signals.{listed, signals_at}
use Rattle.wiring.specs.Terms.{records}
use Rattle.counting.proofs.gathering.Laws.{Meeting}
use Rattle.counting.proofs.gathering.gather_in.Given as goal

abbrev pub invariant-loop-t : goal.invariant-loop-t
invariant-loop-t l =
    (length l.list ≡ length l.initial.list) × Meeting (listed l.len l.initial.list) (signals_at l.v.n l.v.set.now) (records l.s.terms.now) l.z.e l.most l.held l.list l.t
