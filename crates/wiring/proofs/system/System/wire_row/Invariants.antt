-- `wire_row` meets its contract: the monomials up to the last one have their records, and each of them is in V2 (`Rowing`); without room those
-- behind it are judged. Assumes nothing.
use mathlib.Core.Path.{◌≡◌}
use mathlib.Core.List.{List, []}
use Prim.Native.Nat.{ℕ}
use lib.ListN.{length, get_or}
use Rattle.monomial.specs.Lists.{keep}
use Rattle.monomial.specs.Monomial.{Mono}
use Rattle.wiring.specs.Poly.{Poly, plain, support}
use Rattle.wiring.specs.Derivative.{derivative}
use Rattle.wiring.specs.Choice.{beyond}
use Rattle.wiring.specs.Signals.{signals_of}
use Rattle.wiring.specs.Terms.{records, system}
use Rattle.wiring.proofs.wires.Sheets.{Rowing}
use Rattle.wiring.proofs.system.System.wire_row.Given as goal

abbrev pub derived : List ℕ → Mono → Poly Mono
derived terms z = derivative plain (system (records terms)) z

abbrev pub invariant-loop-w : goal.invariant-loop-w
invariant-loop-w l =
    (l.z.e ≡ get_or (signals_of l.v) l.left []) × Rowing (signals_of l.v) l.left (derived l.self.terms.now l.z.e) l.initial.w l.initial.out l.last l.w l.out

abbrev pub decreases-loop-w : goal.decreases-loop-w
decreases-loop-w l = length (keep (beyond l.last) (support plain (derived l.self.terms.now l.z.e)))
