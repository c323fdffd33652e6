-- `wire_rows` meets its contract: the first signals are met and their rows written, and the others make the list whole (`Listing`).
-- Assumes nothing.
use mathlib.Core.Path.{◌≡◌}
use lib.ListN.{length}
use Rattle.wiring.specs.Poly.{plain}
use Rattle.wiring.specs.Derivative.{derivative}
use Rattle.wiring.specs.Signals.{signals_of}
use Rattle.wiring.specs.Terms.{records, system}
use Rattle.wiring.proofs.wires.Sheets.{Listing}
use Rattle.wiring.proofs.system.System.wire_rows.Given as goal

abbrev pub invariant-loop-left : goal.invariant-loop-left
invariant-loop-left l =
    (length l.out ≡ length l.initial.out) × Listing (signals_of l.v) (derivative plain (system (records l.self.terms.now))) l.left l.w l.out
