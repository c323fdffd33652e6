-- A caller that prepares once, asks for line 0, 1, .. and stops at the first that is none has written the lines of the
-- report, all of them and nothing else. Assumes nothing.
use mathlib.Core.Path.{◌≡◌, ◌∙◌}
use mathlib.Core.List.{List, map}
use mathlib.Core.Logic.{◌↔◌}
use mathlib.Core.Bool.{Bool, true, false}
use Prim.Native.Nat.{ℕ, ◌≤◌, ◌<◌}
use lib.ListN.{length}
use Rattle.monomial.specs.Lists.{below}
use Rattle.wiring.specs.declared.panel.Panel.{Panel}
use Rattle.report.specs.declared.prepare.Settings.{Settings}
use Rattle.report.specs.declared.prepare.Prepared.{Prepared}
use Rattle.report.specs.Prepare.{results_in, Prepares, PreparesThin, PreparesWire}
use Rattle.report.specs.Report.{lines_of, report, thin_report, wire_report, line_at}
use Rattle.report.proofs.prepare.Exact.{prepared_lines, thin_prepared_lines, wire_prepared_lines}
use Rattle.lines.proofs.Told.{lines_written}

-- the texts that were told, one line behind the other, after preparing for planning, for thinning or for wiring
module _ {p : Prepared} {sets after wires : List ℕ} (text : ℕ → List ℕ) (there : ℕ → Bool) (stop : ℕ)
    (told : (k : ℕ) → k ≤ stop → (text k ≡ line_at (lines_of (results_in p after wires)) k) × ((there k ≡ true) ↔ (k < length (lines_of (results_in p after wires)))))
    (some : (k : ℕ) → k < stop → there k ≡ true) (none : there stop ≡ false) where
  pub report_written : (s : Settings) (terms : List ℕ) → Prepares s terms p sets after wires
      → map text (below stop) ≡ report s terms
  report_written s terms a = lines_written (lines_of (results_in p after wires)) text there stop told some none ∙ prepared_lines s terms a

  pub thin_report_written : (panel : Panel) (which : ℕ) (terms set : List ℕ) → PreparesThin panel which terms set p sets after wires
      → map text (below stop) ≡ thin_report panel which terms set (length sets)
  thin_report_written panel which terms set a =
      lines_written (lines_of (results_in p after wires)) text there stop told some none ∙ thin_prepared_lines panel which terms set a

  pub wire_report_written : (panel : Panel) (terms set : List ℕ) → PreparesWire panel terms set p sets after wires
      → map text (below stop) ≡ wire_report panel terms set
  wire_report_written panel terms set a = lines_written (lines_of (results_in p after wires)) text there stop told some none ∙ wire_prepared_lines panel terms set a
