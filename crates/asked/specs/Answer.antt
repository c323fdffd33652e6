-- What the program writes: the report that was asked for, or of wrong words the reply of code 1. Assumes nothing.
use Rattle.std.specs.Prelude.{◌≡◌, List, [], ◌∷◌, ℕ, ◌*◌, length, Option, Some, None}
use Rattle.wiring.specs.Panel.{set_bytes}
use Rattle.wiring.specs.Sockets.{panel_of}
use Rattle.wiring.specs.Reply.{numbers, in_order}
use Rattle.wiring.specs.declared.reply.Reply.TheVariants.{Setting}
use Rattle.lines.specs.Answer.{reply_line}
use Rattle.report.specs.declared.prepare.Prepared.{Prepared}
use Rattle.report.specs.Prepare.{fitted, Prepares, PreparesThin, PreparesWire}
use Rattle.report.specs.Report.{report, thin_report, wire_report}
use Rattle.asked.specs.declared.settings.Asked.{Asked}
use Rattle.asked.specs.declared.settings.Asked.TheVariants.{Plan, Thin, Wire}
use Rattle.asked.specs.Settings.{most_sets}
use Rattle.lines.specs.Input.{set_in, terms_in}

unfoldable pub answered : Option Asked → List ℕ → List (List ℕ)
answered (Some (Plan s)) input = report s input
answered (Some (Thin n marks degree which)) input = thin_report (panel_of n marks degree) which (terms_in input) (set_in input) (set_bytes * most_sets)
answered (Some (Wire n marks degree)) input = wire_report (panel_of n marks degree) (terms_in input) (set_in input)
answered None input = reply_line (in_order (numbers Setting)) ∷ []

-- ---- as the code prepares it, in two buffers
abbrev pub Answers : Option Asked → List ℕ → Prepared → List ℕ → List ℕ → List ℕ → List ℕ → Type 0
Answers (Some (Plan s)) input p sets sets_after wires wires_after = Prepares (fitted s (length sets)) input p sets sets_after wires_after
Answers (Some (Thin n marks degree which)) input p sets sets_after wires wires_after = PreparesThin (panel_of n marks degree) which (terms_in input) (set_in input) p sets sets_after wires_after
Answers (Some (Wire n marks degree)) input p sets sets_after wires wires_after = PreparesWire (panel_of n marks degree) (terms_in input) (set_in input) p sets sets_after wires_after
Answers None input p sets sets_after wires wires_after =
    (p ≡ record { reply = Setting; lent = 0; wires = 0 }) × (sets_after ≡ sets) × (wires_after ≡ wires)
