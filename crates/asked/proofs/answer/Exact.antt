-- What was prepared tells just the lines that are to be written, and the promise leaves nothing open. Assumes nothing.
use mathlib.Core.Path.{◌≡◌, sym, ◌∙◌}
use mathlib.Core.List.{List}
use Prim.Native.Nat.{ℕ, ◌*◌}
use Rattle.std.specs.Prelude.{Option, Some, None}
use native.Mathlib.Omega.{arith}
use lib.ListN.{length}
use Rattle.wiring.specs.Panel.{set_bytes}
use Rattle.wiring.specs.Sockets.{panel_of}
use Rattle.report.specs.declared.prepare.Prepared.{Prepared}
use Rattle.report.specs.Prepare.{results_in}
use Rattle.report.specs.Report.{lines_of}
use Rattle.report.proofs.prepare.Laws.{roomy}
use Rattle.report.proofs.prepare.Exact.{prepare_determined, prepared_lines, thin_prepared_lines, wire_prepared_lines, setting_line}
use Rattle.asked.specs.declared.settings.Asked.{Asked}
use Rattle.asked.specs.declared.settings.Asked.TheVariants.{Plan, Thin, Wire}
use Rattle.asked.specs.Settings.{most_sets, Roomy}
use Rattle.lines.specs.Input.{set_in, terms_in}
use Rattle.asked.specs.Answer.{answered, Answers}

pub answered_lines : (a : Option Asked) (input : List ℕ) (p : Prepared) (sets sets_after wires wires_after : List ℕ) → Roomy a
    → length sets ≡ set_bytes * most_sets → Answers a input p sets sets_after wires wires_after → lines_of (results_in p sets_after wires_after) ≡ answered a input
unfolding answered
answered_lines (Some (Plan s)) input p sets sets_after wires wires_after h long e =
    prepared_lines s input (roomy s input (omega arith) e)
answered_lines (Some (Thin n marks degree which)) input p sets sets_after wires wires_after h long e =
    rw (← long) (thin_prepared_lines (panel_of n marks degree) which (terms_in input) (set_in input) e)
answered_lines (Some (Wire n marks degree)) input p sets sets_after wires wires_after h long e = wire_prepared_lines (panel_of n marks degree) (terms_in input) (set_in input) e
answered_lines None input p sets sets_after wires wires_after h long e = rw e.0 (setting_line sets_after wires_after)

pub asked_determined : (a : Option Asked) (input sets wires : List ℕ) (p p' : Prepared) (b b' w w' : List ℕ)
    → Answers a input p sets b wires w → Answers a input p' sets b' wires w' → (p ≡ p') × (b ≡ b') × (w ≡ w')
asked_determined (Some (Plan s)) input sets wires p p' b b' w w' e e' = prepare_determined e e'
asked_determined (Some (Thin n marks degree which)) input sets wires p p' b b' w w' e e' = prepare_determined e e'
asked_determined (Some (Wire n marks degree)) input sets wires p p' b b' w w' e e' = prepare_determined e e'
asked_determined None input sets wires p p' b b' w w' e e' = (e.0 ∙ sym e'.0, e.1 ∙ sym e'.1, e.2 ∙ sym e'.2)
