-- What planning or thinning, and then wiring, or the wiring of a given set alone, leave for a report. Assumes nothing.
use Rattle.std.specs.Prelude.{◌≡◌, cond, ◌&&◌, List, [], ℕ, ◌*◌, ◌-◌, ◌/◌, min, leb, length, take, drop, replicate}
use Rattle.wiring.specs.Panel.{set_bytes, wires_bytes}
use Rattle.wiring.specs.Sockets.{panel_of}
use Rattle.wiring.specs.declared.panel.Panel.{Panel}
use Rattle.wiring.specs.Reply.{Outcome, outcome}
use Rattle.wiring.specs.Answers.{wired}
use Rattle.walk.specs.Plan.{planned}
use Rattle.thin.specs.Thin.{thinned}
use Rattle.report.specs.declared.prepare.Settings.{Settings}
use Rattle.report.specs.declared.prepare.Prepared.{Prepared}

-- records in a buffer: how many, and the bytes of the buffer
pub record Counted : Type 0 where
  pub count : ℕ
  pub bytes : List ℕ

abbrev pub counted : ℕ → List ℕ → Counted
counted count bytes = record { count = count; bytes = bytes }

-- the records of an outcome
abbrev pub counted_of : Outcome → Counted
counted_of o = counted o.said.count o.bytes

-- record number i, from 0, of a buffer with records of one size
abbrev pub slot : ℕ → List ℕ → ℕ → List ℕ
slot size bytes i = take size (drop (size * i) bytes)

-- the wiring of set number `which`, from 1, of so many sets in a buffer; nothing where there is no such set
unfoldable pub wiring_of : Panel → List ℕ → ℕ → ℕ → List ℕ → Counted
wiring_of panel terms which count sets =
    let w = wired panel terms (slot set_bytes sets (which - 1)) wires_bytes in
    cond (leb 1 which && leb which count) (counted_of w) (counted 0 (replicate wires_bytes 0))

-- the outcome of an operation, with the sets that it lists, and the wiring of one set
pub record Results : Type 0 where
  pub listed : Outcome
  pub wiring : Counted

unfoldable pub results_of : Panel → List ℕ → ℕ → Outcome → Results
results_of panel terms which o = record { listed = o; wiring = wiring_of panel terms which o.said.count o.bytes }

-- the panel of settings
abbrev pub panel_in : Settings → Panel
panel_in s = panel_of s.n s.marks s.degree

-- of planning; and of thinning into a buffer of so many bytes
unfoldable pub results : Settings → List ℕ → Results
results s terms = results_of (panel_in s) terms s.which (planned (panel_in s) s.cap s.limit terms (set_bytes * s.room))

unfoldable pub thin_results : Panel → ℕ → List ℕ → List ℕ → ℕ → Results
thin_results panel which terms set size = results_of panel terms which (thinned panel terms set size)

-- of wiring the given set: no sets are listed, since the owner has it
unfoldable pub wire_results : Panel → List ℕ → List ℕ → Results
wire_results panel terms set =
    let w = wired panel terms set wires_bytes in
    record { listed = record { said = w.said; bytes = [] }; wiring = counted_of w }

-- ---- as the code has them: the results in two buffers, of which the first was lent for the sets, as far as is said
abbrev pub results_in : Prepared → List ℕ → List ℕ → Results
results_in p sets wires = record { listed = outcome p.reply (take p.lent sets); wiring = counted p.wires wires }

-- the settings, with no more room than a buffer of so many bytes has
abbrev pub fitted : Settings → ℕ → Settings
fitted s size = record { n = s.n; marks = s.marks; degree = s.degree; cap = s.cap; limit = s.limit; room = min s.room (size / set_bytes); which = s.which }

-- results are left, of which the sets were lent so many bytes; what was not lent is as it was
pub record Leaves (size : ℕ) (r : Results) (p : Prepared) (sets after wires : List ℕ) : Type 0 where
  pub lent : p.lent ≡ size
  pub left : results_in p after wires ≡ r
  pub rest : drop p.lent after ≡ drop p.lent sets

-- preparing leaves the results of planning into the room that is asked for; of thinning into all of the buffer; or of
-- wiring into nothing of it
abbrev pub Prepares : Settings → List ℕ → Prepared → List ℕ → List ℕ → List ℕ → Type 0
Prepares s terms = Leaves (set_bytes * s.room) (results s terms)

abbrev pub PreparesThin : Panel → ℕ → List ℕ → List ℕ → Prepared → List ℕ → List ℕ → List ℕ → Type 0
PreparesThin panel which terms set p sets = Leaves (length sets) (thin_results panel which terms set (length sets)) p sets

abbrev pub PreparesWire : Panel → List ℕ → List ℕ → Prepared → List ℕ → List ℕ → List ℕ → Type 0
PreparesWire panel terms set = Leaves 0 (wire_results panel terms set)
