-- The records that a done plan leaves: they lie within the buffer, and each of them, handed to wiring, is wired.
-- Assumes nothing.
use mathlib.Core.Path.{◌≡◌}
use mathlib.Core.List.{List, [], ◌++◌}
use Prim.Native.Nat.{ℕ, ◌*◌, ◌-◌, ◌≤◌, ◌<◌}
use lib.ListN.{length, get_or, take, drop, replicate}
use Rattle.monomial.specs.Monomial.{Mono}
use Rattle.monomial.specs.Claims.{◌∈◌}
use Rattle.wiring.specs.Panel.{set_bytes, wire_bytes, wires_bytes}
use Rattle.wiring.specs.Reply.{outcome}
use Rattle.wiring.specs.Sets.{set_record}
use Rattle.wiring.specs.Wires.{wire_list}
use Rattle.wiring.specs.Answers.{wired}
use Rattle.wiring.specs.declared.panel.Panel.{Panel}
use Rattle.wiring.specs.declared.reply.Reply.{Reply}
use Rattle.wiring.specs.declared.reply.Reply.TheVariants.{Done}
use Rattle.wiring.specs.Claims.{list_in}
use Rattle.walk.specs.Plan.{planned}
use Rattle.walk.specs.Claims.{Planned, sets_at}
use Rattle.walk.proofs.plan.Exact.{plan_finds, listed_usable}
use Rattle.walk.proofs.listing.Wiring.{Usable, laid_wired, laid_wires}

module _ (panel : Panel) (cap limit : ℕ) (terms : List ℕ) (size : ℕ) where
  module _ (o c k : ℕ) (bytes : List ℕ) (e : outcome (Done o c k) bytes ≡ planned panel cap limit terms size) where
    abbrev found : Planned panel cap limit terms size o c k bytes
    found = plan_finds panel cap limit terms size o c k bytes e

    pub records_fit : set_bytes * c ≤ size
    records_fit = found.laid.fits

    each : (s : List Mono) → s ∈ sets_at panel terms o → Usable panel terms o s
    each s m = listed_usable panel terms o s (found.finished.sets.each s m)

    module _ (i : ℕ) (h : i < c) where
      -- record number i is that of set number i
      pub record-at : take set_bytes (drop (set_bytes * i) bytes) ≡ set_record (get_or (sets_at panel terms o) i [])
      record-at = found.laid.written i h

      -- wired into so many bytes, or more, it is done: its list, then zeros
      pub record_wired : (room : ℕ) → wires_bytes ≤ room
          → let list = list_in panel terms (set_record (get_or (sets_at panel terms o) i [])) in
          outcome (Done o (length list) 0) (wire_list list ++ replicate (room - wire_bytes * length list) 0) ≡ wired panel terms (take set_bytes (drop (set_bytes * i) bytes)) room
      record_wired =
          let a = found.accepted in
          laid_wired panel terms a.range.ranged a.measured a.flawless o (sets_at panel terms o) each c size bytes found.laid i h

      -- and so it is said
      pub record_wires : (room : ℕ) → wires_bytes ≤ room → (r : Reply) (left : List ℕ)
          → outcome r left ≡ wired panel terms (take set_bytes (drop (set_bytes * i) bytes)) room
          → r ≡ Done o (length (list_in panel terms (take set_bytes (drop (set_bytes * i) bytes)))) 0
      record_wires =
          let a = found.accepted in
          laid_wires panel terms a.range.ranged a.measured a.flawless o (sets_at panel terms o) each c size bytes found.laid i h
