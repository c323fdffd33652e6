-- Records of quadratic sets in a buffer: each of them, handed to wiring, is called quadratic and wired. Assumes nothing.
use mathlib.Core.Path.{◌≡◌, sym, ap, ◌∙◌}
use mathlib.Core.Logic.{◌⊎◌}
use mathlib.Core.List.{List, [], ◌++◌}
use Prim.Native.Nat.{ℕ, ◌*◌, ◌-◌, ◌≤◌, ◌<◌}
use lib.ListN.{length, get_or, take, drop, replicate}
use Rattle.monomial.specs.Monomial.{Mono}
use Rattle.monomial.specs.Claims.{◌∈◌}
use Rattle.monomial.proofs.Counting.{at_in}
use Rattle.wiring.specs.Panel.{set_bytes, wire_bytes, wires_bytes}
use Rattle.wiring.specs.Reply.{numbers, outcome}
use Rattle.wiring.specs.Terms.{records}
use Rattle.wiring.specs.Sets.{set_record}
use Rattle.wiring.specs.Wires.{wire_list}
use Rattle.wiring.specs.Answers.{wired}
use Rattle.wiring.specs.Claims.{Measured, Flawless, beyond, Buildable, Ranged, Recordable, derivative_in, list_in}
use Rattle.wiring.specs.declared.panel.Panel.{Panel}
use Rattle.wiring.specs.declared.reply.Reply.{Reply}
use Rattle.wiring.specs.declared.reply.Reply.TheVariants.{Done}
use Rattle.wiring.proofs.answers.Recorded.{recorded_judged, recorded_wired, recorded_wires}
use Rattle.walk.specs.Walk.{Finds}
use Rattle.walk.specs.Claims.{QuadraticList, Laid}

-- a quadratic set of that many monomials that the kit can build and that can stand in a record
pub record Usable (panel : Panel) (terms : List ℕ) (o : ℕ) (s : List Mono) : Type 0 where
  pub recordable : Recordable panel.n s
  pub buildable : Buildable panel s
  pub quadratic : QuadraticList panel.n (derivative_in panel terms) s
  pub size : length s ≡ o

module _ (panel : Panel) (terms : List ℕ) (ranged : Ranged panel) (measured : Measured terms) (flawless : Flawless panel (records terms) beyond) (o : ℕ) where
  module _ (s : List Mono) (u : Usable panel terms o s) where
    -- whatever the buffer, it is called quadratic: done or full
    pub usable_judged : (size : ℕ) (r : Reply) (bytes : List ℕ) → outcome r bytes ≡ wired panel terms (set_record s) size → ((numbers r).code ≡ 0) ⊎ ((numbers r).code ≡ 6)
    usable_judged = recorded_judged panel terms ranged measured flawless s u.recordable u.buildable u.quadratic

    -- into 1,792 bytes or more
    pub usable_wires : (room : ℕ) → wires_bytes ≤ room → (r : Reply) (bytes : List ℕ) → outcome r bytes ≡ wired panel terms (set_record s) room
        → r ≡ Done o (length (list_in panel terms (set_record s))) 0
    usable_wires room h r bytes e =
        recorded_wires panel terms ranged measured flawless s u.recordable u.buildable u.quadratic room h r bytes e
        ∙ ap (λ (x : ℕ). Done x (length (list_in panel terms (set_record s))) 0) u.size

  -- record number i of a list of such sets
  module _ (l : Finds) (each : (s : List Mono) → s ∈ l → Usable panel terms o s) (count size : ℕ) (bytes : List ℕ) (laid : Laid l count size bytes) (i : ℕ) (h : i < count) where
    abbrev set : List Mono
    set = get_or l i []

    usable : Usable panel terms o set
    usable = each set (at_in l i [] (rw (← laid.counted) h))

    -- wired into so many bytes, or more, it is done: its list, then zeros
    pub laid_wired : (room : ℕ) → wires_bytes ≤ room
        → let list = list_in panel terms (set_record set) in
        outcome (Done o (length list) 0) (wire_list list ++ replicate (room - wire_bytes * length list) 0) ≡ wired panel terms (take set_bytes (drop (set_bytes * i) bytes)) room
    laid_wired room q =
        let list = list_in panel terms (set_record set) in
        let done = recorded_wired panel terms ranged measured flawless set usable.recordable usable.buildable usable.quadratic room q in
        rw (laid.written i h) (ap (λ (x : ℕ). outcome (Done x (length list) 0) (wire_list list ++ replicate (room - wire_bytes * length list) 0)) (sym usable.size) ∙ done)

    -- and so it is said
    pub laid_wires : (room : ℕ) → wires_bytes ≤ room → (r : Reply) (left : List ℕ) → outcome r left ≡ wired panel terms (take set_bytes (drop (set_bytes * i) bytes)) room
        → r ≡ Done o (length (list_in panel terms (take set_bytes (drop (set_bytes * i) bytes)))) 0
    laid_wires room q r left w = rw (laid.written i h) (usable_wires set usable room q r left (rw (laid.written i h) at w))
