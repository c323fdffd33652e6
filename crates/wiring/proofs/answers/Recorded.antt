-- A quadratic set that the kit can build and that can stand in a record: its record is called quadratic whatever the buffer, and wired into one that is large enough.
-- Assumes nothing.
use mathlib.Core.Path.{◌≡◌, refl, sym, ap, ◌∙◌, subst}
use mathlib.Core.Logic.{◌⊎◌}
use mathlib.Core.List.{List, ◌++◌}
use Prim.Native.Nat.{ℕ, ◌*◌, ◌-◌, ◌≤◌}
use native.Mathlib.Omega.{arith}
use lib.ListN.{length, replicate}
use Rattle.monomial.specs.Monomial.{Mono, width}
use Rattle.wiring.specs.Panel.{wire_bytes, wires_bytes}
use Rattle.wiring.specs.Reply.{numbers, outcome}
use Rattle.wiring.specs.Poly.{plain}
use Rattle.wiring.specs.Quadratic.{Quadratic}
use Rattle.wiring.specs.Signals.{signals}
use Rattle.wiring.specs.Terms.{records}
use Rattle.wiring.specs.Sets.{set_of, set_record}
use Rattle.wiring.specs.Wires.{wire_list}
use Rattle.wiring.specs.Answers.{wired}
use Rattle.wiring.specs.declared.panel.Panel.{Panel}
use Rattle.wiring.specs.declared.reply.Reply.{Reply}
use Rattle.wiring.specs.declared.reply.Reply.TheVariants.{Done}
use Rattle.wiring.specs.Claims.{Measured, Flawless, beyond, Ranged, Buildable, Recordable, WellFormed, signals_in, derivative_in, list_in}
use Rattle.wiring.proofs.sets.Exact.{record_length, record_set, record_right, right_iff}
use Rattle.wiring.proofs.answers.Alone.{wire_verdict}
use Rattle.wiring.proofs.answers.Wired.{list_most, wire_exact, wire_enough}

module _ (panel : Panel) (terms : List ℕ) (ranged : Ranged panel) (measured : Measured terms) (flawless : Flawless panel (records terms) beyond) where
  module _ (s : List Mono) (r : Recordable panel.n s) (b : Buildable panel s) (q : Quadratic plain (signals width panel.n s) (derivative_in panel terms)) where
    recorded_formed : WellFormed panel terms (set_record s)
    recorded_formed = record {
      ranged = ranged;
      lengths = record { measured = measured; long = record_length s r.few r.wide };
      flawless = flawless;
      right = (right_iff panel (set_record s)).0 (record_right panel s r b);
    }

    recorded_quadratic : Quadratic plain (signals_in panel (set_record s)) (derivative_in panel terms)
    recorded_quadratic = subst (λ (x : List Mono). Quadratic plain (signals width panel.n x) (derivative_in panel terms)) (sym (record_set panel.n s r)) q

    recorded_size : length (set_of (set_record s)) ≡ length s
    recorded_size = ap length (record_set panel.n s r)

    -- whatever the buffer, it is called quadratic: done or full
    pub recorded_judged : (size : ℕ) (reply : Reply) (bytes : List ℕ) → outcome reply bytes ≡ wired panel terms (set_record s) size
        → ((numbers reply).code ≡ 0) ⊎ ((numbers reply).code ≡ 6)
    recorded_judged size reply bytes e =
        (wire_verdict panel terms (set_record s) size reply bytes e).quadratic.1 (record { formed = recorded_formed; quadratic = recorded_quadratic })

    module _ (room : ℕ) (enough : wires_bytes ≤ room) where
      -- the list, then zeros
      pub recorded_wired : let list = list_in panel terms (set_record s) in
          outcome (Done (length s) (length list) 0) (wire_list list ++ replicate (room - wire_bytes * length list) 0) ≡ wired panel terms (set_record s) room
      recorded_wired =
          let done : Reply = Done (length s) (length (list_in panel terms (set_record s))) 0 in
          let fits : wire_bytes * length (list_in panel terms (set_record s)) ≤ room = omega (arith, list_most panel terms (set_record s) recorded_formed) in
          (wire_exact panel terms (set_record s) room done _).1 ((recorded_formed, recorded_quadratic, sym recorded_size, refl, refl, fits), refl)

      -- and so it is said
      pub recorded_wires : (reply : Reply) (bytes : List ℕ) → outcome reply bytes ≡ wired panel terms (set_record s) room
          → reply ≡ Done (length s) (length (list_in panel terms (set_record s))) 0
      recorded_wires reply bytes e =
          wire_enough panel terms (set_record s) room recorded_formed recorded_quadratic enough reply bytes e
          ∙ ap (λ (x : ℕ). Done x (length (list_in panel terms (set_record s))) 0) recorded_size
