-- The wiring of one set, planning into the front of a buffer, thinning into all of one, and wiring a given set into
-- none of it. Assumes nothing.
use mathlib.Core.Path.{◌≡◌, refl, sym, ap, ◌∙◌}
use mathlib.Core.List.{List, [], ◌++◌}
use Prim.Native.Nat.{ℕ, ◌+◌, ◌*◌, ◌-◌, ◌/◌, ◌≤◌, ◌<◌, min}
use native.Mathlib.Omega.{arith}
use borrow.Author.Tests.{le-leb, lt-leb}
use lib.ListN.{length, get_or, take, drop, replicate, drop_of_length-le}
use lib.Seq.{take_at, drop_at, take_all, length-take-le}
use Rattle.wiring.specs.Panel.{set_bytes, wires_bytes}
use Rattle.wiring.specs.Reply.{Outcome, numbers, in_order, outcome}
use Rattle.wiring.specs.Answers.{wired}
use Rattle.wiring.specs.declared.panel.Panel.{Panel}
use Rattle.wiring.specs.declared.reply.Reply.{Reply}
use Rattle.wiring.specs.declared.reply.Reply.TheVariants.{Done}
use Rattle.wiring.proofs.reply.Laws.{done_counts}
use Rattle.walk.specs.Plan.{planned}
use Rattle.thin.specs.Thin.{thinned}
use Rattle.thin.proofs.thin.Exact.{thin_finds, thin_length}
use Rattle.walk.proofs.plan.Exact.{plan_finds, plan_length}
use Rattle.report.specs.declared.prepare.Settings.{Settings}
use Rattle.report.specs.declared.prepare.Prepared.{Prepared}
use Rattle.report.specs.Prepare.{panel_in, Counted, counted, counted_of, slot, wiring_of, Results, results_of, results, thin_results, wire_results, fitted, Prepares, PreparesThin, PreparesWire}

-- ---- the wiring of set number `which`, into a buffer of so many bytes
module _ (panel : Panel) (terms : List ℕ) (which count : ℕ) (sets : List ℕ) (size : ℕ) (long : size ≡ wires_bytes) where
  pub wires_zero : (out : List ℕ) → out ≡ replicate size 0 → which < 1 → counted 0 out ≡ wiring_of panel terms which count sets
  unfolding wiring_of
  wires_zero out e h = rw (lt-leb 1 which h) (ap (counted 0) (rw long at e))

  pub wires_beyond : (out : List ℕ) → out ≡ replicate size 0 → 1 ≤ which → count < which → counted 0 out ≡ wiring_of panel terms which count sets
  unfolding wiring_of
  wires_beyond out e low h = rw (le-leb 1 which low, lt-leb which count h) (ap (counted 0) (rw long at e))

  pub wires_there : 1 ≤ which → which ≤ count → (at : ℕ) → at ≡ set_bytes * (which - 1) → (r : Reply) (out five : List ℕ)
      → outcome r out ≡ wired panel terms (take (at + set_bytes - at) (drop at sets)) size → five ≡ in_order (numbers r)
      → counted (get_or five 2 0) out ≡ wiring_of panel terms which count sets
  unfolding wiring_of
  wires_there low high at from r out five e f =
      let same : at + set_bytes - at ≡ set_bytes = omega arith in
      let whole : outcome r out ≡ wired panel terms (slot set_bytes sets (which - 1)) wires_bytes = rw (same, from, long) at e in
      rw (le-leb 1 which low, le-leb which count high, f) (ap counted_of whole)

-- ---- an outcome and the wiring of one of its sets are its results
abbrev as_results : Outcome → Counted → Results
as_results o w = record { listed = o; wiring = w }

results_are : (panel : Panel) (terms : List ℕ) (which : ℕ) {o : Outcome} (reply : Reply) (bytes five : List ℕ) → outcome reply bytes ≡ o → five ≡ in_order (numbers reply)
    → (count : ℕ) (out : List ℕ) → counted count out ≡ wiring_of panel terms which (get_or five 2 0) bytes → as_results (outcome reply bytes) (counted count out) ≡ results_of panel terms which o
unfolding results_of
results_are panel terms which reply bytes five e f count out w =
    let wiring : counted count out ≡ wiring_of panel terms which (numbers reply).count bytes = rw f at w in
    ap (as_results (outcome reply bytes)) wiring ∙ ap (λ (x : Outcome). as_results x (wiring_of panel terms which x.said.count x.bytes)) e

-- ---- a buffer of which planning was lent the front
module _ (s : Settings) (terms sets : List ℕ) (room : ℕ) (fits : room ≡ min s.room (length sets / set_bytes)) where
  pub lent_front : length (take (set_bytes * room) sets) ≡ set_bytes * room
  lent_front = length-take-le (set_bytes * room) sets (omega arith)

  module _ (reply : Reply) (bytes : List ℕ) (e : outcome reply bytes ≡ planned (panel_in s) s.cap s.limit terms (length (take (set_bytes * room) sets))) where
    lent_long : length bytes ≡ set_bytes * room
    lent_long = plan_length (panel_in s) s.cap s.limit terms _ reply bytes e ∙ lent_front

    front_is : take (set_bytes * room) (bytes ++ drop (set_bytes * room) sets) ≡ bytes
    front_is = take_at bytes (drop (set_bytes * room) sets) (set_bytes * room) lent_long

    pub front_long : length (take (set_bytes * room) (bytes ++ drop (set_bytes * room) sets)) ≡ set_bytes * room
    front_long = ap length front_is ∙ lent_long

    module _ (five : List ℕ) (f : five ≡ in_order (numbers reply)) where
      -- the sets that are counted lie in it
      pub front_holds : set_bytes * get_or five 2 0 ≤ length (take (set_bytes * room) (bytes ++ drop (set_bytes * room) sets))
      front_holds = rw (front_is, lent_long, f) (done_counts (λ (c : ℕ). set_bytes * c ≤ set_bytes * room) reply (omega arith) listed)
        where
          listed : (o c k : ℕ) → reply ≡ Done o c k → set_bytes * c ≤ set_bytes * room
          listed o c k d = (plan_finds (panel_in s) s.cap s.limit terms (set_bytes * room) o c k bytes (rw (lent_front, d) at e)).laid.fits

      pub prepares : (count : ℕ) (out : List ℕ)
          → counted count out ≡ wiring_of (panel_in s) terms s.which (get_or five 2 0) (take (set_bytes * room) (bytes ++ drop (set_bytes * room) sets))
          → Prepares (fitted s (length sets)) terms (record { reply = reply; lent = set_bytes * room; wires = count }) sets
          (bytes ++ drop (set_bytes * room) sets) out
      unfolding results
      prepares count out w =
          let plan : outcome reply bytes ≡ planned (panel_in s) s.cap s.limit terms (set_bytes * room) = rw lent_front at e in
          record {
            lent = ap (λ (x : ℕ). set_bytes * x) fits;
            left = rw (front_is, ← fits) (results_are (panel_in s) terms s.which reply bytes five plan f count out (rw front_is at w));
            rest = drop_at bytes (drop (set_bytes * room) sets) (set_bytes * room) lent_long;
          }

-- ---- a buffer of which thinning was lent all
module _ (panel : Panel) (terms set sets : List ℕ) (reply : Reply) (bytes : List ℕ) (e : outcome reply bytes ≡ thinned panel terms set (length sets)) where
  same : length bytes ≡ length sets
  same = thin_length panel terms set (length sets) reply bytes e

  module _ (five : List ℕ) (f : five ≡ in_order (numbers reply)) where
    pub thin_holds : set_bytes * get_or five 2 0 ≤ length bytes
    thin_holds = rw (f, same) (done_counts (λ (c : ℕ). set_bytes * c ≤ length sets) reply (omega arith) listed)
      where
        listed : (o c k : ℕ) → reply ≡ Done o c k → set_bytes * c ≤ length sets
        listed o c k d = (thin_finds panel terms set (length sets) o c k bytes (rw d at e)).laid.fits

    pub prepares_thin : (which count : ℕ) (out : List ℕ) → counted count out ≡ wiring_of panel terms which (get_or five 2 0) bytes
        → PreparesThin panel which terms set (record { reply = reply; lent = length sets; wires = count }) sets bytes out
    unfolding thin_results
    prepares_thin which count out w =
        let whole : take (length sets) bytes ≡ bytes = take_all (length sets) bytes (omega (arith, same)) in
        let short : length bytes ≤ length sets = omega (arith, same) in
        let full : length sets ≤ length sets = omega arith in
        record {
          lent = refl;
          left = rw whole (results_are panel terms which reply bytes five e f count out w);
          rest = drop_of_length-le bytes short ∙ sym (drop_of_length-le sets full);
        }

-- ---- no buffer was lent for sets, and the given set was wired into so many bytes
pub prepares_wire : (panel : Panel) (terms set : List ℕ) (size : ℕ) → size ≡ wires_bytes → (reply : Reply) (out five : List ℕ)
    → outcome reply out ≡ wired panel terms set size → five ≡ in_order (numbers reply) → (sets : List ℕ)
    → PreparesWire panel terms set (record { reply = reply; lent = 0; wires = get_or five 2 0 }) sets sets out
unfolding wire_results
prepares_wire panel terms set size long reply out five e f sets =
    let whole : outcome reply out ≡ wired panel terms set wires_bytes = rw long at e in
    record {
      lent = refl;
      left = rw f (ap (λ (x : Outcome). as_results (record { said = x.said; bytes = [] }) (counted_of x)) whole);
      rest = refl;
    }

-- settings whose room the buffer has are taken as they are
pub roomy : (s : Settings) (terms : List ℕ) {sets after wires : List ℕ} {p : Prepared} → set_bytes * s.room ≤ length sets
    → Prepares (fitted s (length sets)) terms p sets after wires → Prepares s terms p sets after wires
roomy s terms {sets} h e = let whole : min s.room (length sets / set_bytes) ≡ s.room = omega arith in rw whole at e
