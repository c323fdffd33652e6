-- Sockets fed from outside, of a plan: no reply depends on what the equation of such a signal would be, and with no marks and the full kit planning is
-- document 01's with the counting rule. Assumes nothing.
use mathlib.Core.Path.{◌≡◌}
use mathlib.Core.Bool.{cond, ◌&&◌}
use mathlib.Core.List.{List}
use Prim.Native.Nat.{ℕ, ◌/◌, ◌≤◌}
use lib.Dec.{leb}
use lib.ListN.{length}
use Rattle.monomial.specs.Monomial.{Mono, width}
use Rattle.monomial.proofs.Tests.{and_true}
use Rattle.wiring.specs.Panel.{cards, set_bytes, most_steps}
use Rattle.wiring.specs.Sockets.{full_panel, count_right}
use Rattle.wiring.specs.declared.panel.Panel.{Panel}
use Rattle.wiring.specs.declared.reply.Reply.TheVariants.{Setting, Length}
use Rattle.wiring.specs.Reply.{refused}
use Rattle.wiring.specs.Poly.{Poly}
use Rattle.wiring.specs.Signals.{signals}
use Rattle.wiring.specs.Terms.{records, length_right, fault, system}
use Rattle.wiring.specs.Answers.{unless_fault}
use Rattle.wiring.specs.Claims.{Wide, Buildable, LeftLinked, Driven}
use Rattle.wiring.proofs.sockets.Driven.{quadratic_driven}
use Rattle.wiring.proofs.sockets.Laws.{halved_zero}
use Rattle.walk.specs.Walk.{bare, cheaply, counted}
use Rattle.walk.specs.Plan.{plan, said, planned}
use Rattle.walk.specs.Claims.{sets_at, NoneBelow, Planned, DrivenPlan}
use Rattle.walk.proofs.Kit.{unmarked_may}
use Rattle.walk.proofs.plan.Kit.{full_planned}

-- ---- whatever the equations of the signals are
module _ (panel : Panel) (terms : List ℕ) (gs : List (Poly Mono)) (d : Driven panel.marks (system (records terms)) gs) where
  -- none, full and spent: no list that the kit can build and that is quadratic with them is smaller
  pub none_below_driven : (j : ℕ) → NoneBelow panel terms j → (s : List Mono) → Wide s → Buildable panel s
      → LeftLinked panel.marks gs (signals width panel.n s) → j ≤ length s
  none_below_driven j f s w b l = f s w b ((quadratic_driven panel.marks (system (records terms)) gs d (signals width panel.n s)).1 l)

  -- done: all that it says
  pub plan_driven : (cap limit size order count steps : ℕ) (bytes : List ℕ) → Planned panel cap limit terms size order count steps bytes
      → DrivenPlan panel gs order (sets_at panel terms order)
  plan_driven cap limit size order count steps bytes p = record {
    each = λ s h. (quadratic_driven panel.marks (system (records terms)) gs d (signals width panel.n s)).0 (p.finished.sets.each s h).quadratic;
    none_below = none_below_driven order p.none_below;
    all = λ s w b l. p.all s w b ((quadratic_driven panel.marks (system (records terms)) gs d (signals width panel.n s)).1 l);
  }

-- ---- no marks, and the full kit: the settings are document 01's, and the walk is by its rules, the cheap pairs first, closed by counting; the tests of the records are those of `Unmarked`
pub unmarked_planned : (n cap limit : ℕ) (terms : List ℕ) (size : ℕ) → planned (full_panel n) cap limit terms size
    ≡ (let walk = said (plan (counted (cheaply bare)) n (system (records terms)) limit (size / set_bytes) cap) size in
    let read = unless_fault (λ r. refused r size) (fault (full_panel n) (records terms)) walk in
    let long = cond (length_right terms) read (refused Length size) in
    cond (count_right n && leb cap cards && leb 1 limit && leb limit most_steps) long (refused Setting size))
unmarked_planned n cap limit terms size =
    rw (halved_zero n, and_true (count_right n), unmarked_may) at (full_planned n 0 cap limit terms size)
