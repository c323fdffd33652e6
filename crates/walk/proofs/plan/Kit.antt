-- With the full kit planning is that of a panel without a limit: the settings ask nothing more, and the walk is the one that asks for no degree. The
-- tests of the records are those of `FullKit`. Assumes nothing.
use Rattle.std.specs.Prelude.{Ok, Err, Result, ⊤}
use mathlib.Core.Path.{◌≡◌, refl, sym, ap, ◌∙◌}
use mathlib.Core.Bool.{Bool, cond, ◌&&◌}
use mathlib.Core.List.{List}
use Prim.Native.Nat.{ℕ, ◌/◌}
use lib.Dec.{eqb, leb}
use Rattle.monomial.specs.Monomial.{width}
use Rattle.monomial.proofs.Tests.{Tested, passed, failed, test, is→T}
use Rattle.wiring.specs.Panel.{cards, set_bytes, most_steps, full_degree}
use Rattle.wiring.specs.Sockets.{panel_of, halved, count_right, free}
use Rattle.wiring.specs.declared.panel.Panel.{Panel}
use Rattle.wiring.specs.declared.reply.Reply.TheVariants.{Setting, Length}
use Rattle.wiring.specs.declared.terms.Fault.{Fault}
use Rattle.wiring.specs.declared.terms.Fault.TheVariants.{Wrong, Repeated}
use Rattle.wiring.specs.Reply.{Outcome, refused}
use Rattle.wiring.specs.Terms.{records, length_right, fault, system}
use Rattle.wiring.specs.Answers.{unless_fault}
use Rattle.wiring.proofs.kit.Full.{full_kit}
use Rattle.wiring.proofs.terms.Laws.{clean_for}
use Rattle.walk.specs.Walk.{allowing, cheaply, counted, rules_of}
use Rattle.walk.specs.Plan.{plan, said, settings_right, planned}
use Rattle.walk.specs.Claims.{InRange}
use Rattle.walk.proofs.Kit.{full_plan}
use Rattle.walk.proofs.plan.Exact.{range_out}

module _ (n marks cap limit : ℕ) (terms : List ℕ) (size : ℕ) where
  abbrev full : Panel
  full = panel_of n marks full_degree

  -- how the walk with the full kit's limit is said, and the one without a limit
  abbrev limited : Outcome
  limited = said (plan (rules_of full) n (system (records terms)) limit (size / set_bytes) cap) size

  abbrev unlimited : Outcome
  unlimited = said (plan (counted (cheaply (allowing (free marks)))) n (system (records terms)) limit (size / set_bytes) cap) size

  -- of clean records both are one
  read_same : InRange full cap limit → (f : Result ⊤ Fault) → fault full (records terms) ≡ f → unless_fault (λ r. refused r size) f limited ≡ unless_fault (λ r. refused r size) f unlimited
  read_same r (Err (Wrong p)) e = refl
  read_same r (Err (Repeated p)) e = refl
  read_same r (Ok _) e = ap (λ x. said x size) (full_plan n marks terms (clean_for full width terms r.ranged.high e) cap r.capped limit (size / set_bytes))

  settings_full : settings_right full cap limit ≡ count_right n && eqb (halved marks n) 0 && leb cap cards && leb 1 limit && leb limit most_steps
  unfolding settings_right
  settings_full = ap (λ (b : Bool). b && leb cap cards && leb 1 limit && leb limit most_steps) (full_kit n marks).settings

  pub full_planned : planned (panel_of n marks full_degree) cap limit terms size
      ≡ (let walk = said (plan (counted (cheaply (allowing (free marks)))) n (system (records terms)) limit (size / set_bytes) cap) size in
      let read = unless_fault (λ r. refused r size) (fault (panel_of n marks full_degree) (records terms)) walk in
      let long = cond (length_right terms) read (refused Length size) in
      cond (count_right n && eqb (halved marks n) 0 && leb cap cards && leb 1 limit && leb limit most_steps) long (refused Setting size))
  unfolding planned
  full_planned = go (test (settings_right full cap limit))
    where
      go : Tested (settings_right full cap limit) → planned full cap limit terms size
          ≡ cond (count_right n && eqb (halved marks n) 0 && leb cap cards && leb 1 limit && leb limit most_steps)
          (cond (length_right terms) (unless_fault (λ r. refused r size) (fault full (records terms)) unlimited) (refused Length size)) (refused Setting size)
      go (failed e) = rw (e, sym settings_full ∙ e)
      go (passed e) =
          rw (e, sym settings_full ∙ e)
          (ap (λ (o : Outcome). cond (length_right terms) o (refused Length size))
          (read_same (range_out full cap limit (is→T (settings_right full cap limit) e)) (fault full (records terms)) refl))
