-- Closing by counting changes no listing and adds no step: beside the panel's walk that closes nothing, each level of planning finds the same sets in
-- no more steps, planning ends as that walk does, in no more steps, and back. With no marks and the full kit that walk is document 01's with the cheap
-- pairs first. Assumes nothing.
use mathlib.Core.Path.{◌≡◌, sym, ap, ◌∙◌, subst}
use mathlib.Core.List.{List, ◌++◌}
use Prim.Native.Nat.{ℕ, suc, ◌*◌, ◌-◌, ◌/◌, ◌≤◌}
use native.Mathlib.Omega.{arith}
use lib.ListN.{length, replicate}
use Rattle.monomial.specs.Monomial.{Mono}
use Rattle.wiring.specs.Panel.{cards, set_bytes}
use Rattle.wiring.specs.Poly.{Poly}
use Rattle.wiring.specs.Sockets.{full_panel, may_be}
use Rattle.wiring.specs.Terms.{records, system, CleanTerms}
use Rattle.wiring.specs.Reply.{outcome, refused}
use Rattle.wiring.specs.declared.panel.Panel.{Panel}
use Rattle.wiring.specs.declared.reply.Reply.TheVariants.{Done, Nothing, Full}
use Rattle.walk.specs.Walk.{Finds, Rules, Step, allowing, bare, cheaply, counted, rules_of, level, walked}
use Rattle.walk.specs.Plan.{Ending, done, none, full_at, plan, sets_bytes, said, planned}
use Rattle.walk.specs.Claims.{Pruned, Alike, NoMore, Accepted}
use Rattle.walk.proofs.Rules.{cheaply_orderly}
use Rattle.walk.proofs.Kit.{full_level, unmarked_open}
use Rattle.walk.proofs.Alike.{alike_of, plan_alike, done_back, none_back}
use Rattle.walk.proofs.Counting.{counted_alike}
use Rattle.walk.proofs.children.Laws.{empty_walked}
use Rattle.walk.proofs.plan.Exact.{accepted_clean, planned_walk}
use Rattle.walk.proofs.plan.Laws.{said_done, said_none, said_full}

module _ (panel : Panel) (cap limit : ℕ) (terms : List ℕ) (a : Accepted panel cap limit terms) where
  abbrev fs : List (Poly Mono)
  fs = system (records terms)

  -- the panel's rules, where nothing is closed
  abbrev open_rules : Rules
  open_rules = cheaply (allowing (may_be panel))

  pub plan_closing : Alike open_rules (rules_of panel) panel.n fs cap
  plan_closing = counted_alike open_rules (cheaply_orderly (allowing (may_be panel))) panel.n terms (accepted_clean panel cap limit terms a) empty_walked cap a.range.capped

  module _ (size : ℕ) where
    -- how planning ends, and the walk that closes nothing, under any limit
    abbrev closed_plan : Ending
    closed_plan = plan (rules_of panel) panel.n fs limit (size / set_bytes) cap

    abbrev open_plan : ℕ → Ending
    open_plan most = plan open_rules panel.n fs most (size / set_bytes) cap

    pub closing_ends : NoMore closed_plan (open_plan limit)
    closing_ends = plan_alike open_rules (rules_of panel) panel.n fs cap plan_closing limit (size / set_bytes)

    -- and back, under any limit that allows the steps of the walk that closes nothing
    pub open_done : (o u : ℕ) (l : Finds) → closed_plan ≡ done o u l
        → (enough : ℕ) → walked open_rules panel.n fs (suc o) ≤ enough → open_plan enough ≡ done o (walked open_rules panel.n fs (suc o)) l
    open_done = done_back open_rules (rules_of panel) panel.n fs cap plan_closing limit (size / set_bytes)

    pub open_none : (o u : ℕ) → closed_plan ≡ none o u
        → (enough : ℕ) → walked open_rules panel.n fs o ≤ enough → open_plan enough ≡ none o (walked open_rules panel.n fs o)
    open_none = none_back open_rules (rules_of panel) panel.n fs cap plan_closing limit (size / set_bytes)

    -- ---- as it is said: where the walk that closes nothing is done, none or full, so is planning, with the same bytes, in no more steps
    answered : (e : Ending) → closed_plan ≡ e → said e size ≡ planned panel cap limit terms size
    answered e q = ap (λ (x : Ending). said x size) (sym q) ∙ sym (planned_walk panel cap limit terms size a)

    pub closing_done : (o u : ℕ) (l : Finds) → open_plan limit ≡ done o u l
        → (k : ℕ) × (k ≤ u) × (outcome (Done o (length l) k) (sets_bytes l ++ replicate (size - set_bytes * length l) 0) ≡ planned panel cap limit terms size)
    closing_done o u l e =
        let d = subst (NoMore closed_plan) e closing_ends in
        (d.0, d.1, said_done o d.0 l size ∙ answered (done o d.0 l) d.2)

    pub closing_none : (o u : ℕ) → open_plan limit ≡ none o u → (k : ℕ) × (k ≤ u) × (refused (Nothing o k) size ≡ planned panel cap limit terms size)
    closing_none o u e =
        let d = subst (NoMore closed_plan) e closing_ends in
        (d.0, d.1, said_none o d.0 size ∙ answered (none o d.0) d.2)

    pub closing_full : (o u : ℕ) → open_plan limit ≡ full_at o u → (k : ℕ) × (k ≤ u) × (refused (Full o k) size ≡ planned panel cap limit terms size)
    closing_full o u e =
        let d = subst (NoMore closed_plan) e closing_ends in
        (d.0, d.1, said_full o d.0 size ∙ answered (full_at o d.0) d.2)

-- with no marks and the full kit this is beside document 01's walk, the cheap pairs first
pub unmarked_closing : (n cap limit : ℕ) (terms : List ℕ) → Accepted (full_panel n) cap limit terms
    → Alike (cheaply bare) (rules_of (full_panel n)) n (system (records terms)) cap
unmarked_closing n cap limit terms a =
    let capped : cap ≤ cards = a.range.capped in
    let six : CleanTerms terms = accepted_clean (full_panel n) cap limit terms a in
    let beside : Alike (cheaply bare) (counted (cheaply bare)) n (system (records terms)) cap =
    counted_alike (cheaply bare) (cheaply_orderly bare) n terms six empty_walked cap capped in
    alike_of (cheaply bare) (rules_of (full_panel n)) n (system (records terms)) cap
    (λ k h. subst (λ (es : List Step). Pruned es (level (cheaply bare) n (system (records terms)) k)) (sym (bare_level k (omega arith) six)) (beside.pruned k h))
  where
    bare_level : (k : ℕ) → k ≤ cards → CleanTerms terms → level (rules_of (full_panel n)) n (system (records terms)) k ≡ level (counted (cheaply bare)) n (system (records terms)) k
    bare_level k low six = full_level n 0 terms six k low ∙ ap (λ (r : Rules). level (counted (cheaply r)) n (system (records terms)) k) unmarked_open

pub unmarked_ends : (n cap limit : ℕ) (terms : List ℕ) → Accepted (full_panel n) cap limit terms → (room : ℕ)
    → NoMore (plan (rules_of (full_panel n)) n (system (records terms)) limit room cap) (plan (cheaply bare) n (system (records terms)) limit room cap)
unmarked_ends n cap limit terms a = plan_alike (cheaply bare) (rules_of (full_panel n)) n (system (records terms)) cap (unmarked_closing n cap limit terms a) limit
