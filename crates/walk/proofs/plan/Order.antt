-- Trying cheap pairs first changes no plan that ends: planning is done, or none, with the same order, count, steps and sets, exactly where the walk by
-- the same rules is that tries pairs by ascending m1. So it ends as document 01's walk does, with no marks and the full kit. Assumes nothing.
use mathlib.Core.Path.{◌≡◌, subst}
use mathlib.Core.Logic.{◌↔◌}
use mathlib.Core.Bool.{true}
use mathlib.Core.List.{List}
use Prim.Native.Nat.{ℕ, ◌≤◌}
use Rattle.monomial.specs.Monomial.{Mono}
use Rattle.wiring.specs.Poly.{Poly}
use Rattle.wiring.specs.Sockets.{full_panel, may_be}
use Rattle.wiring.specs.Terms.{records, system}
use Rattle.wiring.specs.declared.panel.Panel.{Panel}
use Rattle.lister.specs.Cheap.{cheap_first}
use Rattle.walk.specs.Walk.{Finds, Rules, allowing, bare, cheaply, counted, rules_of}
use Rattle.walk.specs.Plan.{done, none, plan}
use Rattle.walk.specs.Claims.{Orderly, NoMore, Accepted}
use Rattle.walk.proofs.Rules.{allowing_orderly, cheaply_orderly}
use Rattle.walk.proofs.Trying.{done_too, none_too}
use Rattle.walk.proofs.plan.Closing.{unmarked_ends}

-- any rules, and the same with the cheap pairs first
module _ (r : Rules) (o : Orderly r) (n : ℕ) (fs : List (Poly Mono)) (cap limit room : ℕ) where
  pub order_done : (j u : ℕ) (l : Finds) → (plan r n fs limit room cap ≡ done j u l) ↔ (plan (cheaply r) n fs limit room cap ≡ done j u l)
  order_done j u l = (
    done_too r r.tries cheap_first o (cheaply_orderly r) n fs cap limit room j u l,
    done_too r cheap_first r.tries (cheaply_orderly r) o n fs cap limit room j u l,
  )

  pub order_none : (j u : ℕ) → (plan r n fs limit room cap ≡ none j u) ↔ (plan (cheaply r) n fs limit room cap ≡ none j u)
  order_none j u = (
    none_too r r.tries cheap_first o (cheaply_orderly r) n fs cap limit room j u,
    none_too r cheap_first r.tries (cheaply_orderly r) o n fs cap limit room j u,
  )

-- the panel's
module _ (panel : Panel) (fs : List (Poly Mono)) (cap limit room : ℕ) where
  -- where pairs are tried by ascending m1
  abbrev upward : Rules
  upward = counted (allowing (may_be panel))

  pub panel_done : (j u : ℕ) (l : Finds) → (plan upward panel.n fs limit room cap ≡ done j u l) ↔ (plan (rules_of panel) panel.n fs limit room cap ≡ done j u l)
  panel_done = order_done upward (allowing_orderly (may_be panel)) panel.n fs cap limit room

  pub panel_none : (j u : ℕ) → (plan upward panel.n fs limit room cap ≡ none j u) ↔ (plan (rules_of panel) panel.n fs limit room cap ≡ none j u)
  panel_none = order_none upward (allowing_orderly (may_be panel)) panel.n fs cap limit room

-- where document 01's walk ends, planning with no marks and the full kit ends with the same sets, in no more steps
module _ (n cap limit : ℕ) (terms : List ℕ) (a : Accepted (full_panel n) cap limit terms) (room : ℕ) where
  abbrev fs : List (Poly Mono)
  fs = system (records terms)

  pub unmarked_done : (j u : ℕ) (l : Finds) → plan bare n fs limit room cap ≡ done j u l → (k : ℕ) × (k ≤ u) × (plan (rules_of (full_panel n)) n fs limit room cap ≡ done j k l)
  unmarked_done j u l e =
      subst (NoMore (plan (rules_of (full_panel n)) n fs limit room cap)) ((order_done bare (allowing_orderly (λ m. true)) n fs cap limit room j u l).0 e)
      (unmarked_ends n cap limit terms a room)

  pub unmarked_none : (j u : ℕ) → plan bare n fs limit room cap ≡ none j u → (k : ℕ) × (k ≤ u) × (plan (rules_of (full_panel n)) n fs limit room cap ≡ none j k)
  unmarked_none j u e =
      subst (NoMore (plan (rules_of (full_panel n)) n fs limit room cap)) ((order_none bare (allowing_orderly (λ m. true)) n fs cap limit room j u).0 e)
      (unmarked_ends n cap limit terms a room)
