-- An opened set is judged: at its level it is found or goes no further; below it what the counting rule says is what the panel's rules say.
-- Assumes nothing.
use mathlib.Core.Path.{◌≡◌, refl, sym, ap, ◌∙◌, subst}
use mathlib.Core.Bool.{Bool, true, false, cond}
use mathlib.Core.List.{List}
use Prim.Native.Nat.{ℕ, ◌+◌, ◌-◌, ◌/◌, ◌<◌, ◌≤◌}
use native.Mathlib.Omega.{arith}
use lib.ListN.{length}
use Rattle.monomial.specs.Lists.{some}
use Rattle.monomial.specs.Monomial.{Mono}
use Rattle.monomial.proofs.Tests.{is→n_t}
use Rattle.monomial.proofs.Members.{some_none}
use Rattle.monomial.proofs.Different.{ascending_different}
use Rattle.monomial.proofs.order.Laws.{mono_order}
use Rattle.wiring.specs.Panel.{set_bytes}
use Rattle.wiring.specs.Poly.{plain}
use Rattle.wiring.specs.Derivative.{derivative, Uncancelled}
use Rattle.wiring.specs.Quadratic.{nonsquares}
use Rattle.wiring.specs.Signals.{tabled, signals_at}
use Rattle.wiring.specs.Sockets.{can_build}
use Rattle.wiring.specs.Terms.{records, system, CleanTerms}
use Rattle.wiring.specs.declared.panel.Panel.{Panel}
use Rattle.wiring.proofs.signals.Laws.{signals_different}
use Rattle.counting.specs.Verdict.{Weighing, Judged}
use Rattle.counting.specs.declared.verdict.Verdict.{Verdict}
use Rattle.counting.specs.declared.verdict.Verdict.TheVariants as verdict
use Rattle.counting.proofs.verdict.Laws.{closes_some}
use Rattle.walk.specs.declared.walk.State.{State}
use Rattle.std.specs.Prelude.{Ok}
use Rattle.walk.specs.Walk.{Finds, Rules, kit_rules, ends, opened, Run, ended, run, kept}
use Rattle.walk.specs.Listing.{Shown}
use Rattle.walk.specs.Turns.{Openable, GoesOn, Weighed, NothingFollows, PairsFollow}
use Rattle.walk.proofs.Rules.{goes_on, at_its_level, closed_ends}
use Rattle.walk.proofs.walk.Laws.{signals_fit, open_none, open_stops}

module _ (panel : Panel) (terms : List ℕ) (level : ℕ) (set : List ℕ) (o : Openable panel.n level set) where
  abbrev own : List Mono
  own = tabled set

  abbrev v : List Mono
  v = signals_at panel.n set

  abbrev gaps : List Mono
  gaps = nonsquares plain v (derivative plain (system (records terms)))

  -- at its level: nothing is counted
  pub weighed_last : (r : Verdict) → r ≡ cond (some gaps) verdict.Closed verdict.Found → level ≤ length own → Weighed (kit_rules panel) panel.n terms level set r
  weighed_last r e h = subst (Weighed (kit_rules panel) panel.n terms level set) (sym e) (by_gaps (some gaps) refl)
    where
      by_gaps : (b : Bool) → some gaps ≡ b → Weighed (kit_rules panel) panel.n terms level set (cond b verdict.Closed verdict.Found)
      by_gaps true q = (q, at_its_level (kit_rules panel) panel.n level own gaps h)
      by_gaps false q = some_none gaps (is→n_t (some gaps) q)

  -- below it: what is asked of the counting rule
  module _ (below : length own < level) where
    pub weighing : CleanTerms terms → (cancels : Bool) → (cancels ≡ false → Uncancelled terms) → Weighing terms panel.n set cancels (level - length own)
    weighing clean cancels summed = record {
      clean = clean;
      few = o.few;
      fitting = signals_fit panel.n set o.walked;
      different = signals_different panel.n own (ascending_different mono_order own o.walked.recorded.ascending) o.new;
      summed = summed;
      low = omega arith;
      high = omega (arith, o.low);
      within = omega (arith, o.low);
    }

    -- and what it answers
    pub weighed_below : (r : Verdict) → Judged (can_build panel) (level - length own) v gaps r → Weighed (kit_rules panel) panel.n terms level set r
    weighed_below verdict.Found q = q
    weighed_below verdict.Closed q = (closes_some (can_build panel) (level - length own) v gaps q, closed_ends (kit_rules panel) panel.n level own gaps q)
    weighed_below (verdict.Split m) q = record {
      first = q.first;
      others = q.others;
      are = q.are;
      on = subst (λ (l : List Mono). ends (kit_rules panel) panel.n level own l ≡ false) q.are (goes_on (kit_rules panel) panel.n level own gaps below q.on);
      is = q.is;
    }

-- ---- what taking the step tells, by what the judge says
module _ (r : Rules) (n : ℕ) (terms : List ℕ) (level limit : ℕ) (set : List ℕ) (st : State) (out₀ : List ℕ) (taken : st.steps < limit) where
  abbrev walk : ℕ → Finds → Run
  walk d finds = run limit (length out₀ / set_bytes) (opened r n (system (records terms)) level d (tabled set)) st.steps finds

  -- found: the run is that of keeping it
  pub found_runs : Weighed r n terms level set verdict.Found → (d : ℕ) (finds : Finds) → 0 < d → walk d finds ≡ kept (length out₀ / set_bytes) (tabled set) (st.steps + 1) finds
  unfolding some
  found_runs w d finds p =
      open_none r n (system (records terms)) level limit (length out₀ / set_bytes) st.steps finds (tabled set) d p taken
      (subst (λ (l : List Mono). some l ≡ false) (sym w) refl)

  -- not found: it goes no further, or its pairs follow
  module _ (next : State) (one_more : next.steps ≡ st.steps + 1) (as_many : next.count ≡ st.count) where
    pub closed_steps : Weighed r n terms level set verdict.Closed → NothingFollows r n terms level limit set st out₀ (Ok next) out₀
    closed_steps w =
        λ d finds p sh. record {
          finds = finds;
          shown = subst (λ (c : ℕ). Shown finds c out₀) (sym as_many) sh;
          is = open_stops r n (system (records terms)) level limit (length out₀ / set_bytes) st.steps finds (tabled set) d p taken w.0 w.1
              ∙ ap (λ (k : ℕ). ended k finds) (sym one_more);
        }

    pub split_steps : (m : Mono) → GoesOn r n terms level set m → PairsFollow r n terms level limit set st out₀ m next out₀
    split_steps m w = record { taken = taken; goes = w; steps = one_more; count = as_many; kept = refl }
