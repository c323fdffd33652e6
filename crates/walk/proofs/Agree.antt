-- Two walks that say the same of each set that the first of them opens are one walk: level by level, and so are their plans. By the rules r of n
-- variables, and by r' of b. Assumes nothing.
use mathlib.Core.Path.{◌≡◌, refl, sym, ap, ◌∙◌, subst}
use mathlib.Core.Bool.{false, cond}
use mathlib.Core.List.{List, [], ◌∷◌}
use Prim.Native.Nat.{ℕ, zero, suc, ◌+◌, ◌≤◌}
use native.Mathlib.Omega.{arith}
use lib.Dec.{T, leb}
use lib.ListN.{length}
use Rattle.monomial.specs.Monomial.{Mono, width}
use Rattle.monomial.specs.Divisors.{pairs}
use Rattle.monomial.specs.Claims.{◌∈◌}
use Rattle.monomial.proofs.Tests.{is→T}
use Rattle.wiring.specs.Poly.{Poly}
use Rattle.wiring.specs.Signals.{signals}
use Rattle.wiring.specs.Choice.{chosen}
use Rattle.wiring.specs.Answers.{missing}
use Rattle.walk.specs.Walk.{Rules, child, Step, opens, ends, after, opened, level, Run, ended, spent, full, run}
use Rattle.walk.specs.Plan.{Ending, settled, levels, plan}
use Rattle.walk.specs.Openings.{Inherited}
use Rattle.walk.specs.Claims.{Orderly, Agree}
use Rattle.walk.proofs.children.Laws.{chosen_in}
use Rattle.walk.proofs.Rules.{tries_out}
use Rattle.walk.proofs.Steps.{tried_alike, after_alike}

module _ (r r' : Rules) (o : Orderly r) (n b : ℕ) (fs : List (Poly Mono)) where
  -- ---- the steps of a level, where P holds of every set that it opens
  module _ (k : ℕ) (P : List Mono → Type 0) (keeps : Inherited r n fs k P) (says : (s : List Mono) → P s → Agree r r' n b fs k s) where
    -- what follows the opening of s, where its children agree
    after_agree : (f g : List Mono → List Step) (s : List Mono) (q : P s)
        → ((m : Mono) → m ∈ missing n fs s → (p : Mono × Mono) → p ∈ pairs m → T (opens r n k s p) → f (child n s p) ≡ g (child n s p))
        → (l : List Mono) → missing n fs s ≡ l → after r n fs k f s l ≡ after r' b fs k g s l
    unfolding after
    after_agree f g s q h [] e = refl
    after_agree f g s q h (m ∷ l) e =
        let a = says s q in
        let gap : chosen m l ∈ missing n fs s = subst (λ x. chosen m l ∈ x) (sym e) (chosen_in m l) in
        let on : ends r n k s (m ∷ l) ≡ false → ends r n k s (missing n fs s) ≡ false = λ t. ap (ends r n k s) e ∙ t in
        after_alike r r' n b fs k f g s m l (subst (λ (x : List Mono). ends r n k s x ≡ ends r' b k s x) e a.ending) (λ t. a.trying (on t) (chosen m l) gap)
        (λ t p i.
        let j : p ∈ pairs (chosen m l) = tries_out r o (signals width n s) (chosen m l) p i in
        let both = a.opening (on t) (chosen m l) gap p j in
        tried_alike r r' n b fs k f g s p both.0 (λ u. h (chosen m l) gap p j (is→T (opens r n k s p) u) ∙ ap g both.1))

    opened_agree : (d : ℕ) (s : List Mono) → P s → opened r n fs k d s ≡ opened r' b fs k d s
    unfolding opened
    opened_agree zero s q = refl
    opened_agree (suc d) s q =
        after_agree (opened r n fs k d) (opened r' b fs k d) s q (λ m h p i t. opened_agree d (child n s p) (keeps s m p q h i t)) (missing n fs s) refl
        ∙ ap (after r' b fs k (opened r' b fs k d) s) (says s q).gaps

    pub level_agree : r.start ≡ r'.start → P r.start → level r n fs k ≡ level r' b fs k
    unfolding level
    level_agree e q =
        ap (λ (x : List Step). cond (leb (length r.start) k) x []) (opened_agree (suc k) r.start q)
        ∙ ap (λ (s : List Mono). cond (leb (length s) k) (opened r' b fs k (suc k) s) []) e

  -- ---- the plan, where each level up to the cap is one
  -- what follows a level asks the levels above it only for what they come to
  settled_agree : (limit k : ℕ) (f g : ℕ → Ending) (x : Run) → ((t : ℕ) → f t ≡ g t) → settled limit k f x ≡ settled limit k g x
  unfolding settled
  settled_agree limit k f g (ended t []) e = e t
  settled_agree limit k f g (ended t (s ∷ l)) e = refl
  settled_agree limit k f g spent e = refl
  settled_agree limit k f g (full t) e = refl

  module _ (cap : ℕ) (same : (k : ℕ) → k ≤ cap → level r n fs k ≡ level r' b fs k) (limit room : ℕ) where
    levels_agree : (rest k taken : ℕ) → rest + k ≤ suc cap → levels r n fs limit room rest k taken ≡ levels r' b fs limit room rest k taken
    unfolding levels
    levels_agree zero k taken h = refl
    levels_agree (suc rest) k taken h =
        settled_agree limit k (levels r n fs limit room rest (suc k)) (levels r' b fs limit room rest (suc k)) (run limit room (level r n fs k) taken [])
        (λ t. levels_agree rest (suc k) t (omega arith))
        ∙ ap (λ (es : List Step). settled limit k (levels r' b fs limit room rest (suc k)) (run limit room es taken [])) (same k (omega arith))

    -- the sets, the steps and the level are the same
    pub plan_agree : plan r n fs limit room cap ≡ plan r' b fs limit room cap
    unfolding plan
    plan_agree = levels_agree (suc cap) 0 0 (omega arith)
