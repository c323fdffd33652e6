-- Closing sets after their opening step, by a test that closes no set that is needed (`Sparing`), leaves out only steps that find nothing: below a
-- closed set no set is found. So each level finds what it finds where nothing is closed, in no more steps. Assumes nothing.
use mathlib.Core.Path.{◌≡◌, refl, sym, ◌∙◌, subst}
use mathlib.Core.Bool.{false}
use mathlib.Core.List.{List, [], ◌∷◌}
use Prim.Native.Nat.{ℕ, zero, suc, ◌<◌, ◌≤◌}
use native.Mathlib.Omega.{arith}
use borrow.Author.Tests.{leb-true, leb-false}
use lib.Dec.{leb}
use lib.ListN.{length}
use Rattle.monomial.specs.Monomial.{Mono, width}
use Rattle.monomial.specs.Divisors.{pairs}
use Rattle.monomial.specs.Claims.{◌∈◌}
use Rattle.monomial.proofs.Tests.{Tested, passed, failed, test, is→T, is→n_t}
use Rattle.monomial.proofs.Members.{there}
use Rattle.wiring.specs.Panel.{cards}
use Rattle.wiring.specs.Poly.{Poly}
use Rattle.wiring.specs.Signals.{signals}
use Rattle.wiring.specs.Choice.{chosen}
use Rattle.wiring.specs.Answers.{missing}
use Rattle.wiring.specs.Terms.{records, system, CleanTerms}
use Rattle.walk.specs.Walk.{Rules, child, pair, opening, Step, found, other, opens, ends, tried, tried_all, opened, level}
use Rattle.walk.specs.Turns.{Walked}
use Rattle.walk.specs.Claims.{Orderly, Sparing, unclosed, Pruned, no_steps, same_step, Alike, Sound}
use Rattle.walk.proofs.Rules.{tries_out, extends_by, opens_fits, goes_on, at_its_level}
use Rattle.walk.proofs.Steps.{opened_found, opened_ends, opened_split, tried_open, tried_shut, level_opens, level_shut}
use Rattle.walk.proofs.Sound.{opened_sound}
use Rattle.walk.proofs.Complete.{not_closed}
use Rattle.walk.proofs.Alike.{pruned_self, pruned_all, pruned_gather, alike_of}
use Rattle.walk.proofs.children.Laws.{chosen_in, child_walked}

-- the same children are opened
opens_same : (r : Rules) (n k : ℕ) (s : List Mono) (p : Mono × Mono) → opens r n k s p ≡ opens (unclosed r) n k s p
unfolding opens
opens_same r n k s p = refl

module _ (r : Rules) (o : Orderly r) (n : ℕ) (terms : List ℕ) (clean : CleanTerms terms) (spares : Sparing r n (system (records terms))) (k : ℕ) (low : k ≤ cards) where
  abbrev fs : List (Poly Mono)
  fs = system (records terms)

  abbrev these : ℕ → List Mono → List Step
  these = opened r n fs k

  -- where nothing is closed
  abbrev those : ℕ → List Mono → List Step
  those = opened (unclosed r) n fs k

  -- the children of a set of the walk are such sets
  abbrev Below : ℕ → Type 0
  Below d = (c : List Mono) → Walked c → length c ≤ k → Pruned (these d c) (those d c)

  tried_pruned : (d : ℕ) → Below d → (s : List Mono) → Walked s → (m : Mono) → m ∈ missing n fs s → (p : Mono × Mono) → p ∈ pairs m
      → Pruned (tried r n fs k (these d) s p) (tried (unclosed r) n fs k (those d) s p)
  tried_pruned d below s w m gap p h = go (test (opens r n k s p))
    where
      go : Tested (opens r n k s p) → Pruned (tried r n fs k (these d) s p) (tried (unclosed r) n fs k (those d) s p)
      go (passed t) =
          let fits : length (child n s p) ≤ k = opens_fits r n k s p (is→T (opens r n k s p) t) in
          let on : Walked (child n s p) = child_walked terms clean n s w m gap p h (omega arith) in
          rw (tried_open r n fs k (these d) s p t, tried_open (unclosed r) n fs k (those d) s p (sym (opens_same r n k s p) ∙ t))
          (same_step (other pair) (below (child n s p) on fits))
      go (failed t) =
          rw (tried_shut r n fs k (these d) s p t, tried_shut (unclosed r) n fs k (those d) s p (sym (opens_same r n k s p) ∙ t)) (pruned_self (other pair ∷ []))

  -- a set of which a find is below goes on: it is inside the find
  found_on : (d : ℕ) (s t : List Mono) (m : Mono) (l : List Mono) → Walked s → length s < k → missing n fs s ≡ m ∷ l → found t ∈ those d s → ends r n k s (m ∷ l) ≡ false
  found_on d s t m l w h e f =
      let x : Sound (unclosed r) n terms k s t = opened_sound (unclosed r) o n terms clean k low d s t w (omega arith) f in
      not_closed r n fs spares k s t (m ∷ l) w.recorded.ascending x.walked.recorded.ascending x.walked.recorded.wide
      (extends_by (unclosed r) r (λ m t. t) s t x.extends) x.quadratic x.short e h

  -- a set that is not quadratic: it has k monomials; or it is closed, and nothing is found below it; or it goes on by both
  split_pruned : (d : ℕ) → Below d → (s : List Mono) → Walked s → (m : Mono) (l : List Mono) → missing n fs s ≡ m ∷ l → Pruned (these (suc d) s) (those (suc d) s)
  split_pruned d below s w m l e = go (test (leb k (length s))) (test (ends r n k s (m ∷ l)))
    where
      go : Tested (leb k (length s)) → Tested (ends r n k s (m ∷ l)) → Pruned (these (suc d) s) (those (suc d) s)
      go (passed h) b =
          let last : k ≤ length s = leb-true k (length s) h in
          rw (opened_ends r n fs k d s m l e (at_its_level r n k s (m ∷ l) last), opened_ends (unclosed r) n fs k d s m l e (at_its_level (unclosed r) n k s (m ∷ l) last))
          (pruned_self (other (opening s) ∷ []))
      go (failed h) (passed b) = rw (opened_ends r n fs k d s m l e b, split) (same_step (other (opening s)) (pruned_all rest (λ t f. none t (there f))))
        where
          rest : List Step
          rest = tried_all (unclosed r) n fs k (those d) s (chosen m l)

          split : those (suc d) s ≡ other (opening s) ∷ rest
          split = opened_split (unclosed r) n fs k d s m l e (goes_on (unclosed r) n k s (m ∷ l) (leb-false k (length s) h) refl)

          none : (t : List Mono) → found t ∈ (other (opening s) ∷ rest) → ⊥
          none t f =
              let on : ends r n k s (m ∷ l) ≡ false = found_on (suc d) s t m l w (leb-false k (length s) h) e (subst (λ es. found t ∈ es) (sym split) f) in
              is→n_t (ends r n k s (m ∷ l)) on (is→T (ends r n k s (m ∷ l)) b)
      go (failed h) (failed b) =
          let on : ends (unclosed r) n k s (m ∷ l) ≡ false = goes_on (unclosed r) n k s (m ∷ l) (leb-false k (length s) h) refl in
          let gap : chosen m l ∈ missing n fs s = subst (λ x. chosen m l ∈ x) (sym e) (chosen_in m l) in
          let v : List Mono = signals width n s in
          rw (opened_split r n fs k d s m l e b, opened_split (unclosed r) n fs k d s m l e on)
          (same_step (other (opening s))
          (pruned_gather (tried r n fs k (these d) s) (tried (unclosed r) n fs k (those d) s) (r.tries v (chosen m l))
          (λ p i. tried_pruned d below s w (chosen m l) gap p (tries_out r o v (chosen m l) p i))))

  opened_pruned : (d : ℕ) → Below d
  unfolding opened
  opened_pruned zero s w h = no_steps
  opened_pruned (suc d) s w h = go (missing n fs s) refl (opened_pruned d)
    where
      go : (l : List Mono) → missing n fs s ≡ l → Below d → Pruned (these (suc d) s) (those (suc d) s)
      go [] e ih = rw (opened_found r n fs k d s e, opened_found (unclosed r) n fs k d s e) (pruned_self (found s ∷ []))
      go (m ∷ l) e ih = split_pruned d ih s w m l e

  pub level_pruned : Walked r.start → Pruned (level r n fs k) (level (unclosed r) n fs k)
  level_pruned w = go (test (leb (length r.start) k))
    where
      go : Tested (leb (length r.start) k) → Pruned (level r n fs k) (level (unclosed r) n fs k)
      go (passed e) =
          let h : length r.start ≤ k = leb-true (length r.start) k e in
          rw (level_opens r n fs k h, level_opens (unclosed r) n fs k h) (opened_pruned (suc k) r.start w h)
      go (failed e) =
          let h : k < length r.start = leb-false (length r.start) k e in
          rw (level_shut r n fs k h, level_shut (unclosed r) n fs k h) no_steps

-- so plans end alike, in no more steps (`plan_alike`, `done_back`, `none_back`)
pub closing_alike : (r : Rules) → Orderly r → (n : ℕ) (terms : List ℕ) → CleanTerms terms → Sparing r n (system (records terms)) → Walked r.start
    → (cap : ℕ) → cap ≤ cards → Alike (unclosed r) r n (system (records terms)) cap
closing_alike r o n terms clean spares w cap low =
    alike_of (unclosed r) r n (system (records terms)) cap (λ k h. level_pruned r o n terms clean spares k (omega arith) w)
