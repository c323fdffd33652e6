-- The steps of a set, as code that walks them one by one meets them: a run of two lists is the one and then the other, what opening a set and
-- trying a pair come to, and that the bound on the depth does not matter where it is large enough. Assumes nothing.
use mathlib.Core.Path.{◌≡◌, refl, sym, ap, ◌∙◌, subst}
use mathlib.Core.Bool.{Bool, true, false, cond}
use mathlib.Core.List.Memᴰ
use mathlib.Core.List.{List, [], ◌∷◌, ◌++◌}
use Prim.Native.Nat.{ℕ, zero, suc, ◌+◌, ◌<◌, ◌≤◌}
use native.Mathlib.Omega.{arith}
use borrow.Author.Tests.{leb-true, leb-false, le-leb, lt-leb}
use lib.Dec.{leb}
use lib.ListN.{length}
use Rattle.monomial.specs.Monomial.{Mono, width}
use Rattle.monomial.specs.Order.{before}
use Rattle.monomial.specs.Divisors.{pairs}
use Rattle.monomial.specs.Claims.{◌∈◌, Ascending}
use Rattle.monomial.proofs.Tests.{Tested, passed, failed, test, is→T}
use Rattle.monomial.proofs.Members.{gather_same}
use Rattle.wiring.specs.Poly.{Poly}
use Rattle.wiring.specs.Signals.{signals}
use Rattle.wiring.specs.Choice.{chosen}
use Rattle.wiring.specs.Answers.{missing}
use Rattle.walk.specs.Walk.{Finds, Rules, child, Taken, pair, opening, Step, found, other, opens, ends, tried, tried_all, after, opened, level, Run, ended, spent, full, kept, onward, run}
use Rattle.walk.specs.Claims.{Orderly}
use Rattle.walk.proofs.Rules.{tries_out, opens_fits}
use Rattle.walk.proofs.children.Laws.{chosen_in, child_asc, split_longer}

-- ---- runs one after the other
onward_cond : (b : Bool) (x y : Run) (next : ℕ → Finds → Run) → onward (cond b x y) next ≡ cond b (onward x next) (onward y next)
onward_cond true x y next = refl
onward_cond false x y next = refl

onward_chain : (r : Run) (f g h : ℕ → Finds → Run) → ((t : ℕ) (l : Finds) → f t l ≡ onward (g t l) h) → onward r f ≡ onward (onward r g) h
unfolding onward
onward_chain (ended t l) f g h e = e t l
onward_chain spent f g h e = refl
onward_chain (full t) f g h e = refl

-- a run of two lists of steps is the one and then the other
pub run_append : (limit room : ℕ) (es fs : List Step) (taken : ℕ) (finds : Finds) → run limit room (es ++ fs) taken finds ≡ onward (run limit room es taken finds) (run limit room fs)
unfolding run onward
run_append limit room [] fs taken finds = refl
run_append limit room (other x ∷ es) fs taken finds =
    ap (λ (r : Run). cond (leb limit taken) spent r) (run_append limit room es fs (suc taken) finds)
    ∙ sym (onward_cond (leb limit taken) spent (run limit room es (suc taken) finds) (run limit room fs))
run_append limit room (found s ∷ es) fs taken finds =
    let one = kept room s (suc taken) finds in
    ap (λ (r : Run). cond (leb limit taken) spent r) (onward_chain one (run limit room (es ++ fs)) (run limit room es) (run limit room fs) (run_append limit room es fs))
    ∙ sym (onward_cond (leb limit taken) spent (onward one (run limit room es)) (run limit room fs))

-- ---- one step
module _ (limit room : ℕ) (es : List Step) (taken : ℕ) (finds : Finds) where
  -- the next step would pass the limit
  pub run_stops : (e : Step) → limit ≤ taken → run limit room (e ∷ es) taken finds ≡ spent
  unfolding run
  run_stops (other x) h = rw (le-leb limit taken h)
  run_stops (found s) h = rw (le-leb limit taken h)

  pub run_other : (x : Taken) → taken < limit → run limit room (other x ∷ es) taken finds ≡ run limit room es (suc taken) finds
  unfolding run
  run_other x h = rw (lt-leb limit taken h)

  pub run_found : (s : List Mono) → taken < limit → run limit room (found s ∷ es) taken finds ≡ onward (kept room s (suc taken) finds) (run limit room es)
  unfolding run
  run_found s h = rw (lt-leb limit taken h)

-- a run and then nothing
onward_ends : (y : Run) → onward y ended ≡ y
unfolding onward
onward_ends (ended t l) = refl
onward_ends spent = refl
onward_ends (full t) = refl

pub run_last : (limit room : ℕ) (s : List Mono) (taken : ℕ) (finds : Finds) → taken < limit → run limit room (found s ∷ []) taken finds ≡ kept room s (suc taken) finds
unfolding run
run_last limit room s taken finds h = run_found limit room [] taken finds s h ∙ onward_ends (kept room s (suc taken) finds)

-- ---- the steps of a set
module _ (r : Rules) (n : ℕ) (fs : List (Poly Mono)) (k d : ℕ) (s : List Mono) where
  pub opened_found : missing n fs s ≡ [] → opened r n fs k (suc d) s ≡ found s ∷ []
  unfolding opened after
  opened_found e = rw e

  pub opened_ends : (m : Mono) (l : List Mono) → missing n fs s ≡ m ∷ l → ends r n k s (m ∷ l) ≡ true → opened r n fs k (suc d) s ≡ other (opening s) ∷ []
  unfolding opened after
  opened_ends m l e h = rw (e, h)

  pub opened_split : (m : Mono) (l : List Mono) → missing n fs s ≡ m ∷ l → ends r n k s (m ∷ l) ≡ false
      → opened r n fs k (suc d) s ≡ other (opening s) ∷ tried_all r n fs k (opened r n fs k d) s (chosen m l)
  unfolding opened after
  opened_split m l e h = rw (e, h)

-- ---- the steps of a pair
module _ (r : Rules) (n : ℕ) (fs : List (Poly Mono)) (k : ℕ) (below : List Mono → List Step) (s : List Mono) (p : Mono × Mono) where
  pub tried_open : opens r n k s p ≡ true → tried r n fs k below s p ≡ other pair ∷ below (child n s p)
  unfolding tried
  tried_open h = rw h

  pub tried_shut : opens r n k s p ≡ false → tried r n fs k below s p ≡ other pair ∷ []
  unfolding tried
  tried_shut h = rw h

-- ---- the steps of a level: those of the start, and none below its size
module _ (r : Rules) (n : ℕ) (fs : List (Poly Mono)) (k : ℕ) where
  pub level_opens : length r.start ≤ k → level r n fs k ≡ opened r n fs k (suc k) r.start
  unfolding level
  level_opens h = rw (le-leb (length r.start) k h)

  pub level_shut : k < length r.start → level r n fs k ≡ []
  unfolding level
  level_shut h = rw (lt-leb (length r.start) k h)

  pub level_out : (x : Step) → x ∈ level r n fs k → (length r.start ≤ k) × (x ∈ opened r n fs k (suc k) r.start)
  level_out x h = go (test (leb (length r.start) k))
    where
      go : Tested (leb (length r.start) k) → (length r.start ≤ k) × (x ∈ opened r n fs k (suc k) r.start)
      go (passed e) = let i : length r.start ≤ k = leb-true (length r.start) k e in (i, subst (λ l. x ∈ l) (level_opens i) h)
      go (failed e) = absurd (Memᴰ.not-nil (subst (λ l. x ∈ l) (level_shut (leb-false (length r.start) k e)) h))

-- ---- two walks alike, by the rules r of n variables and by r' of b, with f and g below: what a pair and what an opened set come to in both
module _ (r r' : Rules) (n b : ℕ) (fs : List (Poly Mono)) (k : ℕ) (f g : List Mono → List Step) (s : List Mono) where
  pub tried_alike : (p : Mono × Mono) → opens r n k s p ≡ opens r' b k s p → (opens r n k s p ≡ true → f (child n s p) ≡ g (child b s p))
      → tried r n fs k f s p ≡ tried r' b fs k g s p
  tried_alike p o e = go (test (opens r n k s p))
    where
      go : Tested (opens r n k s p) → tried r n fs k f s p ≡ tried r' b fs k g s p
      go (passed t) = tried_open r n fs k f s p t ∙ ap (λ (x : List Step). other pair ∷ x) (e t) ∙ sym (tried_open r' b fs k g s p (sym o ∙ t))
      go (failed t) = tried_shut r n fs k f s p t ∙ sym (tried_shut r' b fs k g s p (sym o ∙ t))

  pub after_alike : (m : Mono) (l : List Mono) → ends r n k s (m ∷ l) ≡ ends r' b k s (m ∷ l)
      → (ends r n k s (m ∷ l) ≡ false → r.tries (signals width n s) (chosen m l) ≡ r'.tries (signals width b s) (chosen m l))
      → (ends r n k s (m ∷ l) ≡ false → (p : Mono × Mono) → p ∈ r.tries (signals width n s) (chosen m l) → tried r n fs k f s p ≡ tried r' b fs k g s p)
      → after r n fs k f s (m ∷ l) ≡ after r' b fs k g s (m ∷ l)
  unfolding after
  after_alike m l stop order h = go (test (ends r n k s (m ∷ l)))
    where
      go : Tested (ends r n k s (m ∷ l)) → after r n fs k f s (m ∷ l) ≡ after r' b fs k g s (m ∷ l)
      go (passed t) = rw (t, sym stop ∙ t)
      go (failed t) =
          rw (t, sym stop ∙ t, ← order t)
          (ap (λ (x : List Step). other (opening s) ∷ x) (gather_same (tried r n fs k f s) (tried r' b fs k g s) (r.tries (signals width n s) (chosen m l)) (h t)))

-- ---- how deep the walk may go does not matter, where it may go deep enough
module _ (r : Rules) (o : Orderly r) (n : ℕ) (fs : List (Poly Mono)) (k : ℕ) where
  -- two walks that agree on every child that is opened
  after_same : (f g : List Mono → List Step) (s l : List Mono)
      → ((m : Mono) (p : Mono × Mono) → m ∈ l → p ∈ pairs m → length (child n s p) ≤ k → f (child n s p) ≡ g (child n s p))
      → after r n fs k f s l ≡ after r n fs k g s l
  unfolding after
  after_same f g s [] e = refl
  after_same f g s (m ∷ l) e =
      after_alike r r n n fs k f g s m l refl (λ go. refl)
      (λ go p h. tried_alike r r n n fs k f g s p refl
      (λ t. e (chosen m l) p (chosen_in m l) (tries_out r o (signals width n s) (chosen m l) p h) (opens_fits r n k s p (is→T (opens r n k s p) t))))

  pub deep : (d e : ℕ) (s : List Mono) → Ascending before s → length s ≤ k → k < length s + d → k < length s + e → opened r n fs k d s ≡ opened r n fs k e s
  unfolding opened
  deep zero e s a l h i = let z : ⊥ = omega arith in absurd z
  deep (suc d) zero s a l h i = let z : ⊥ = omega arith in absurd z
  deep (suc d) (suc e) s a l h i =
      after_same (opened r n fs k d) (opened r n fs k e) s (missing n fs s)
      (λ m p j q f.
      let w : length s < length (child n s p) = split_longer n fs s m a j p q in
      deep d e (child n s p) (child_asc n s p a) f (omega arith) (omega arith))
