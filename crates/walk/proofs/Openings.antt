-- The steps of an opened set, by any rules, each of one origin: the set's own, a pair of it, or below a child that is opened. So whatever each
-- child keeps of its set, each set that a step opens keeps; and a level opens the start and the children of what it opens, no other set.
-- Assumes nothing.
use mathlib.Core.Path.{◌≡◌, refl, sym, ◌∙◌, subst}
use mathlib.Core.Logic.{◌⊎◌, inl, inr, ⊎_elim, ◌↔◌}
use mathlib.Core.Bool.{false}
use mathlib.Core.List.Memᴰ
use mathlib.Core.List.{List, [], ◌∷◌}
use Prim.Native.Nat.{ℕ, zero, suc, ◌+◌, ◌<◌, ◌≤◌}
use native.Mathlib.Omega.{arith}
use lib.ListN.{length}
use Rattle.monomial.specs.Monomial.{Mono, width}
use Rattle.monomial.specs.Order.{before}
use Rattle.monomial.specs.Divisors.{pairs}
use Rattle.monomial.specs.Claims.{◌∈◌, ◌⊆◌, Ascending}
use Rattle.monomial.proofs.Tests.{Tested, passed, failed, test, is→T}
use Rattle.monomial.proofs.Members.{here, there, gather_in, gather_out, Gathered}
use Rattle.wiring.specs.Poly.{Poly}
use Rattle.wiring.specs.Choice.{chosen}
use Rattle.wiring.specs.Signals.{signals}
use Rattle.wiring.specs.Answers.{missing}
use Rattle.walk.specs.Walk.{Finds, Rules, child, pair, opening, Step, found, other, opens, ends, tried, tried_all, opened, level}
use Rattle.walk.specs.Openings.{opened_by, openings, Branch, ChildOf, Inherited, StepHolds}
use Rattle.walk.specs.Claims.{Orderly}
use Rattle.walk.proofs.Rules.{tries_in, tries_out, opens_fits}
use Rattle.walk.proofs.Steps.{opened_found, opened_ends, opened_split, tried_open, tried_shut, level_opens, level_out}
use Rattle.walk.proofs.children.Laws.{chosen_in, child_asc, split_longer}

-- the one entry of a list
only : {A : Type 0} {x y : A} → x ∈ (y ∷ []) → x ≡ y
only h = ⊎_elim (λ e. e) (λ j. absurd (Memᴰ.not-nil j)) (Memᴰ.cases_cons h)

module _ (r : Rules) (n : ℕ) (fs : List (Poly Mono)) (k : ℕ) where
  parted_gap : (s : List Mono) (p : Mono × Mono) (q : Branch r n fs k s p) → chosen q.first q.others ∈ missing n fs s
  parted_gap s p q = subst (λ l. chosen q.first q.others ∈ l) (sym q.are) (chosen_in q.first q.others)

  -- a set without nonsquares is found
  pub find_in : (d : ℕ) (s : List Mono) → missing n fs s ≡ [] → found s ∈ opened r n fs k (suc d) s
  find_in d s e = subst (λ es. found s ∈ es) (sym (opened_found r n fs k d s e)) here

  -- where a step x of the opened set s comes from
  data From (d : ℕ) (s : List Mono) (x : Step) : Type 0 where
    own_find : missing n fs s ≡ [] → x ≡ found s → From d s x
    own : (m : Mono) (l : List Mono) → missing n fs s ≡ m ∷ l → x ≡ other (opening s) → From d s x
    own_pair : x ≡ other pair → From d s x
    below : (p : Mono × Mono) → Branch r n fs k s p → x ∈ opened r n fs k d (child n s p) → From d s x

module _ (r : Rules) (o : Orderly r) (n : ℕ) (fs : List (Poly Mono)) (k : ℕ) where
  tried_from : (d : ℕ) (s : List Mono) (x : Step) (m : Mono) (l : List Mono) (p : Mono × Mono) → missing n fs s ≡ m ∷ l → ends r n k s (m ∷ l) ≡ false
      → p ∈ pairs (chosen m l) → x ∈ tried r n fs k (opened r n fs k d) s p → From r n fs k d s x
  tried_from d s x m l p e g i h = go (test (opens r n k s p))
    where
      go : Tested (opens r n k s p) → From r n fs k d s x
      go (passed t) =
          ⊎_elim (λ q. own_pair q) (λ j. below p (record { first = m; others = l; are = e; on = g; listed = i; taken = t }) j)
          (Memᴰ.cases_cons (subst (λ es. x ∈ es) (tried_open r n fs k (opened r n fs k d) s p t) h))
      go (failed t) = own_pair (only (subst (λ es. x ∈ es) (tried_shut r n fs k (opened r n fs k d) s p t) h))

  step_from : (d : ℕ) (s : List Mono) (x : Step) → x ∈ opened r n fs k (suc d) s → From r n fs k d s x
  step_from d s x h = go (missing n fs s) refl
    where
      split : (m : Mono) (l : List Mono) → missing n fs s ≡ m ∷ l → Tested (ends r n k s (m ∷ l)) → From r n fs k d s x
      split m l e (passed b) = own m l e (only (subst (λ es. x ∈ es) (opened_ends r n fs k d s m l e b) h))
      split m l e (failed b) = ⊎_elim (own m l e) later (Memᴰ.cases_cons (subst (λ es. x ∈ es) (opened_split r n fs k d s m l e b) h))
        where
          later : x ∈ tried_all r n fs k (opened r n fs k d) s (chosen m l) → From r n fs k d s x
          later j =
              let two : List (Mono × Mono) = r.tries (signals width n s) (chosen m l) in
              let g : Gathered (tried r n fs k (opened r n fs k d) s) x two = gather_out (tried r n fs k (opened r n fs k d) s) two j in
              tried_from d s x m l g.entry e b (tries_out r o (signals width n s) (chosen m l) g.entry g.member) g.inside

      go : (l : List Mono) → missing n fs s ≡ l → From r n fs k d s x
      go [] e = own_find e (only (subst (λ es. x ∈ es) (opened_found r n fs k d s e) h))
      go (m ∷ l) e = split m l e (test (ends r n k s (m ∷ l)))

  -- and the steps below a child that is opened are steps of the set
  pub below_in : (d : ℕ) (s : List Mono) (p : Mono × Mono) (x : Step) → Branch r n fs k s p → x ∈ opened r n fs k d (child n s p)
      → x ∈ opened r n fs k (suc d) s
  below_in d s p x q h =
      let m : Mono = chosen q.first q.others in
      let two : List (Mono × Mono) = r.tries (signals width n s) m in
      let own : x ∈ tried r n fs k (opened r n fs k d) s p = subst (λ es. x ∈ es) (sym (tried_open r n fs k (opened r n fs k d) s p q.taken)) (there h) in
      let later = gather_in (tried r n fs k (opened r n fs k d) s) two (tries_in r o (signals width n s) m p q.listed) own in
      subst (λ es. x ∈ es) (sym (opened_split r n fs k d s q.first q.others q.are q.on)) (there later)

  -- ---- what each child keeps of its set, each opened set keeps; and exactly the quadratic ones are found
  pub steps_keep : (P : List Mono → Type 0) → Inherited r n fs k P → (d : ℕ) (s : List Mono) (x : Step) → P s → x ∈ opened r n fs k d s → StepHolds n fs P x
  unfolding opened
  steps_keep P keeps zero s x p h = absurd (Memᴰ.not-nil h)
  steps_keep P keeps (suc d) s x p h = go (step_from d s x h) (λ c. steps_keep P keeps d c x)
    where
      some : (m : Mono) (l : List Mono) → missing n fs s ≡ m ∷ l → missing n fs s ≡ [] → ⊥
      some m l e f = Memᴰ.not-nil (subst (λ (y : List Mono). m ∈ y) (sym e ∙ f) here)

      go : From r n fs k d s x → ((c : List Mono) → P c → x ∈ opened r n fs k d c → StepHolds n fs P x) → StepHolds n fs P x
      go (own_find e q) ih = subst (StepHolds n fs P) (sym q) (p, e)
      go (own m l e q) ih = subst (StepHolds n fs P) (sym q) (p, some m l e)
      go (own_pair q) ih = subst (StepHolds n fs P) (sym q) tt
      go (below c q j) ih =
          ih (child n s c) (keeps s (chosen q.first q.others) c p (parted_gap r n fs k s c q) q.listed (is→T (opens r n k s c) q.taken)) j

  openings_keep : (P : List Mono → Type 0) (x : Step) (t : List Mono) → t ∈ opened_by x → StepHolds n fs P x → P t
  openings_keep P (found u) t i h = subst P (sym (only i)) h.0
  openings_keep P (other (opening u)) t i h = subst P (sym (only i)) h.0
  openings_keep P (other pair) t i h = absurd (Memᴰ.not-nil i)

  pub opened_keep : (P : List Mono → Type 0) → Inherited r n fs k P → P r.start → (t : List Mono) → t ∈ openings (level r n fs k) → P t
  opened_keep P keeps p t h =
      let g : Gathered opened_by t (level r n fs k) = gather_out opened_by (level r n fs k) h in
      openings_keep P g.entry t g.inside (steps_keep P keeps (suc k) r.start g.entry p (level_out r n fs k g.entry g.member).1)

  -- ---- the sets that a level opens: the start, and the children of sets that it opens
  -- a set that is opened opens itself
  self_opened : (d : ℕ) (s : List Mono) → 0 < d → s ∈ openings (opened r n fs k d s)
  self_opened zero s h = let z : ⊥ = omega arith in absurd z
  self_opened (suc d) s h = go (missing n fs s) refl
    where
      first : (x : Step) (es : List Step) → s ∈ opened_by x → opened r n fs k (suc d) s ≡ x ∷ es → s ∈ openings (opened r n fs k (suc d) s)
      first x es i e = subst (λ l. s ∈ openings l) (sym e) (gather_in opened_by (x ∷ es) here i)

      split : (m : Mono) (l : List Mono) → missing n fs s ≡ m ∷ l → Tested (ends r n k s (m ∷ l)) → s ∈ openings (opened r n fs k (suc d) s)
      split m l e (passed b) = first (other (opening s)) [] here (opened_ends r n fs k d s m l e b)
      split m l e (failed b) = first (other (opening s)) (tried_all r n fs k (opened r n fs k d) s (chosen m l)) here (opened_split r n fs k d s m l e b)

      go : (l : List Mono) → missing n fs s ≡ l → s ∈ openings (opened r n fs k (suc d) s)
      go [] e = first (found s) [] here (opened_found r n fs k d s e)
      go (m ∷ l) e = split m l e (test (ends r n k s (m ∷ l)))

  -- what is opened below a child that is opened is opened
  below_opened : (d : ℕ) (s : List Mono) (p : Mono × Mono) → Branch r n fs k s p
      → openings (opened r n fs k d (child n s p)) ⊆ openings (opened r n fs k (suc d) s)
  below_opened d s p q t h =
      let es : List Step = opened r n fs k d (child n s p) in
      let g : Gathered opened_by t es = gather_out opened_by es h in
      gather_in opened_by (opened r n fs k (suc d) s) (below_in d s p g.entry q g.member) g.inside

  -- a set that is opened with s is s, or is opened below a child
  record Deeper (d : ℕ) (s t : List Mono) : Type 0 where
    by : Mono × Mono
    parted : Branch r n fs k s by
    inside : t ∈ openings (opened r n fs k d (child n s by))

  opening_from : (d : ℕ) (s t : List Mono) → t ∈ openings (opened r n fs k (suc d) s) → (t ≡ s) ⊎ Deeper d s t
  opening_from d s t h = go (step_from d s g.entry g.member)
    where
      g : Gathered opened_by t (opened r n fs k (suc d) s)
      g = gather_out opened_by (opened r n fs k (suc d) s) h

      by_step : (x : Step) → g.entry ≡ x → t ∈ opened_by x
      by_step x e = subst (λ (y : Step). t ∈ opened_by y) e g.inside

      go : From r n fs k d s g.entry → (t ≡ s) ⊎ Deeper d s t
      go (own_find e q) = inl (only (by_step (found s) q))
      go (own m l e q) = inl (only (by_step (other (opening s)) q))
      go (own_pair q) = absurd (Memᴰ.not-nil (by_step (other pair) q))
      go (below p q j) = inr (record { by = p; parted = q; inside = gather_in opened_by (opened r n fs k d (child n s p)) j g.inside })

  none_opened : (s t : List Mono) → t ∈ openings (opened r n fs k zero s) → ⊥
  unfolding opened
  none_opened s t h = Memᴰ.not-nil (gather_out opened_by (opened r n fs k zero s) h).member

  child_of_more : (a b : Finds) (t : List Mono) → a ⊆ b → ChildOf r n fs k a t → ChildOf r n fs k b t
  child_of_more a b t f c = record { of = c.of; of_in = f c.of c.of_in; by = c.by; parted = c.parted; is = c.is }

  opened_out : (d : ℕ) (s t : List Mono) → t ∈ openings (opened r n fs k d s) → (t ≡ s) ⊎ ChildOf r n fs k (openings (opened r n fs k d s)) t
  opened_out zero s t h = absurd (none_opened s t h)
  opened_out (suc d) s t h = ⊎_elim (λ e. inl e) (λ x. inr (later x (opened_out d (child n s x.by) t x.inside))) (opening_from d s t h)
    where
      later : (x : Deeper d s t) → (t ≡ child n s x.by) ⊎ ChildOf r n fs k (openings (opened r n fs k d (child n s x.by))) t
          → ChildOf r n fs k (openings (opened r n fs k (suc d) s)) t
      later x =
          let c : List Mono = child n s x.by in
          ⊎_elim
          (λ e. record { of = s; of_in = self_opened (suc d) s (omega arith); by = x.by; parted = x.parted; is = e })
          (child_of_more (openings (opened r n fs k d c)) (openings (opened r n fs k (suc d) s)) t (below_opened d s x.by x.parted))

  -- a bound on the depth that is large enough for s is large enough for a child, less one
  module _ (d : ℕ) (s : List Mono) (a : Ascending before s) (deep : k < length s + suc d) (p : Mono × Mono) (q : Branch r n fs k s p) where
    child_deep : k < length (child n s p) + d
    child_deep = let l : length s < length (child n s p) = split_longer n fs s (chosen q.first q.others) a (parted_gap r n fs k s p q) p q.listed in omega arith

    child_opened : child n s p ∈ openings (opened r n fs k (suc d) s)
    child_opened =
        let fits : length (child n s p) ≤ k = opens_fits r n k s p (is→T (opens r n k s p) q.taken) in
        below_opened d s p q (child n s p) (self_opened d (child n s p) (omega (arith, child_deep)))

  opened_in : (d : ℕ) (s : List Mono) → Ascending before s → k < length s + d → (t : List Mono) (p : Mono × Mono)
      → t ∈ openings (opened r n fs k d s) → Branch r n fs k t p → child n t p ∈ openings (opened r n fs k d s)
  opened_in zero s a deep t p h q = absurd (none_opened s t h)
  opened_in (suc d) s a deep t p h q =
      ⊎_elim
      (λ e. rw e (child_opened d s a deep p (rw e at q)))
      (λ x.
      let c : List Mono = child n s x.by in
      let ac : Ascending before c = child_asc n s x.by a in
      let more : k < length c + d = child_deep d s a deep x.by x.parted in
      below_opened d s x.by x.parted (child n t p) (opened_in d c ac more t p x.inside q))
      (opening_from d s t h)

  pub opened_exact : Ascending before r.start → (t : List Mono)
      → (t ∈ openings (level r n fs k)) ↔ (((length r.start ≤ k) × (t ≡ r.start)) ⊎ ChildOf r n fs k (openings (level r n fs k)) t)
  opened_exact a t = (out, ⊎_elim start step)
    where
      out : t ∈ openings (level r n fs k) → ((length r.start ≤ k) × (t ≡ r.start)) ⊎ ChildOf r n fs k (openings (level r n fs k)) t
      out h =
          let g : Gathered opened_by t (level r n fs k) = gather_out opened_by (level r n fs k) h in
          let i = (level_out r n fs k g.entry g.member).0 in
          let same = level_opens r n fs k i in
          ⊎_elim
          (λ e. inl (i, e))
          (λ c. inr (subst (λ (l : List Step). ChildOf r n fs k (openings l) t) (sym same) c))
          (opened_out (suc k) r.start t (subst (λ (l : List Step). t ∈ openings l) same h))

      start : (length r.start ≤ k) × (t ≡ r.start) → t ∈ openings (level r n fs k)
      start h =
          subst (λ (l : List Step). t ∈ openings l) (sym (level_opens r n fs k h.0))
          (subst (λ (u : List Mono). u ∈ openings (opened r n fs k (suc k) r.start)) (sym h.1) (self_opened (suc k) r.start (omega arith)))

      step : ChildOf r n fs k (openings (level r n fs k)) t → t ∈ openings (level r n fs k)
      step c =
          let g : Gathered opened_by c.of (level r n fs k) = gather_out opened_by (level r n fs k) c.of_in in
          let same = level_opens r n fs k (level_out r n fs k g.entry g.member).0 in
          subst (λ (u : List Mono). u ∈ openings (level r n fs k)) (sym c.is)
          (subst (λ (l : List Step). child n c.of c.by ∈ openings l) (sym same)
          (opened_in (suc k) r.start a (omega arith) c.of c.by (subst (λ (l : List Step). c.of ∈ openings l) same c.of_in) c.parted))
