-- What a plan of clean records says of quadratic sets, over Definition 1 itself and by any rules: of the lists of monomials of any powers, in any
-- order and with repeats, that hold the start and besides only what may be (`Counts`), no quadratic one has fewer members than the level reached;
-- done lists every quadratic set of that size and no other. By document 01's rules every list counts (`bare_extends`),
-- by those of a kit every one that it can build (`buildable_counts`). Assumes nothing.
use mathlib.Core.Path.{◌≡◌, refl, sym, subst}
use mathlib.Core.List.Memᴰ
use mathlib.Core.List.{List, [], ◌∷◌}
use Prim.Native.Nat.{ℕ, zero, suc, ◌<◌, ◌≤◌}
use native.Mathlib.Omega.{arith}
use borrow.Author.Tests.{leb-true, leb-false}
use lib.Dec.{leb}
use lib.ListN.{length}
use Rattle.monomial.specs.Lists.{arrange_by}
use Rattle.monomial.specs.Monomial.{Mono, width}
use Rattle.monomial.specs.Order.{same, before, before_set}
use Rattle.monomial.specs.Claims.{◌∈◌, ◌⊆◌, Ascending}
use Rattle.monomial.proofs.Tests.{Tested, passed, failed, test}
use Rattle.monomial.proofs.Members.{here}
use Rattle.monomial.proofs.order.Laws.{mono_order, set_order}
use Rattle.monomial.proofs.order.Ascending.{arrange_asc, arrange_in, arrange_out, arrange_length, sub_length, sub_equal}
use Rattle.wiring.specs.Panel.{cards}
use Rattle.wiring.specs.Poly.{Poly, plain}
use Rattle.wiring.specs.Derivative.{derivative}
use Rattle.wiring.specs.Signals.{signals}
use Rattle.wiring.specs.Sockets.{full_panel}
use Rattle.wiring.specs.Terms.{records, system, CleanFor}
use Rattle.wiring.specs.Answers.{missing}
use Rattle.wiring.specs.Claims.{Wide}
use Rattle.wiring.proofs.quadratic.Definition1.{definition1, quadratic_same}
use Rattle.wiring.proofs.terms.Laws.{clean_for}
use Rattle.walk.specs.Walk.{Finds, Rules, found, level}
use Rattle.walk.specs.Turns.{Walked}
use Rattle.walk.specs.Plan.{done, plan}
use Rattle.walk.specs.Claims.{Orderly, Extends, Counts, Sparing, distinct, Barren, Ends, QuadraticList, NoneSmaller, Listed, Smallest, Finished, Proper, Sound}
use Rattle.walk.proofs.Steps.{level_opens, level_out}
use Rattle.walk.proofs.Sound.{opened_sound, opened_recordable}
use Rattle.walk.proofs.Complete.{same_members, complete}
use Rattle.walk.proofs.Runs.{distinct_asc, distinct_in, distinct_out}
use Rattle.walk.proofs.Stops.{done_exact}

module _ (n : ℕ) (fs : List (Poly Mono)) where
  pub no_gap : (s : List Mono) → QuadraticList n (derivative plain fs) s → missing n fs s ≡ []
  no_gap s = (definition1 plain mono_order (signals width n s) (derivative plain fs)).0

  pub gapless : (s : List Mono) → missing n fs s ≡ [] → QuadraticList n (derivative plain fs) s
  gapless s = (definition1 plain mono_order (signals width n s) (derivative plain fs)).1

  -- ---- any list of monomials, by its members in order, each once
  abbrev arranged : List Mono → List Mono
  arranged s = arrange_by same before s

  arranged_wide : (s : List Mono) → Wide s → Wide (arranged s)
  arranged_wide s w x h = w x (arrange_out mono_order s h)

  arranged_extends : (r : Rules) (s t : List Mono) → Extends r s t → Extends r s (arranged t)
  arranged_extends r s t e = record { holds = λ x h. arrange_in mono_order t (e.holds x h); may = λ x h. e.may x (arrange_out mono_order t h) }

  pub arranged_quadratic : (s : List Mono) → QuadraticList n (derivative plain fs) s → missing n fs (arranged s) ≡ []
  arranged_quadratic s q = same_members n fs s (arranged s) (λ x h. arrange_in mono_order s h) (λ x h. arrange_out mono_order s h) (no_gap s q)

-- ---- rules that try every pair, close no set that is needed, and begin with an ascending set
module _ (r : Rules) (o : Orderly r) (begins : Ascending before r.start) (n : ℕ) (fs : List (Poly Mono)) (spares : Sparing r n fs) where
  -- no quadratic set that counts has fewer than k monomials
  abbrev Least : ℕ → Type 0
  Least k = (u : List Mono) → Ascending before u → Wide u → Counts r u → missing n fs u ≡ [] → k ≤ length u

  -- one of k monomials, where none is smaller, is found at level k
  level_has : (k : ℕ) (s : List Mono) → Ascending before s → Wide s → Counts r s → missing n fs s ≡ [] → length s ≡ k → Least k → found s ∈ level r n fs k
  level_has k s a w x q e least =
      let low : length r.start ≤ length s = sub_length mono_order r.start s begins a x.holds in
      subst (λ l. found s ∈ l) (sym (level_opens r n fs k (omega arith)))
      (complete r o n fs spares k s a w q (omega arith) (suc k) r.start
      (λ u b y sub z. let h : k ≤ length u = least u b (λ m i. w m (sub m i)) y z in omega arith)
      begins x (omega arith))

  -- so where no level below k has a find, none has fewer than k
  least : (k : ℕ) → Barren r n fs k → Least k
  least zero b s a w x q = omega arith
  least (suc k) b s a w x q = go (least k (λ i h. b i (omega arith))) (test (leb (suc k) (length s)))
    where
      go : Least k → Tested (leb (suc k) (length s)) → suc k ≤ length s
      go ih (passed p) = leb-true (suc k) (length s) p
      go ih (failed p) =
          let h : k ≤ length s = ih s a w x q in
          let i : length s < suc k = leb-false (suc k) (length s) p in
          let y : s ∈ distinct (level r n fs k) = distinct_in (level r n fs k) s (level_has k s a w x q (omega arith) ih) in
          absurd (Memᴰ.not-nil (subst (λ l. s ∈ l) (b k (omega arith)) y))

  pub none_smaller : (j : ℕ) → Barren r n fs j → NoneSmaller r n (derivative plain fs) j
  none_smaller j b s w x q =
      let u : List Mono = arranged n fs s in
      let h : j ≤ length u = least j b u (arrange_asc mono_order s) (arranged_wide n fs s w) (arranged_extends n fs r r.start s x) (arranged_quadratic n fs s q) in
      let l : length u ≤ length s = arrange_length same before s in
      omega arith

  -- each one of j members is found at level j
  pub all_found : (j : ℕ) → Barren r n fs j → (s : List Mono) → Wide s → Counts r s → QuadraticList n (derivative plain fs) s → length s ≡ j
      → arrange_by same before s ∈ distinct (level r n fs j)
  all_found j b s w x q e =
      let u : List Mono = arranged n fs s in
      let a : Ascending before u = arrange_asc mono_order s in
      let wu : Wide u = arranged_wide n fs s w in
      let xu : Counts r u = arranged_extends n fs r r.start s x in
      let qu : missing n fs u ≡ [] = arranged_quadratic n fs s q in
      let h : j ≤ length u = least j b u a wu xu qu in
      let l : length u ≤ length s = arrange_length same before s in
      distinct_in (level r n fs j) u (level_has j u a wu xu qu (omega arith) (least j b))

-- ---- the sets that done lists
-- a quadratic set, ascending, of that many monomials is listed as it stands
arranged_self : (s : List Mono) → Ascending before s → arrange_by same before s ≡ s
arranged_self s a =
    let into : s ⊆ arrange_by same before s = λ x h. arrange_in mono_order s h in
    let out : arrange_by same before s ⊆ s = λ x h. arrange_out mono_order s h in
    let asc = arrange_asc mono_order s in
    sub_equal mono_order (arrange_by same before s) s asc a out (sub_length mono_order s (arrange_by same before s) a asc into)

-- the size and the list are settled by this
module _ (r : Rules) (n : ℕ) (d : Mono → Poly Mono) where
  pub ascending_listed : (j : ℕ) (l : Finds) → Smallest r n d j l → (s : List Mono) → Ascending before s → Wide s → Counts r s
      → QuadraticList n d s → length s ≡ j → s ∈ l
  ascending_listed j l m s a w x q e = subst (λ u. u ∈ l) (arranged_self s a) (m.all s w x q e)

  no_larger : (j j' : ℕ) (l l' : Finds) → Smallest r n d j l → Smallest r n d j' l' → j ≤ j'
  no_larger j j' l [] m m' = absurd (m'.some refl)
  no_larger j j' l (s ∷ l') m m' =
      let x : Listed r n d j' s = m'.each s here in
      let h : j ≤ length s = m.none_smaller s x.recordable.wide x.extends x.quadratic in
      omega (arith, x.size)

  pub smallest_size : (j j' : ℕ) (l l' : Finds) → Smallest r n d j l → Smallest r n d j' l' → j ≡ j'
  smallest_size j j' l l' m m' = omega (arith, no_larger j j' l l' m m', no_larger j' j l' l m' m)

  inside : (j : ℕ) (l l' : Finds) → Smallest r n d j l → Smallest r n d j l' → l ⊆ l'
  inside j l l' m m' s h =
      let x : Listed r n d j s = m.each s h in
      ascending_listed j l' m' s x.recordable.permitted.ascends x.recordable.wide x.extends x.quadratic x.size

  pub smallest_one : (j : ℕ) (l l' : Finds) → Smallest r n d j l → Smallest r n d j l' → l ≡ l'
  smallest_one j l l' m m' =
      let back : length l' ≤ length l = sub_length set_order l' l m'.ascending m.ascending (inside j l' l m' m) in
      sub_equal set_order l l' m.ascending m'.ascending (inside j l l' m m') back

-- ---- plans of clean records, from a start that is a set of the walk
module _ (r : Rules) (o : Orderly r) (begins : Walked r.start) (n : ℕ) (proper : Proper n r.start) (terms : List ℕ) (few : n ≤ width)
    (clean : CleanFor n terms) (spares : Sparing r n (system (records terms))) (cap limit room : ℕ) (low : cap ≤ cards) where
  abbrev fs : List (Poly Mono)
  fs = system (records terms)

  each_listed : (j : ℕ) → j ≤ cards → Barren r n fs j → (s : List Mono) → found s ∈ level r n fs j → Listed r n (derivative plain fs) j s
  each_listed j h b s m =
      let at = level_out r n fs j (found s) m in
      let x : Sound r n terms j r.start s = opened_sound r o n terms (clean_for (full_panel n) width terms few clean) j h (suc j) r.start s begins at.0 at.1 in
      let k : j ≤ length s = least r o begins.recorded.ascending n fs spares j b s x.walked.recorded.ascending x.walked.recorded.wide x.extends x.quadratic in
      let short : length s ≤ j = x.short in
      record {
        recordable = opened_recordable r o n terms few clean j (suc j) h r.start s begins proper at.0 at.1;
        extends = x.extends;
        quadratic = gapless n fs s x.quadratic;
        size = omega arith;
      }

  pub plan_done : (j u : ℕ) (l : Finds) → plan r n fs limit room cap ≡ done j u l → Finished r n fs (derivative plain fs) cap limit room j u l
  plan_done j u l e =
      let f : Ends r n fs limit room cap j u l = (done_exact r n fs limit room cap j u l).0 e in
      let h : j ≤ cap = f.low in
      let asc : Ascending before r.start = begins.recorded.ascending in
      record {
        low = h;
        steps = f.steps;
        within = f.within;
        roomy = f.roomy;
        sets = record {
          none_smaller = none_smaller r o asc n fs spares j f.barren;
          all = λ s w x q k. subst (λ y. arrange_by same before s ∈ y) (sym f.sets) (all_found r o asc n fs spares j f.barren s w x q k);
          each = λ s m. each_listed j (omega arith) f.barren s (distinct_out (level r n fs j) s (subst (λ y. s ∈ y) f.sets m));
          ascending = subst (Ascending before_set) (sym f.sets) (distinct_asc (level r n fs j));
          some = f.some;
        };
      }

-- ---- the same is said by another derivation that agrees with it on V of every list that counts
module _ (r : Rules) (n : ℕ) (d e : Mono → Poly Mono) (same_on : (s : List Mono) → Counts r s → (z : Mono) → z ∈ signals width n s → d z ≡ e z) where
  quadratic_by : (s : List Mono) → Counts r s → QuadraticList n d s → QuadraticList n e s
  quadratic_by s x = quadratic_same plain (signals width n s) d e (same_on s x)

  quadratic_back : (s : List Mono) → Counts r s → QuadraticList n e s → QuadraticList n d s
  quadratic_back s x = quadratic_same plain (signals width n s) e d (λ z h. sym (same_on s x z h))

  none_smaller_by : (j : ℕ) → NoneSmaller r n d j → NoneSmaller r n e j
  none_smaller_by j f s w x q = f s w x (quadratic_back s x q)

  pub smallest_by : (j : ℕ) (l : Finds) → Smallest r n d j l → Smallest r n e j l
  smallest_by j l m = record {
    none_smaller = none_smaller_by j m.none_smaller;
    all = λ s w x q h. m.all s w x (quadratic_back s x q) h;
    each = λ s h. let x = m.each s h in record { recordable = x.recordable; extends = x.extends; quadratic = quadratic_by s x.extends x.quadratic; size = x.size };
    ascending = m.ascending;
    some = m.some;
  }

  pub finished_by : (fs : List (Poly Mono)) (cap limit room j u : ℕ) (l : Finds) → Finished r n fs d cap limit room j u l → Finished r n fs e cap limit room j u l
  finished_by fs cap limit room j u l f = record { low = f.low; steps = f.steps; within = f.within; roomy = f.roomy; sets = smallest_by j l f.sets }
