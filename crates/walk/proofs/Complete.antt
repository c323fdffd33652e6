-- The walk misses no smallest quadratic set that its rules admit: below a set s that stands inside a quadratic set t, of any powers, whose further
-- monomials may be, a quadratic set inside t is found; where t holds no smaller one, it is t. Assumes nothing.
use mathlib.Core.Path.{◌≡◌, refl, sym, ◌∙◌, subst}
use mathlib.Core.Bool.{true, false}
use mathlib.Core.Logic.{◌⊎◌, inl, inr, ⊎_elim}
use mathlib.Core.List.Memᴰ
use mathlib.Core.List.{List, [], ◌∷◌}
use Prim.Native.Nat.{ℕ, zero, suc, ◌+◌, ◌-◌, ◌<◌, ◌≤◌}
use native.Mathlib.Omega.{arith}
use lib.Dec.{T}
use lib.ListN.{length}
use Rattle.monomial.specs.Monomial.{Mono, width}
use Rattle.monomial.specs.Order.{before}
use Rattle.monomial.specs.Product.{mul}
use Rattle.monomial.specs.Divisors.{pairs}
use Rattle.monomial.specs.Claims.{◌∈◌, ◌⊆◌, Ascending}
use Rattle.monomial.proofs.Tests.{Tested, passed, failed, test, T→is, is→T, n_t→is, is→n_t}
use Rattle.monomial.proofs.order.Laws.{mono_order}
use Rattle.monomial.proofs.order.Ascending.{sub_length, sub_equal}
use Rattle.monomial.proofs.divisors.Pairs.{pairs_either}
use Rattle.wiring.specs.Poly.{Poly, plain, support}
use Rattle.wiring.specs.Derivative.{derivative}
use Rattle.wiring.specs.Quadratic.{in_v2}
use Rattle.wiring.specs.Signals.{signals}
use Rattle.wiring.specs.Choice.{chosen}
use Rattle.wiring.specs.Answers.{missing}
use Rattle.wiring.specs.Claims.{Wide}
use Rattle.wiring.proofs.quadratic.Laws.{Factors, in_v2_in, in_v2_out, unmet_in, unmet_out, Nonsquare, nonsquares_in, nonsquares_out}
use Rattle.wiring.proofs.quadratic.Definition1.{no_members}
use Rattle.wiring.proofs.signals.Laws.{base_in, signals_cases, signals_wide}
use Rattle.walk.specs.Walk.{Rules, child, found, ends, opened}
use Rattle.walk.specs.Openings.{Branch}
use Rattle.walk.specs.Claims.{Orderly, Extends, Sparing, Reached}
use Rattle.walk.proofs.Rules.{extends_self, extends_on, extends_lower, extends_upper, opens_is, goes_on}
use Rattle.walk.proofs.Openings.{below_in, find_in}
use Rattle.walk.proofs.children.Laws.{chosen_in, signals_grow, Grown, old, left, right, child_sub, child_out, child_asc, split_longer}

module _ (n : ℕ) (fs : List (Poly Mono)) where
  -- ---- where t has no nonsquare, each monomial of a derivative of its V is a product
  pub met : (t : List Mono) → missing n fs t ≡ [] → (z m : Mono) → z ∈ signals width n t → m ∈ support plain (derivative plain fs z)
      → Factors plain mono_order (signals width n t) m
  met t q z m hz hm = go (test (in_v2 plain v m))
    where
      v : List Mono
      v = signals width n t

      go : Tested (in_v2 plain (signals width n t) m) → Factors plain mono_order (signals width n t) m
      go (passed e) = in_v2_out plain mono_order v m (is→T (in_v2 plain v m) e)
      go (failed e) =
          let u = unmet_in plain mono_order v (derivative plain fs z) m hm (is→n_t (in_v2 plain v m) e) in
          absurd (Memᴰ.not-nil (subst (λ l. m ∈ l) q (nonsquares_in plain mono_order v (derivative plain fs) z m hz u)))

  -- two lists with the same members have nonsquares or not together
  pub same_members : (s t : List Mono) → s ⊆ t → t ⊆ s → missing n fs s ≡ [] → missing n fs t ≡ []
  same_members s t st ts e = no_members (missing n fs t) clash
    where
      v : List Mono
      v = signals width n t

      clash : (m : Mono) → m ∈ missing n fs t → ⊥
      clash m h =
          let w : Nonsquare plain mono_order v (derivative plain fs) m = nonsquares_out plain mono_order v (derivative plain fs) m h in
          let u = unmet_out plain mono_order v (derivative plain fs w.of) m w.missing in
          let f : Factors plain mono_order (signals width n s) m = met s e w.of m (signals_grow n t s ts w.of w.of_in) u.0 in
          let grow : signals width n s ⊆ v = signals_grow n s t st in
          u.1 (in_v2_in plain mono_order v m (record { a = f.a; b = f.b; a_in = grow f.a f.a_in; b_in = grow f.b f.b_in; is = f.is }))

  -- ---- a step towards t: a pair whose child stays inside t and is longer
  pub record Towards (s t : List Mono) (m : Mono) : Type 0 where
    pub pair : Mono × Mono
    pub listed : pair ∈ pairs m
    pub within : child n s pair ⊆ t
    pub longer : length s < length (child n s pair)

  inside : (s t : List Mono) (p : Mono × Mono) → s ⊆ t → p.0 ∈ signals width n t → p.1 ∈ signals width n t → child n s p ⊆ t
  inside s t p sub hl hr x h = go (child_out n s p h)
    where
      in_t : x ∈ signals width n t → (x ∈ signals width n s → ⊥) → x ∈ t
      in_t k f = ⊎_elim (λ b. absurd (f (base_in n s b))) (λ j. j) (signals_cases n t k)

      go : Grown n s p x → x ∈ t
      go (old k) = sub x k
      go (left e f) = in_t (Memᴰ.cast e hl) f
      go (right e f) = in_t (Memᴰ.cast e hr) f

  -- the factors of a nonsquare of s in V of t are a pair of it
  pub towards : (s t : List Mono) (m : Mono) → Ascending before s → s ⊆ t → Wide t → missing n fs t ≡ [] → m ∈ missing n fs s → Towards s t m
  towards s t m a sub z q h = go (pairs_either f.a f.b (wide f.a f.a_in ∙ sym (wide f.b f.b_in)))
    where
      v : List Mono
      v = signals width n s

      w : Nonsquare plain mono_order (signals width n s) (derivative plain fs) m
      w = nonsquares_out plain mono_order v (derivative plain fs) m h

      f : Factors plain mono_order (signals width n t) m
      f = met t q w.of m (signals_grow n s t sub w.of w.of_in) (unmet_out plain mono_order v (derivative plain fs w.of) m w.missing).0

      wide : (x : Mono) → x ∈ signals width n t → length x ≡ width
      wide = signals_wide n t z

      make : (p : Mono × Mono) → p ∈ pairs m → p.0 ∈ signals width n t → p.1 ∈ signals width n t → Towards s t m
      make p k hl hr = record { pair = p; listed = k; within = inside s t p sub hl hr; longer = split_longer n fs s m a h p k }

      go : ((f.a, f.b) ∈ pairs (mul f.a f.b)) ⊎ ((f.b, f.a) ∈ pairs (mul f.a f.b)) → Towards s t m
      go (inl k) = make (f.a, f.b) (subst (λ x. (f.a, f.b) ∈ pairs x) f.is k) f.a_in f.b_in
      go (inr k) = make (f.b, f.a) (subst (λ x. (f.b, f.a) ∈ pairs x) f.is k) f.b_in f.a_in

-- ---- the walk by rules that try every pair and close no set that is needed
module _ (r : Rules) (n : ℕ) (fs : List (Poly Mono)) (spares : Sparing r n fs) (k : ℕ) where
  -- a set inside a quadratic one for which the level has room goes on
  pub not_closed : (s t l : List Mono) → Ascending before s → Ascending before t → Wide t → Extends r s t → missing n fs t ≡ [] → length t ≤ k
      → missing n fs s ≡ l → length s < k → ends r n k s l ≡ false
  not_closed s t l a at wide ext q ht e hs =
      let shut : r.closed (k - length s) (signals width n s) (missing n fs s) ≡ true → ⊥ = spares (k - length s) s t a at wide ext q (omega arith) in
      goes_on r n k s l hs
      (n_t→is (r.closed (k - length s) (signals width n s) l)
      (λ x. shut (T→is (r.closed (k - length s) (signals width n s) (missing n fs s)) (subst (λ u. T (r.closed (k - length s) (signals width n s) u)) (sym e) x))))

module _ (r : Rules) (o : Orderly r) (n : ℕ) (fs : List (Poly Mono)) (spares : Sparing r n fs) (k : ℕ) where
  pub reached : (t : List Mono) → Ascending before t → Wide t → missing n fs t ≡ [] → length t ≤ k
      → (d : ℕ) (s : List Mono) → Ascending before s → Extends r s t → k < length s + d → Reached r n fs k t d s
  reached t at wide q ht zero s a ext h = let i : length s ≤ length t = sub_length mono_order s t a at ext.holds in let z : ⊥ = omega arith in absurd z
  reached t at wide q ht (suc d) s a ext h = go (missing n fs s) refl (reached t at wide q ht d)
    where
      go : (l : List Mono) → missing n fs s ≡ l → ((c : List Mono) → Ascending before c → Extends r c t → k < length c + d → Reached r n fs k t d c) → Reached r n fs k t (suc d) s
      go [] e ih = record { set = s; ascending = a; extends = extends_self r s; within = ext.holds; quadratic = e; listed = find_in r n fs k d s e }
      go (m ∷ l) e ih =
          let gap : chosen m l ∈ missing n fs s = subst (λ u. chosen m l ∈ u) (sym e) (chosen_in m l) in
          let w : Towards n fs s t (chosen m l) = towards n fs s t (chosen m l) a ext.holds wide q gap in
          let c : List Mono = child n s w.pair in
          let up : s ⊆ c = child_sub n s w.pair in
          let ac : Ascending before c = child_asc n s w.pair a in
          let lc : length c ≤ length t = sub_length mono_order c t ac at w.within in
          let lw : length s < length c = w.longer in
          let own : Extends r s c = extends_lower r s c t ext up w.within in
          let x : Reached r n fs k t d c = ih c ac (extends_upper r s c t ext up w.within) (omega arith) in
          let on : ends r n k s (m ∷ l) ≡ false = not_closed r n fs spares k s t (m ∷ l) a at wide ext q ht e (omega arith) in
          let parted : Branch r n fs k s w.pair =
          record { first = m; others = l; are = e; on = on; listed = w.listed; taken = opens_is r n k s w.pair own (omega arith) } in
          record {
            set = x.set;
            ascending = x.ascending;
            extends = extends_on r s c x.set own x.extends;
            within = x.within;
            quadratic = x.quadratic;
            listed = below_in r o n fs k d s w.pair (found x.set) parted x.listed;
          }

  -- t itself, where no quadratic set between s and t is smaller
  pub complete : (t : List Mono) → Ascending before t → Wide t → missing n fs t ≡ [] → length t ≤ k
      → (d : ℕ) (s : List Mono) → ((u : List Mono) → Ascending before u → Extends r s u → u ⊆ t → missing n fs u ≡ [] → length t ≤ length u)
      → Ascending before s → Extends r s t → k < length s + d → found t ∈ opened r n fs k d s
  complete t at wide q ht d s least a ext h =
      let x : Reached r n fs k t d s = reached t at wide q ht d s a ext h in
      let e : x.set ≡ t = sub_equal mono_order x.set t x.ascending at x.within (least x.set x.ascending x.extends x.within x.quadratic) in
      subst (λ (u : List Mono). found u ∈ opened r n fs k d s) e x.listed
