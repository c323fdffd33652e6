-- The counting rule closes no set that is needed: a quadratic set that holds s, and whose further monomials may be, has at least as many more as the
-- rule says. Each nonsquare of s is there a new monomial times a member of V of s, or a product of two new ones. Assumes nothing.
use mathlib.Core.Path.{◌≡◌, ◌∙◌}
use mathlib.Core.Logic.{◌⊎◌, inl, inr, ⊎_elim}
use mathlib.Core.Bool.{Bool, not}
use mathlib.Core.List.{List, []}
use Prim.Native.Nat.{ℕ, ◌+◌, ◌<◌, ◌≤◌}
use native.Mathlib.Omega.{arith}
use lib.Dec.{T, T_not, not_T}
use lib.ListN.{length}
use Rattle.monomial.specs.Lists.{any, keep}
use Rattle.monomial.specs.Monomial.{Mono, width}
use Rattle.monomial.specs.Order.{same, before}
use Rattle.monomial.specs.Claims.{◌∈◌, Ascending}
use Rattle.monomial.proofs.Tests.{Tested, passed, failed, test, is→T, is→n_t}
use Rattle.monomial.proofs.Members.{keep_in, keep_out, keep_split}
use Rattle.monomial.proofs.order.Laws.{mono_order}
use Rattle.monomial.proofs.order.Ascending.{keep_asc, sub_length, among_in, among_out}
use Rattle.monomial.proofs.product.Laws.{mul_comm}
use Rattle.wiring.specs.Panel.{cards}
use Rattle.wiring.specs.Poly.{Poly, plain}
use Rattle.wiring.specs.Derivative.{derivative}
use Rattle.wiring.specs.Signals.{signals}
use Rattle.wiring.specs.Terms.{records, system, CleanTerms}
use Rattle.wiring.specs.Answers.{missing}
use Rattle.wiring.specs.Claims.{Wide}
use Rattle.wiring.proofs.quadratic.Definition1.{definition1}
use Rattle.wiring.proofs.quadratic.Laws.{Factors, in_v2_in, unmet_out, Nonsquare, nonsquares_out, nonsquares_asc}
use Rattle.wiring.proofs.signals.Laws.{base_in, set-in, signals_cases, signals_wide}
use Rattle.counting.specs.Counting.{needed}
use Rattle.counting.proofs.Largest.{closes_out}
use Rattle.counting.proofs.Enough.{Made, one, two, enough}
use Rattle.walk.specs.Walk.{Rules, counted}
use Rattle.walk.specs.Turns.{Walked}
use Rattle.walk.specs.Claims.{Orderly, Extends, Sparing, QuadraticList, unclosed, Alike}
use Rattle.walk.proofs.Rules.{extends_by}
use Rattle.walk.proofs.Complete.{met}
use Rattle.walk.proofs.Closing.{closing_alike}
use Rattle.walk.proofs.children.Laws.{signals_grow}

-- a quadratic set t that holds s, and whose further monomials may be
module _ (r : Rules) (n : ℕ) (fs : List (Poly Mono)) (s t : List Mono) (a : Ascending before s) (b : Ascending before t) (wide : Wide t)
    (ext : Extends r s t) (q : missing n fs t ≡ []) where
  abbrev old : Mono → Bool
  old x = any (same x) s

  abbrev fresh : Mono → Bool
  fresh x = not (old x)

  -- its further monomials
  abbrev new : List Mono
  new = keep fresh t

  abbrev v : List Mono
  v = signals width n s

  fresh_may : (x : Mono) → x ∈ new → T (r.may x)
  fresh_may x h =
      let k : (x ∈ t) × T (fresh x) = keep_out fresh t h in
      ⊎_elim (λ i. absurd (T_not (old x) k.1 (among_in mono_order i))) (λ y. y) (ext.may x k.0)

  side : (x : Mono) → x ∈ signals width n t → (x ∈ v) ⊎ (x ∈ new)
  side x h = ⊎_elim (λ k. inl (base_in n s k)) (λ k. split k (test (old x))) (signals_cases n t h)
    where
      split : x ∈ t → Tested (old x) → (x ∈ v) ⊎ (x ∈ new)
      split k (passed e) = inl (set-in n s (among_out mono_order x s (is→T (old x) e)))
      split k (failed e) = inr (keep_in fresh t k (not_T (old x) (is→n_t (old x) e)))

  -- a nonsquare of s is a product in V of t, of which not both factors are in V of s
  made : (m : Mono) → m ∈ missing n fs s → Made v new m
  made m h = go (side f.a f.a_in) (side f.b f.b_in)
    where
      w : Nonsquare plain mono_order (signals width n s) (derivative plain fs) m
      w = nonsquares_out plain mono_order v (derivative plain fs) m h

      f : Factors plain mono_order (signals width n t) m
      f = met n fs t q w.of m (signals_grow n s t ext.holds w.of w.of_in) (unmet_out plain mono_order v (derivative plain fs w.of) m w.missing).0

      go : (f.a ∈ v) ⊎ (f.a ∈ new) → (f.b ∈ v) ⊎ (f.b ∈ new) → Made v new m
      go (inl i) (inl j) =
          absurd ((unmet_out plain mono_order v (derivative plain fs w.of) m w.missing).1
          (in_v2_in plain mono_order v m (record { a = f.a; b = f.b; a_in = i; b_in = j; is = f.is })))
      go (inl i) (inr j) = one f.b f.a j i f.is
      go (inr i) (inl j) = one f.a f.b i j (mul_comm f.b f.a ∙ f.is)
      go (inr i) (inr j) = two f.a f.b i j f.is

  pub counting : length s + needed r.may (signals width n s) (missing n fs s) ≤ length t
  counting =
      let ns : List Mono = missing n fs s in
      let sized : Wide v = signals_wide n s (λ x m. wide x (ext.holds x m)) in
      let asc : Ascending before ns = nonsquares_asc plain mono_order v (derivative plain fs) in
      let h : needed r.may v ns ≤ length new = enough r.may v sized ns new asc (keep_asc fresh t b) (λ x m. wide x (keep_out fresh t m).0) fresh_may made in
      let e : length (keep old t) + length new ≡ length t = keep_split old t in
      let i : length s ≤ length (keep old t) =
      sub_length mono_order s (keep old t) a (keep_asc old t b) (λ x m. keep_in old t (ext.holds x m) (among_in mono_order m)) in
      omega arith

-- in the words of Definition 1
pub counting_over : (r : Rules) (n : ℕ) (fs : List (Poly Mono)) (s t : List Mono) → Ascending before s → Ascending before t → Wide t → Extends r s t
    → QuadraticList n (derivative plain fs) t → length s + needed r.may (signals width n s) (missing n fs s) ≤ length t
counting_over r n fs s t a b w e q = counting r n fs s t a b w e ((definition1 plain mono_order (signals width n t) (derivative plain fs)).0 q)

-- so closing by it leaves out nothing, whatever the rules
pub counted_sparing : (r : Rules) (n : ℕ) (fs : List (Poly Mono)) → Sparing (counted r) n fs
counted_sparing r n fs room s t a b w e q h c =
    let need : ℕ = needed r.may (signals width n s) (missing n fs s) in
    let l : length s + need ≤ length t = counting r n fs s t a b w (extends_by (counted r) r (λ m x. x) s t e) q in
    let g : room < need = closes_out r.may room (signals width n s) (missing n fs s) c in
    omega arith

-- and a walk by counting finds at each level what the walk finds that closes nothing, in no more steps
pub counted_alike : (r : Rules) → Orderly r → (n : ℕ) (terms : List ℕ) → CleanTerms terms → Walked r.start → (cap : ℕ) → cap ≤ cards
    → Alike (unclosed r) (counted r) n (system (records terms)) cap
counted_alike r o n terms six w cap low = closing_alike (counted r) o n terms six (counted_sparing r n (system (records terms))) w cap low
