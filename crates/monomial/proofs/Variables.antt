-- 1 and the variables, of any width: how many there are, what each is, and how large their exponents are. Assumes nothing.
use mathlib.Core.Path.{◌≡◌, refl, sym, ap, ◌∙◌, subst}
use mathlib.Core.Logic.{⊎_elim}
use mathlib.Core.Bool.{Bool}
use mathlib.Core.List.Memᴰ
use mathlib.Core.List.{[], ◌∷◌, map}
use Prim.Native.Nat.{ℕ, zero, suc, ◌-◌, ◌<◌, ◌≤◌}
use native.Mathlib.Omega.{arith}
use lib.Dec.{T}
use lib.ListN.{length, get_or, drop, set, length-map, length-replicate}
use Rattle.monomial.specs.Lists.{keep}
use Rattle.monomial.specs.Monomial.{Mono, one, vars, constants}
use Rattle.monomial.specs.Product.{AtMost}
use Rattle.monomial.specs.Claims.{◌∈◌, Different}
use Rattle.monomial.proofs.Tests.{Tested, passed, failed, test, is→T, is→n_t}
use Rattle.monomial.proofs.Different.{different_map}
use Rattle.monomial.proofs.Members.{map_at, fill_at, keep_map, keep_none, keep_yes, keep_no}

pub vars_length : (w : ℕ) → length (vars w) ≡ w
unfolding vars
vars_length zero = refl
vars_length (suc w) = ap suc (length-map (vars w) (◌∷◌ 0) ∙ vars_length w)

-- a variable is 1 with one exponent raised
pub var_is : (w i : ℕ) (d : Mono) → i < w → get_or (vars w) i d ≡ set (one w) i 1
unfolding vars
var_is zero i d h = let z : ⊥ = omega arith in absurd z
var_is (suc w) zero d h = refl
var_is (suc w) (suc i) d h =
    let l : length (vars w) ≡ w = vars_length w in
    map_at (◌∷◌ 0) (vars w) i [] d (omega arith) ∙ ap (◌∷◌ 0) (var_is w i [] (omega arith))

-- 1 and the variables have their width, and exponents of at most 1
pub one_fits : (b w : ℕ) → AtMost b (one w)
one_fits b zero = tt
one_fits b (suc w) = (omega arith, one_fits b w)

pub vars_fit : (b w : ℕ) → 1 ≤ b → (m : Mono) → m ∈ vars w → (length m ≡ w) × AtMost b m
unfolding vars
vars_fit b zero h m k = absurd (Memᴰ.not-nil k)
vars_fit b (suc w) h m k = ⊎_elim first (later (vars_fit b w h)) (Memᴰ.cases_cons k)
  where
    first : m ≡ 1 ∷ one w → (length m ≡ suc w) × AtMost b m
    first e = rw e (ap suc (length-replicate w 0), (h, one_fits b w))

    later : ((z : Mono) → z ∈ vars w → (length z ≡ w) × AtMost b z) → m ∈ map (◌∷◌ 0) (vars w) → (length m ≡ suc w) × AtMost b m
    later fit n =
        let p : (z : Mono) × (z ∈ vars w) × (0 ∷ z ≡ m) = Memᴰ.of_map (◌∷◌ 0) (vars w) n in
        let q = fit p.0 p.1 in
        rw (sym p.2) (ap suc q.0, (omega arith, q.1))

pub constants_fit : (b w : ℕ) → 1 ≤ b → (m : Mono) → m ∈ constants w → (length m ≡ w) × AtMost b m
constants_fit b w h m k = ⊎_elim (λ e. rw e (length-replicate w 0, one_fits b w)) (vars_fit b w h m) (Memᴰ.cases_cons k)

-- no two of them are alike: of two variables one has the first exponent that the other lacks, and 1 has none
pub vars_different : (w : ℕ) → Different (vars w)
unfolding vars
vars_different zero = tt
vars_different (suc w) = (out, different_map (◌∷◌ 0) (vars w) (λ x y h k e. ap (drop 1) e) (vars_different w))
  where
    out : (1 ∷ one w) ∈ map (◌∷◌ 0) (vars w) → ⊥
    out h = let p = Memᴰ.of_map (◌∷◌ 0) (vars w) h in let z : ◌≡◌ {A = ℕ} 0 1 = ap (λ (m : Mono). get_or m 0 0) p.2 in omega arith

one_apart : (w : ℕ) → one w ∈ vars w → ⊥
unfolding vars
one_apart zero h = Memᴰ.not-nil h
one_apart (suc w) h = ⊎_elim first (λ k. later (one_apart w) (Memᴰ.of_map (◌∷◌ 0) (vars w) k)) (Memᴰ.cases_cons h)
  where
    first : 0 ∷ one w ≡ 1 ∷ one w → ⊥
    first e = let z : ◌≡◌ {A = ℕ} 0 1 = ap (λ (m : Mono). get_or m 0 0) e in omega arith

    later : (one w ∈ vars w → ⊥) → (y : Mono) × (y ∈ vars w) × (0 ∷ y ≡ 0 ∷ one w) → ⊥
    later ih p = ih (Memᴰ.cast (sym (ap (drop 1) p.2)) p.1)

pub constants_different : (w : ℕ) → Different (constants w)
constants_different w = (one_apart w, vars_different w)

-- a test that asks for an exponent of one variable is passed by one variable at the most
pub vars_one : (w j : ℕ) (f : Mono → Bool) → ((x : Mono) → T (f x) → 0 < get_or x j 0) → length (keep f (vars w)) ≤ 1
unfolding vars keep
vars_one zero j f h = omega arith
vars_one (suc w) zero f h = go (test (f (1 ∷ one w)))
  where
    none : keep f (map (◌∷◌ 0) (vars w)) ≡ []
    none = keep_map f (◌∷◌ 0) (vars w) ∙ ap (map (◌∷◌ 0)) (keep_none (λ x. f (0 ∷ x)) (vars w) (λ x k t. let z : 0 < 0 = h (0 ∷ x) t in omega arith))

    go : Tested (f (1 ∷ one w)) → length (keep f ((1 ∷ one w) ∷ map (◌∷◌ 0) (vars w))) ≤ 1
    go (passed e) = let k : length (keep f (map (◌∷◌ 0) (vars w))) ≡ 0 = ap length none in rw (keep_yes f (1 ∷ one w) (map (◌∷◌ 0) (vars w)) (is→T (f (1 ∷ one w)) e)) (omega arith)
    go (failed e) = let k : length (keep f (map (◌∷◌ 0) (vars w))) ≡ 0 = ap length none in rw (keep_no f (1 ∷ one w) (map (◌∷◌ 0) (vars w)) (is→n_t (f (1 ∷ one w)) e)) (omega arith)
vars_one (suc w) (suc j) f h =
    let ih : length (keep (λ x. f (0 ∷ x)) (vars w)) ≤ 1 = vars_one w j (λ x. f (0 ∷ x)) (λ x t. h (0 ∷ x) t) in
    let e : keep f (map (◌∷◌ 0) (vars w)) ≡ map (◌∷◌ 0) (keep (λ x. f (0 ∷ x)) (vars w)) = keep_map f (◌∷◌ 0) (vars w) in
    let k : length (keep f (map (◌∷◌ 0) (vars w))) ≡ length (keep (λ x. f (0 ∷ x)) (vars w)) = ap length e ∙ length-map (keep (λ x. f (0 ∷ x)) (vars w)) (◌∷◌ 0) in
    let off : T (f (1 ∷ one w)) → ⊥ = λ t. let b : 0 < get_or (one w) j 0 = h (1 ∷ one w) t in let z : get_or (one w) j 0 ≡ 0 = fill_at 0 w j in omega arith in
    rw (keep_no f (1 ∷ one w) (map (◌∷◌ 0) (vars w)) off) (omega arith)

-- 1 and the variables, divided by a variable that they hold, are 1
one_quo : (w i : ℕ) → 0 < get_or (one w) i 0 → ⊥
one_quo w i h = let e : get_or (one w) i 0 ≡ 0 = fill_at 0 w i in omega arith

vars_quo : (w i : ℕ) (z : Mono) → z ∈ vars w → 0 < get_or z i 0 → AtMost 0 (set z i (get_or z i 0 - 1))
unfolding vars
vars_quo zero i z h k = absurd (Memᴰ.not-nil h)
vars_quo (suc w) i z h k = ⊎_elim (λ e. first i (subst (λ (y : Mono). 0 < get_or y i 0) e k) e) (later i (vars_quo w) k) (Memᴰ.cases_cons h)
  where
    first : (j : ℕ) → 0 < get_or (1 ∷ one w) j 0 → z ≡ 1 ∷ one w → AtMost 0 (set z j (get_or z j 0 - 1))
    first zero g e = rw e (omega arith, one_fits 0 w)
    first (suc j) g e = absurd (one_quo w j g)

    later : (j : ℕ) → ((i : ℕ) (y : Mono) → y ∈ vars w → 0 < get_or y i 0 → AtMost 0 (set y i (get_or y i 0 - 1)))
        → 0 < get_or z j 0 → z ∈ map (◌∷◌ 0) (vars w) → AtMost 0 (set z j (get_or z j 0 - 1))
    later j ih g l = tail j (Memᴰ.of_map (◌∷◌ 0) (vars w) l) g
      where
        tail : (j : ℕ) → (y : Mono) × (y ∈ vars w) × (0 ∷ y ≡ z) → 0 < get_or z j 0 → AtMost 0 (set z j (get_or z j 0 - 1))
        tail zero q g = let b : 0 < 0 = rw (sym q.2) at g in let x : ⊥ = omega arith in absurd x
        tail (suc j) q g = rw (sym q.2) (omega arith, ih j q.0 q.1 (rw (sym q.2) at g))

pub constants_quo : (w i : ℕ) (z : Mono) → z ∈ constants w → 0 < get_or z i 0 → AtMost 0 (set z i (get_or z i 0 - 1))
constants_quo w i z h k = ⊎_elim (λ e. absurd (one_quo w i (subst (λ (y : Mono). 0 < get_or y i 0) e k))) (λ j. vars_quo w i z j k) (Memᴰ.cases_cons h)
