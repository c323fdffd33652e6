-- Monomials without an exponent from xn on, of any width: products, quotients, and which of 1 and the variables they are. Assumes nothing.
use mathlib.Core.Path.{◌≡◌, refl, sym, ap, subst}
use mathlib.Core.Logic.{⊎_elim}
use mathlib.Core.List.Memᴰ
use mathlib.Core.List.{List, [], ◌∷◌, map}
use Prim.Native.Nat.{ℕ, zero, suc, ◌<◌, ◌≤◌}
use native.Mathlib.Omega.{arith}
use lib.Dec.{T, leb}
use lib.ListN.{get_or, set, take, drop}
use Rattle.monomial.specs.Lists.{pairwise, pointwise}
use Rattle.monomial.specs.Monomial.{Mono, one, vars, constants}
use Rattle.monomial.specs.Product.{mul, AtMost}
use Rattle.monomial.specs.Quotient.{divides}
use Rattle.monomial.specs.Claims.{◌∈◌, Within}
use Rattle.monomial.proofs.Tests.{and_r}
use Rattle.monomial.proofs.Members.{there}
use Rattle.monomial.proofs.product.Laws.{at_most_mul, at_most_at, at_most_all}
use Rattle.monomial.proofs.quotient.Laws.{at_most_divides}

pub within_at : (n : ℕ) (m : Mono) → Within n m → (i : ℕ) → n ≤ i → get_or m i 0 ≡ 0
within_at zero m h i k = let z : get_or m i 0 ≤ 0 = at_most_at 0 m i h in omega arith
within_at (suc n) [] h i k = refl
within_at (suc n) (e ∷ m) h zero k = let z : ⊥ = omega arith in absurd z
within_at (suc n) (e ∷ m) h (suc i) k = within_at n m h i (omega arith)

pub at_within : (n : ℕ) (m : Mono) → ((i : ℕ) → n ≤ i → get_or m i 0 ≡ 0) → Within n m
at_within zero m h = at_most_all 0 m (λ i. let z : get_or m i 0 ≡ 0 = h i (omega arith) in omega arith)
at_within (suc n) [] h = tt
at_within (suc n) (e ∷ m) h = at_within n m (λ i k. h (suc i) (omega arith))

pub within_mul : (n : ℕ) (a b : Mono) → Within n a → Within n b → Within n (mul a b)
unfolding pointwise
within_mul zero a b h k = at_most_mul 0 0 a b h k
within_mul (suc n) [] b h k = tt
within_mul (suc n) (x ∷ a) [] h k = tt
within_mul (suc n) (x ∷ a) (y ∷ b) h k = within_mul n a b h k

pub within_set : (n : ℕ) (m : Mono) (i e : ℕ) → i < n → Within n m → Within n (set m i e)
within_set zero m i e h k = let z : ⊥ = omega arith in absurd z
within_set (suc n) [] i e h k = tt
within_set (suc n) (x ∷ m) zero e h k = k
within_set (suc n) (x ∷ m) (suc i) e h k = within_set n m i e (omega arith) k

pub within_divides : (n : ℕ) (d m : Mono) → T (divides d m) → Within n m → Within n d
unfolding pairwise
within_divides zero d m t h = at_most_divides 0 d m t h
within_divides (suc n) [] m t h = tt
within_divides (suc n) (x ∷ d) [] t h = absurd t
within_divides (suc n) (x ∷ d) (e ∷ m) t h = within_divides n d m (and_r (leb x e) (divides d m) t) h

-- 1 and the first n variables are those constants that have no exponent beyond
pub one_within : (n w : ℕ) → Within n (one w)
one_within zero zero = tt
one_within zero (suc w) = (omega arith, one_within zero w)
one_within (suc n) zero = tt
one_within (suc n) (suc w) = one_within n w

take_map : {A B : Type 0} (f : A → B) (n : ℕ) (l : List A) → take n (map f l) ≡ map f (take n l)
take_map f zero l = refl
take_map f (suc n) [] = refl
take_map f (suc n) (x ∷ l) = ap (◌∷◌ (f x)) (take_map f n l)

pub vars_within : (n w : ℕ) (x : Mono) → x ∈ take n (vars w) → Within n x
unfolding vars
vars_within zero w x h = absurd (Memᴰ.not-nil h)
vars_within (suc n) zero x h = absurd (Memᴰ.not-nil h)
vars_within (suc n) (suc w) x h = ⊎_elim (λ e. rw e (one_within n w)) (later (vars_within n w)) (Memᴰ.cases_cons h)
  where
    later : ((y : Mono) → y ∈ take n (vars w) → Within n y) → x ∈ take n (map (◌∷◌ 0) (vars w)) → Within (suc n) x
    later ih k =
        let q : (y : Mono) × (y ∈ take n (vars w)) × (0 ∷ y ≡ x) = Memᴰ.of_map (◌∷◌ 0) (take n (vars w)) (rw (take_map (◌∷◌ 0) n (vars w)) at k) in
        rw (sym q.2) (ih q.0 q.1)

pub within_vars : (n w : ℕ) (x : Mono) → x ∈ vars w → Within n x → x ∈ take n (vars w)
unfolding vars
within_vars n zero x h k = absurd (Memᴰ.not-nil h)
within_vars n (suc w) x h k = ⊎_elim (λ e. first n e k) (λ i. later n (λ j y. within_vars j w y) k (Memᴰ.of_map (◌∷◌ 0) (vars w) i)) (Memᴰ.cases_cons h)
  where
    first : (j : ℕ) → x ≡ 1 ∷ one w → Within j x → x ∈ take j (vars (suc w))
    first zero e g = let b : AtMost 0 (1 ∷ one w) = rw e at g in let z : ⊥ = omega (arith, b.0) in absurd z
    first (suc j) e g = Memᴰ.head e

    later : (j : ℕ) → ((i : ℕ) (y : Mono) → y ∈ vars w → Within i y → y ∈ take i (vars w)) → Within j x → (y : Mono) × (y ∈ vars w) × (0 ∷ y ≡ x) → x ∈ take j (vars (suc w))
    later zero ih g q = let b : AtMost 0 (0 ∷ q.0) = rw (sym q.2) at g in absurd (Memᴰ.not-nil (ih zero q.0 q.1 b.1))
    later (suc j) ih g q =
        let b : Within j q.0 = subst (Within (suc j)) (sym q.2) g in
        there (subst (λ (z : Mono). z ∈ take j (map (◌∷◌ 0) (vars w))) q.2 (rw (take_map (◌∷◌ 0) j (vars w)) (Memᴰ.map (◌∷◌ 0) (ih j q.0 q.1 b))))

drop_map : {A B : Type 0} (f : A → B) (n : ℕ) (l : List A) → drop n (map f l) ≡ map f (drop n l)
drop_map f zero l = refl
drop_map f (suc n) [] = refl
drop_map f (suc n) (x ∷ l) = drop_map f n l

-- a variable beyond xn holds itself
pub vars_beyond : (n w : ℕ) (x : Mono) → x ∈ drop n (vars w) → Within n x → ⊥
unfolding vars
vars_beyond zero zero x h k = Memᴰ.not-nil h
vars_beyond (suc n) zero x h k = Memᴰ.not-nil h
vars_beyond zero (suc w) x h k = ⊎_elim first (λ i. later (vars_beyond zero w) (Memᴰ.of_map (◌∷◌ 0) (vars w) i)) (Memᴰ.cases_cons h)
  where
    first : x ≡ 1 ∷ one w → ⊥
    first e = let b : AtMost 0 (1 ∷ one w) = rw e at k in omega (arith, b.0)

    later : ((y : Mono) → y ∈ vars w → AtMost 0 y → ⊥) → (y : Mono) × (y ∈ vars w) × (0 ∷ y ≡ x) → ⊥
    later ih q = let b : AtMost 0 (0 ∷ q.0) = rw (sym q.2) at k in ih q.0 q.1 b.1
vars_beyond (suc n) (suc w) x h k = later (vars_beyond n w) (Memᴰ.of_map (◌∷◌ 0) (drop n (vars w)) (subst (λ l. x ∈ l) (drop_map (◌∷◌ 0) n (vars w)) h))
  where
    later : ((y : Mono) → y ∈ drop n (vars w) → Within n y → ⊥) → (y : Mono) × (y ∈ drop n (vars w)) × (0 ∷ y ≡ x) → ⊥
    later ih q = ih q.0 q.1 (subst (Within (suc n)) (sym q.2) k)

-- a constant that holds one of the first n variables holds no other
raised_within : (n w i : ℕ) (z : Mono) → z ∈ vars w → i < n → 0 < get_or z i 0 → Within n z
unfolding vars
raised_within n zero i z h k r = absurd (Memᴰ.not-nil h)
raised_within zero (suc w) i z h k r = let x : ⊥ = omega arith in absurd x
raised_within (suc n) (suc w) i z h k r =
    ⊎_elim (λ e. rw e (one_within n w)) (λ j. later i (raised_within n w) (Memᴰ.of_map (◌∷◌ 0) (vars w) j) k r) (Memᴰ.cases_cons h)
  where
    later : (i : ℕ) → ((i : ℕ) (y : Mono) → y ∈ vars w → i < n → 0 < get_or y i 0 → Within n y)
        → (y : Mono) × (y ∈ vars w) × (0 ∷ y ≡ z) → i < suc n → 0 < get_or z i 0 → Within (suc n) z
    later zero ih q l g = let b : 0 < 0 = rw (sym q.2) at g in let x : ⊥ = omega arith in absurd x
    later (suc i) ih q l g = rw (sym q.2) (ih i q.0 q.1 (omega arith) (rw (sym q.2) at g))

pub constant_within : (n w i : ℕ) (z : Mono) → z ∈ constants w → i < n → 0 < get_or z i 0 → Within n z
constant_within n w i z h k r = ⊎_elim (λ e. rw e (one_within n w)) (λ j. raised_within n w i z j k r) (Memᴰ.cases_cons h)

-- of w constants, those without an exponent beyond xn are 1 and the first n variables
pub first_within : (n w : ℕ) (x : Mono) → x ∈ take (suc n) (constants w) → Within n x
first_within n w x h = ⊎_elim (λ e. rw e (one_within n w)) (vars_within n w x) (Memᴰ.cases_cons h)

pub within_first : (n w : ℕ) (x : Mono) → x ∈ constants w → Within n x → x ∈ take (suc n) (constants w)
within_first n w x h k = ⊎_elim (λ e. Memᴰ.head e) (λ i. there (within_vars n w x i k)) (Memᴰ.cases_cons h)
