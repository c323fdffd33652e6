-- The degree of a monomial of any width: a product adds it, a bound on exponents bounds it, degree below 2 means 1 or a variable, and degree below 3
-- a product of two of these. Assumes nothing.
use mathlib.Core.Path.{◌≡◌, refl, sym, ap, ap₂, ◌∙◌, subst}
use mathlib.Core.Logic.{⊎_elim}
use mathlib.Core.List.Memᴰ
use mathlib.Core.List.{[], ◌∷◌}
use Prim.Native.Nat.{ℕ, zero, suc, ◌+◌, ◌*◌, ◌≤◌, ◌<◌}
use native.Mathlib.Omega.{arith}
use lib.Dec.{T, eqb, ltb, eqb→eq, eqb_refl, ltb→lt, lt→ltb}
use lib.ListN.{length, take, length-replicate}
use Rattle.monomial.specs.Lists.{any, all, pointwise}
use Rattle.monomial.specs.Monomial.{Mono, one, vars, constants}
use Rattle.monomial.specs.Order.{same}
use Rattle.monomial.specs.Product.{mul, AtMost}
use Rattle.monomial.specs.Quotient.{divides}
use Rattle.monomial.specs.Degree.{degree, within, low}
use Rattle.monomial.specs.Claims.{◌∈◌, Within}
use Rattle.monomial.proofs.Tests.{and_l, and_r, and_i, same_test}
use Rattle.monomial.proofs.Members.{here, there, take_in}
use Rattle.monomial.proofs.order.Laws.{mono_order}
use Rattle.monomial.proofs.order.Ascending.{among_in, among_out}
use Rattle.monomial.proofs.product.Laws.{mul_comm, mul_one}
use Rattle.monomial.proofs.quotient.Laws.{factor_divides}
use Rattle.monomial.proofs.Variables.{constants_fit}
use Rattle.monomial.proofs.Within.{within_mul, within_divides, first_within, within_first}

-- ---- the test is passed by those without an exponent from number n on
pub within_is : (n : ℕ) (m : Mono) → T (within n m) → Within n m
unfolding all
within_is zero [] t = tt
within_is zero (e ∷ m) t = let q : 0 ≡ e = eqb→eq 0 e (and_l (eqb 0 e) (within zero m) t) in (omega arith, within_is zero m (and_r (eqb 0 e) (within zero m) t))
within_is (suc n) [] t = tt
within_is (suc n) (e ∷ m) t = within_is n m t

pub is_within : (n : ℕ) (m : Mono) → Within n m → T (within n m)
unfolding all
is_within zero [] h = tt
is_within zero (e ∷ m) h = let q : 0 ≡ e = omega (arith, h.0) in and_i (eqb 0 e) (within zero m) (subst (λ k. T (eqb 0 k)) q (eqb_refl 0)) (is_within zero m h.1)
is_within (suc n) [] h = tt
is_within (suc n) (e ∷ m) h = is_within n m h

-- ---- the degree
pub degree_mul : (a b : Mono) → length a ≡ length b → degree (mul a b) ≡ degree a + degree b
unfolding degree pointwise
degree_mul [] [] h = refl
degree_mul [] (y ∷ b) h = let z : ⊥ = omega arith in absurd z
degree_mul (x ∷ a) [] h = let z : ⊥ = omega arith in absurd z
degree_mul (x ∷ a) (y ∷ b) h = let ih : degree (mul a b) ≡ degree a + degree b = degree_mul a b (omega arith) in omega arith

-- where each exponent is at most b, the degree is at most that for each variable
pub degree_most : (b : ℕ) (m : Mono) → AtMost b m → degree m ≤ length m * b
unfolding degree
degree_most b [] h = omega arith
degree_most b (e ∷ m) h = let ih : degree m ≤ length m * b = degree_most b m h.1 in omega (arith, h.0)

pub degree_one : (w : ℕ) → degree (one w) ≡ 0
unfolding degree
degree_one zero = refl
degree_one (suc w) = let ih : degree (one w) ≡ 0 = degree_one w in omega arith

pub degree_none : (m : Mono) → degree m ≡ 0 → m ≡ one (length m)
unfolding degree
degree_none [] h = refl
degree_none (e ∷ m) h = let q : e ≡ 0 = omega arith in ap₂ ◌∷◌ q (degree_none m (omega arith))

pub degree_var : (w : ℕ) (x : Mono) → x ∈ vars w → degree x ≡ 1
unfolding degree vars
degree_var zero x h = absurd (Memᴰ.not-nil h)
degree_var (suc w) x h = ⊎_elim (λ e. ap degree e ∙ omega (arith, degree_one w)) (λ k. later (degree_var w) (Memᴰ.of_map (◌∷◌ 0) (vars w) k)) (Memᴰ.cases_cons h)
  where
    later : ((y : Mono) → y ∈ vars w → degree y ≡ 1) → (y : Mono) × (y ∈ vars w) × (0 ∷ y ≡ x) → degree x ≡ 1
    later ih q = ap degree (sym q.2) ∙ omega (arith, ih q.0 q.1)

-- ---- degree below 2: 1 and the variables
pub constant_degree : (w : ℕ) (x : Mono) → x ∈ constants w → degree x < 2
constant_degree w x h =
    ⊎_elim (λ e. let q : degree x ≡ 0 = ap degree e ∙ degree_one w in omega arith) (λ k. let q : degree x ≡ 1 = degree_var w x k in omega arith)
    (Memᴰ.cases_cons h)

pub degree_constant : (w : ℕ) (m : Mono) → length m ≡ w → degree m < 2 → m ∈ constants w
unfolding degree vars
degree_constant zero [] l h = here
degree_constant zero (e ∷ m) l h = let z : ⊥ = omega arith in absurd z
degree_constant (suc w) [] l h = let z : ⊥ = omega arith in absurd z
degree_constant (suc w) (zero ∷ m) l h =
    ⊎_elim (λ e. Memᴰ.head (ap (◌∷◌ 0) e)) (λ k. there (there (Memᴰ.map (◌∷◌ 0) k))) (Memᴰ.cases_cons (degree_constant w m (omega arith) (omega arith)))
degree_constant (suc w) (suc e ∷ m) l h =
    let first : suc e ≡ 1 = omega arith in
    let many : length m ≡ w = omega arith in
    there (Memᴰ.head (ap₂ ◌∷◌ first (degree_none m (omega arith) ∙ ap one many)))

pub constant_low : (n w : ℕ) (x : Mono) → x ∈ take (suc n) (constants w) → (degree x < 2) × Within n x
constant_low n w x h = (constant_degree w x (take_in (suc n) (constants w) h), first_within n w x h)

pub low_constant : (n w : ℕ) (m : Mono) → length m ≡ w → degree m < 2 → Within n m → m ∈ take (suc n) (constants w)
low_constant n w m l h k = within_first n w m (degree_constant w m l h) k

-- both as a test
pub low_is : (n b : ℕ) (m : Mono) → T (low n b m) → (degree m < b) × Within n m
low_is n b m t = (ltb→lt (degree m) b (and_l (ltb (degree m) b) (within n m) t), within_is n m (and_r (ltb (degree m) b) (within n m) t))

pub is_low : (n b : ℕ) (m : Mono) → degree m < b → Within n m → T (low n b m)
is_low n b m h k = and_i (ltb (degree m) b) (within n m) (lt→ltb (degree m) b h) (is_within n m k)

pub low_among : (n w : ℕ) (m : Mono) → length m ≡ w → any (same m) (take (suc n) (constants w)) ≡ low n 2 m
low_among n w m l = same_test (any (same m) (take (suc n) (constants w))) (low n 2 m) out into
  where
    out : T (any (same m) (take (suc n) (constants w))) → T (low n 2 m)
    out t = let k = constant_low n w m (among_out mono_order m (take (suc n) (constants w)) t) in is_low n 2 m k.0 k.1

    into : T (low n 2 m) → T (any (same m) (take (suc n) (constants w)))
    into t = let k = low_is n 2 m t in among_in mono_order (low_constant n w m l k.0 k.1)

-- ---- degree below 3: products of two of them
-- two factors of degree below 2: the first variable of m and what it leaves, or 1 and 1
record Halves (m : Mono) : Type 0 where
  left : Mono
  right : Mono
  left_long : length left ≡ length m
  right_long : length right ≡ length m
  left_small : degree left < 2
  right_small : degree right < 2
  product : mul left right ≡ m

halves : (m : Mono) → degree m < 3 → Halves m
unfolding degree pointwise
halves [] h = record { left = []; right = []; left_long = refl; right_long = refl; left_small = omega arith; right_small = omega arith; product = refl }
halves (zero ∷ m) h = later (halves m (omega arith))
  where
    later : Halves m → Halves (0 ∷ m)
    later p = record {
      left = 0 ∷ p.left;
      right = 0 ∷ p.right;
      left_long = ap suc p.left_long;
      right_long = ap suc p.right_long;
      left_small = omega (arith, p.left_small);
      right_small = omega (arith, p.right_small);
      product = ap (◌∷◌ 0) p.product;
    }
halves (suc e ∷ m) h = record {
  left = 1 ∷ one (length m);
  right = e ∷ m;
  left_long = ap suc (length-replicate (length m) 0);
  right_long = refl;
  left_small = omega (arith, degree_one (length m));
  right_small = omega arith;
  product = let q : 1 + e ≡ suc e = omega arith in ap₂ ◌∷◌ q (mul_comm (one (length m)) m ∙ mul_one m);
}

pub record LowProduct (n w : ℕ) (m : Mono) : Type 0 where
  pub left : Mono
  pub right : Mono
  pub left-in : left ∈ take (suc n) (constants w)
  pub right_in : right ∈ take (suc n) (constants w)
  pub product : mul left right ≡ m

pub low_product : (n w : ℕ) (m : Mono) → length m ≡ w → degree m < 3 → Within n m → LowProduct n w m
low_product n w m l h k = go (halves m h)
  where
    go : Halves m → LowProduct n w m
    go p =
        let alike : length p.left ≡ length p.right = p.left_long ∙ sym p.right_long in
        let left_divides : T (divides p.left m) = subst (λ (x : Mono). T (divides p.left x)) p.product (factor_divides p.left p.right alike) in
        let right_divides : T (divides p.right m) =
        subst (λ (x : Mono). T (divides p.right x)) (mul_comm p.right p.left ∙ p.product) (factor_divides p.right p.left (sym alike)) in
        record {
          left = p.left;
          right = p.right;
          left-in = low_constant n w p.left (p.left_long ∙ l) p.left_small (within_divides n p.left m left_divides k);
          right_in = low_constant n w p.right (p.right_long ∙ l) p.right_small (within_divides n p.right m right_divides k);
          product = p.product;
        }

pub product_low : (n w : ℕ) (a b : Mono) → a ∈ take (suc n) (constants w) → b ∈ take (suc n) (constants w) → (degree (mul a b) < 3) × Within n (mul a b)
product_low n w a b h k =
    let x = constant_low n w a h in
    let y = constant_low n w b k in
    let wide_a : length a ≡ w = (constants_fit 1 w (omega arith) a (take_in (suc n) (constants w) h)).0 in
    let wide_b : length b ≡ w = (constants_fit 1 w (omega arith) b (take_in (suc n) (constants w) k)).0 in
    let sum : degree (mul a b) ≡ degree a + degree b = degree_mul a b (wide_a ∙ sym wide_b) in
    (omega (arith, x.0, y.0), within_mul n a b x.1 y.1)
