-- Products of monomials of any width, and bounds on exponents. Assumes nothing.
use mathlib.Core.Path.{◌≡◌}
use mathlib.Core.List.{[], ◌∷◌}
use Prim.Native.Nat.{ℕ, zero, suc, ◌+◌, ◌≤◌, ◌<◌, ◌-◌}
use native.Mathlib.Omega.{arith}
use lib.ListN.{length, get_or, set}
use Rattle.monomial.specs.Lists.{pointwise}
use Rattle.monomial.specs.Monomial.{Mono, one}
use Rattle.monomial.specs.Product.{mul, AtMost}
use Rattle.monomial.proofs.Loops.{pointwise_at, pointwise_comm, pointwise_assoc, pointwise_unit, pointwise_cancel}

-- ---- the product
pub mul_comm : (a b : Mono) → mul a b ≡ mul b a
mul_comm = pointwise_comm ◌+◌ (λ x y. omega arith)

pub mul_assoc : (a b c : Mono) → mul (mul a b) c ≡ mul a (mul b c)
mul_assoc = pointwise_assoc ◌+◌ (λ x y z. omega arith)

pub mul_one : (a : Mono) → mul a (one (length a)) ≡ a
mul_one = pointwise_unit ◌+◌ 0 (λ x. omega arith)

-- a factor is all that the product and the other factor leave
pub mul_cancel : (a b c : Mono) → length a ≡ length b → length a ≡ length c → mul a b ≡ mul a c → b ≡ c
mul_cancel = pointwise_cancel ◌+◌ (λ x y z e. omega arith)

-- ---- bounds on exponents
pub at_most_weaken : {b c : ℕ} (m : Mono) → b ≤ c → AtMost b m → AtMost c m
at_most_weaken [] h k = tt
at_most_weaken {b} {c} (e ∷ m) h k = (omega arith, at_most_weaken m h k.1)

pub at_most_mul : (b c : ℕ) (x y : Mono) → AtMost b x → AtMost c y → AtMost (b + c) (mul x y)
unfolding pointwise
at_most_mul b c [] y h k = tt
at_most_mul b c (e ∷ x) [] h k = tt
at_most_mul b c (e ∷ x) (f ∷ y) h k = (omega arith, at_most_mul b c x y h.1 k.1)

pub at_most_set : (b : ℕ) (m : Mono) (i e : ℕ) → e ≤ b → AtMost b m → AtMost b (set m i e)
at_most_set b [] i e h a = tt
at_most_set b (x ∷ m) zero e h a = (h, a.1)
at_most_set b (x ∷ m) (suc i) e h a = (a.0, at_most_set b m i e h a.1)

-- at every place, and back
pub at_most_at : (b : ℕ) (m : Mono) (i : ℕ) → AtMost b m → get_or m i 0 ≤ b
at_most_at b [] i a = omega arith
at_most_at b (x ∷ m) zero a = a.0
at_most_at b (x ∷ m) (suc i) a = at_most_at b m i a.1

pub at_most_all : (b : ℕ) (m : Mono) → ((i : ℕ) → get_or m i 0 ≤ b) → AtMost b m
at_most_all b [] h = tt
at_most_all b (x ∷ m) h = (h 0, at_most_all b m (λ i. h (suc i)))

pub product_fits : (b : ℕ) (x y : Mono) (i : ℕ) → i < length x → i < length y → AtMost b (mul x y) → get_or x i 0 + get_or y i 0 ≤ b
product_fits b x y i h k a = let e : get_or (mul x y) i 0 ≡ get_or x i 0 + get_or y i 0 = pointwise_at ◌+◌ x y i 0 0 0 h k in omega (arith, at_most_at b (mul x y) i a)

-- a monomial with at most b per place, divided by a variable that it holds
pub quo_small : (b i : ℕ) (z : Mono) → AtMost b z → AtMost b (set z i (get_or z i 0 - 1))
quo_small b i z a = let h : get_or z i 0 ≤ b = at_most_at b z i a in at_most_set b z i (get_or z i 0 - 1) (omega arith) a
