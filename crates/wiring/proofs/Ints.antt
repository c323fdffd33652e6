-- Whole numbers: sizes of sums and products, and the laws of the product that the library leaves out. Assumes nothing.
use mathlib.Core.Path.{◌≡◌, refl, sym, ap, ap₂, ◌∙◌}
use Prim.Native.Nat.{ℕ, zero, suc, ◌+◌, ◌*◌, ◌^◌, ◌<◌, ◌≤◌}
use native.Mathlib.Omega.{arith}
use borrow.Author.Tests.{ltb-true}
use lib.Dec.{ltb}
use lib.IntN.{ℤ, pos, negsuc, nat_abs, neg_ℤ, sub_ℕ, ◌+ℤ◌, ◌-ℤ◌, ◌*ℤ◌, +ℤ_idl, +ℤ_comm, +ℤ_assoc, +ℤ_one, -ℤ_one, suc_ℤ-+ℤ, pred_ℤ-+ℤ, suc_ℤ-*ℤ, pred_ℤ-*ℤ, zero-*ℤ, *ℤ_comm, ℤ_ind}
use lib.Signed.{mag}
use mir.Syntax.{Width}
use mir.Val.{SFits, hbits}
use Rattle.monomial.proofs.Tests.{Tested, passed, failed, test}

-- ---- sizes
mag_abs : (z : ℤ) → mag z ≤ nat_abs z
mag_abs (pos n) = omega arith
mag_abs (negsuc n) = omega arith

-- a number fits w bits where its size is below 2^(w - 1)
pub size_fits : (w : Width) (z : ℤ) → nat_abs z < 2 ^ hbits w → SFits w z
size_fits w z h = record { sfits = omega (arith, mag_abs z) }

abs_sub : (a b : ℕ) → nat_abs (sub_ℕ a b) ≤ a + b
abs_sub a b = go (test (ltb a b))
  where
    go : Tested (ltb a b) → nat_abs (sub_ℕ a b) ≤ a + b
    go (passed e) = let h : a < b = ltb-true a b e in rw e (omega arith)
    go (failed e) = rw e (omega arith)

pub abs_sum : (x y : ℤ) → nat_abs (x +ℤ y) ≤ nat_abs x + nat_abs y
abs_sum (pos a) (pos b) = omega arith
abs_sum (pos a) (negsuc b) = abs_sub a (suc b)
abs_sum (negsuc a) (pos b) = let h : nat_abs (sub_ℕ b (suc a)) ≤ b + suc a = abs_sub b (suc a) in omega arith
abs_sum (negsuc a) (negsuc b) = omega arith

pub abs_neg : (x : ℤ) → nat_abs (neg_ℤ x) ≡ nat_abs x
abs_neg (pos zero) = refl
abs_neg (pos (suc a)) = refl
abs_neg (negsuc a) = refl

pub abs_product : (x y : ℤ) → nat_abs (x *ℤ y) ≡ nat_abs x * nat_abs y
abs_product (pos a) (pos b) = refl
abs_product (pos a) (negsuc b) = abs_neg (pos (a * suc b))
abs_product (negsuc a) (pos b) = abs_neg (pos (suc a * b))
abs_product (negsuc a) (negsuc b) = refl

-- ---- laws
pub +ℤ_left_comm : (x y z : ℤ) → x +ℤ (y +ℤ z) ≡ y +ℤ (x +ℤ z)
+ℤ_left_comm x y z = sym (+ℤ_assoc x y z) ∙ ap (λ w. w +ℤ z) (+ℤ_comm x y) ∙ +ℤ_assoc y x z

-- sums are sorted on both sides, and are then the same
ruleset sums = (+ℤ_assoc, +ℤ_comm, +ℤ_left_comm)

pub mid4 : (a b c d : ℤ) → (a +ℤ b) +ℤ (c +ℤ d) ≡ (a +ℤ c) +ℤ (b +ℤ d)
mid4 a b c d = simp sums

-- the product is distributive: by induction up and down from 0
pub distrib_r : (x y z : ℤ) → (x +ℤ y) *ℤ z ≡ x *ℤ z +ℤ y *ℤ z
distrib_r x y z = ℤ_ind (λ w. (w +ℤ y) *ℤ z ≡ w *ℤ z +ℤ y *ℤ z)
    (ap (λ w. w *ℤ z) (+ℤ_idl y) ∙ sym (+ℤ_idl (y *ℤ z)) ∙ ap (λ w. w +ℤ y *ℤ z) (sym (zero-*ℤ z)))
    (λ n ih. up (pos n) ih)
    (λ n ih. down (neg_ℤ (pos n)) ih)
    x
  where
    up : (w : ℤ) → (w +ℤ y) *ℤ z ≡ w *ℤ z +ℤ y *ℤ z → (w +ℤ pos 1 +ℤ y) *ℤ z ≡ (w +ℤ pos 1) *ℤ z +ℤ y *ℤ z
    up w ih = rw (+ℤ_one w) (rw (suc_ℤ-+ℤ w y, suc_ℤ-*ℤ (w +ℤ y) z, suc_ℤ-*ℤ w z, ih) (simp sums))

    down : (w : ℤ) → (w +ℤ y) *ℤ z ≡ w *ℤ z +ℤ y *ℤ z → (w -ℤ pos 1 +ℤ y) *ℤ z ≡ (w -ℤ pos 1) *ℤ z +ℤ y *ℤ z
    down w ih = rw (-ℤ_one w) (rw (pred_ℤ-+ℤ w y, pred_ℤ-*ℤ (w +ℤ y) z, pred_ℤ-*ℤ w z, ih) (simp sums))

pub distrib_l : (x y z : ℤ) → x *ℤ (y +ℤ z) ≡ x *ℤ y +ℤ x *ℤ z
distrib_l x y z = *ℤ_comm x (y +ℤ z) ∙ distrib_r y z x ∙ ap₂ ◌+ℤ◌ (*ℤ_comm y x) (*ℤ_comm z x)

pub one-*ℤ : (x : ℤ) → pos 1 *ℤ x ≡ x
one-*ℤ (pos n) = let e : 1 * n ≡ n = omega arith in ap pos e
one-*ℤ (negsuc n) = let e : 1 * suc n ≡ suc n = omega arith in ap (λ (k : ℕ). neg_ℤ (pos k)) e
