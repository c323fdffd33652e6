-- What the machine's steps on 64 bits come to. The checker's arithmetic reads no whole numbers, so a bound is said of a number's size. Assumes nothing.
use mathlib.Core.Path.{◌≡◌, refl, sym, ap, ap₂, ◌∙◌, subst}
use mathlib.Core.Bool.{true, false}
use mathlib.Core.List.{List, [], ◌∷◌, map, map-id}
use Prim.Native.Nat.{ℕ, zero, suc, ◌+◌, ◌≤◌, ◌<◌, max}
use native.Mathlib.Omega.{arith}
use borrow.Author.Tests.{eq-eqb}
use lib.Dec.{eqb, eqb→eq}
use lib.IntN.{ℤ, pos, nat_abs, neg_ℤ, ◌+ℤ◌, ◌-ℤ◌, +ℤ_idl}
use lib.ListN.{get_or}
use mir.Syntax.{w64}
use mir.Val.{Val, SFits, to_z, of_z}
use mir.ValLaws.{to_z_pos, to_z-of_z}
use denote.Array.{each}
use denote.Shadow.{shadow}
use denote.Signed.{SInt}
use Rattle.monomial.proofs.Tests.{is→T, same_test}
use Rattle.wiring.specs.Coefficient.{is_zero}
use Rattle.wiring.proofs.Ints.{size_fits, abs_sum, abs_neg}
use Rattle.listing.specs.Meaning.{signed}
use Rattle.truth.specs.Sums.{most_number, most_sum}
use Rattle.truth.proofs.truth.Laws.{zero_apart, apart_zero}

-- ---- what fits
-- an element of an array of signed numbers does: `search (rules, cell_fits)`
each_fits : (xs : List ℤ) (us : List Val) (i : ℕ) → shadow (each ℤ (SInt w64).own_val xs us) → SFits w64 (get_or xs i (pos 0))
each_fits [] us i p = size_fits w64 (pos 0) (omega arith)
each_fits (x ∷ xs) [] i p = absurd p
each_fits (x ∷ xs) (u ∷ us) zero p = record { sfits = p.0.1 }
each_fits (x ∷ xs) (u ∷ us) (suc i) p = each_fits xs us i p.1

pub cell_fits : (xs : List ℤ) (us : List Val) (i : ℕ) → shadow (each ℤ (SInt w64).own_val (map (λ (v : ℤ). v) xs) us) → SFits w64 (get_or xs i (pos 0))
cell_fits xs us i p = each_fits xs us i (subst (λ (ys : List ℤ). shadow (each ℤ (SInt w64).own_val ys us)) (map-id xs) p)

-- ---- two numbers are the same where their bits are
pub bits_same : (x y : ℤ) → SFits w64 x → SFits w64 y → eqb (of_z w64 x) (of_z w64 y) ≡ is_zero (x -ℤ y)
bits_same x y f g = same_test (eqb (of_z w64 x) (of_z w64 y)) (is_zero (x -ℤ y))
    (λ t. apart_zero x y (sym (to_z-of_z w64 x f) ∙ ap (to_z w64) (eqb→eq (of_z w64 x) (of_z w64 y) t) ∙ to_z-of_z w64 y g))
    (λ t. is→T (eqb (of_z w64 x) (of_z w64 y)) (eq-eqb (of_z w64 x) (of_z w64 y) (ap (of_z w64) (zero_apart x y t))))

-- ---- a coefficient: its size is the number that is written, or 1
pub record Sized (number : ℕ) (size : ℤ) : Type 0 where
  pub small : nat_abs size ≤ most_number
  pub plus : size ≡ signed false number
  pub minus : neg_ℤ size ≡ signed true number

sized_of : (number n : ℕ) (size : ℤ) → n ≤ most_number → pos n ≡ signed false number → neg_ℤ (pos n) ≡ signed true number → size ≡ pos n → Sized number size
sized_of number n size h p m e = record { small = rw e (omega (arith, h)); plus = e ∙ p; minus = ap neg_ℤ e ∙ m }

pub sized_written : (number : ℕ) (size : ℤ) → number ≤ most_number → 0 < number → size ≡ to_z w64 number → Sized number size
unfolding signed
sized_written zero size h k e = let z : ⊥ = omega arith in absurd z
sized_written (suc n) size h k e = sized_of (suc n) (suc n) size h refl refl (e ∙ to_z_pos w64 (suc n) (omega (arith, h)))

pub sized_unwritten : (number : ℕ) (size : ℤ) → number ≤ 0 → size ≡ pos 1 → Sized number size
unfolding signed
sized_unwritten zero size h e = sized_of 0 1 size (omega arith) refl refl e
sized_unwritten (suc n) size h e = let z : ⊥ = omega arith in absurd z

pub sized : (number n : ℕ) → number ≤ most_number → n ≡ max number 1 → Sized number (to_z w64 n)
sized zero n h e = sized_unwritten zero (to_z w64 n) (omega arith) (ap (to_z w64) e ∙ to_z_pos w64 1 (omega arith))
sized (suc k) n h e = let is : n ≡ suc k = omega arith in sized_written (suc k) (to_z w64 n) h (omega arith) (ap (to_z w64) is)

module _ {number : ℕ} {size : ℤ} (s : Sized number size) where
  turned : pos 0 -ℤ size ≡ neg_ℤ size
  turned = +ℤ_idl (neg_ℤ size)

  pub minus_fits : SFits w64 (pos 0 -ℤ size)
  minus_fits = rw turned (size_fits w64 (neg_ℤ size) (omega (arith, s.small, abs_neg size)))

  pub minus_is : to_z w64 (of_z w64 (pos 0 -ℤ size)) ≡ signed true number
  minus_is = to_z-of_z w64 (pos 0 -ℤ size) minus_fits ∙ turned ∙ s.minus

pub signed_small : (negative : _) (number : ℕ) → number ≤ most_number → nat_abs (signed negative number) ≤ most_number
unfolding signed
signed_small true zero h = omega arith
signed_small true (suc n) h = omega arith
signed_small false zero h = omega arith
signed_small false (suc n) h = omega arith

-- ---- one term more
module _ (old c : ℤ) (bounded : nat_abs old ≤ most_sum) (small : nat_abs c ≤ most_number) where
  abbrev machine : ℤ
  machine = to_z w64 (of_z w64 old) +ℤ to_z w64 (of_z w64 c)

  added : machine ≡ old +ℤ c
  added = ap₂ ◌+ℤ◌ (to_z-of_z w64 old (size_fits w64 old (omega arith))) (to_z-of_z w64 c (size_fits w64 c (omega arith)))

  pub sum_fits : SFits w64 machine
  sum_fits = let h : nat_abs (old +ℤ c) ≤ nat_abs old + nat_abs c = abs_sum old c in rw added (size_fits w64 (old +ℤ c) (omega arith))

  pub sum_is : to_z w64 (of_z w64 machine) ≡ old +ℤ c
  sum_is = to_z-of_z w64 machine sum_fits ∙ added
