-- What the truth of a line says: coefficient by coefficient it is the derivative of its signal, so that the line is a witness of Definition 1; and the
-- records of a wiring list make true lines. Assumes nothing.
use mathlib.Core.Path.{◌≡◌, refl, sym, ap, ◌∙◌, subst}
use mathlib.Core.Logic.{◌↔◌}
use mathlib.Core.Bool.{Bool, false}
use mathlib.Core.List.Memᴰ
use mathlib.Core.List.{List, [], ◌∷◌, ◌++◌, map}
use Prim.Native.Nat.{ℕ}
use lib.Dec.{T}
use lib.IntN.{ℤ, ◌+ℤ◌, ◌-ℤ◌, +ℤ_idl, +ℤ_invr, -ℤ-+ℤ_cancel}
use Rattle.monomial.specs.Lists.{any}
use Rattle.monomial.specs.Monomial.{Mono}
use Rattle.monomial.specs.Order.{same}
use Rattle.monomial.specs.Claims.{◌∈◌}
use Rattle.monomial.proofs.Tests.{Tested, passed, failed, test, is→T, is→n_t}
use Rattle.monomial.proofs.Members.{all_in, all_out, some_in}
use Rattle.monomial.proofs.Counting.{at_in}
use Rattle.monomial.proofs.order.Ascending.{among_in, among_out}
use Rattle.monomial.proofs.order.Laws.{mono_order}
use Rattle.wiring.specs.Coefficient.{is_zero}
use Rattle.wiring.specs.Poly.{Poly, plain, monos, coeff, Same, support}
use Rattle.wiring.specs.Derivative.{derivative}
use Rattle.wiring.specs.Quadratic.{multiplied, in_v2, lacking, Linked}
use Rattle.wiring.specs.Quadratic as quadratic
use Rattle.wiring.specs.Wires.{Wire, signal, row}
use Rattle.wiring.specs.Claims.{Row}
use Rattle.wiring.specs.Claims as claims
use Rattle.wiring.proofs.Poly.{zero_is, is-zero, coeff_absent}
use Rattle.wiring.proofs.kinds.Plain.{plain_lawful}
use Rattle.wiring.proofs.quadratic.Laws.{unmet_in}
use Rattle.wiring.proofs.wires.Laws.{row_is}
use Rattle.listing.specs.Meaning.{Product}
use Rattle.truth.specs.Truth.{as_product, spoken, equal, line_true}
use Rattle.truth.specs.Sums.{Told}

-- ---- numbers whose difference is 0
pub zero_apart : (x y : ℤ) → T (is_zero (x -ℤ y)) → x ≡ y
zero_apart x y t = sym (-ℤ-+ℤ_cancel x y) ∙ ap (λ (w : ℤ). w +ℤ y) (zero_is (x -ℤ y) t) ∙ +ℤ_idl y

pub apart_zero : (x y : ℤ) → x ≡ y → T (is_zero (x -ℤ y))
apart_zero x y e = is-zero (x -ℤ y) (ap (λ (w : ℤ). w -ℤ y) e ∙ +ℤ_invr y)

-- ---- the test of two polynomials is their equality
module _ (p q : Poly Mono) where
  abbrev listed : List Mono
  listed = monos p ++ monos q

  abbrev alike : Mono → Bool
  alike m = is_zero (coeff plain p m -ℤ coeff plain q m)

  equal_out : T (equal p q) → Same plain p q
  unfolding equal
  equal_out t m = go (test (any (same m) listed))
    where
      go : Tested (any (same m) listed) → coeff plain p m ≡ coeff plain q m
      go (passed e) = zero_apart (coeff plain p m) (coeff plain q m) (all_out alike t (among_out mono_order m listed (is→T (any (same m) listed) e)))
      go (failed e) =
          let n : m ∈ listed → ⊥ = λ h. is→n_t (any (same m) listed) e (among_in mono_order h) in
          coeff_absent plain mono_order p m (λ h. n (Memᴰ.append_left (monos q) h)) ∙ sym (coeff_absent plain mono_order q m (λ h. n (Memᴰ.append_right (monos p) h)))

  equal_in : Same plain p q → T (equal p q)
  unfolding equal
  equal_in s = all_in alike listed (λ m h. apart_zero (coeff plain p m) (coeff plain q m) (s m))

  pub equal_same : T (equal p q) ↔ Same plain p q
  equal_same = (equal_out, equal_in)

-- ---- a true line
module _ (v : List Mono) (fs : List (Poly Mono)) (left : ℕ) (line : List Product) where
  pub line_same : T (line_true v fs left line) ↔ Same plain (spoken v line) (derivative plain fs (signal plain v left))
  unfolding line_true
  line_same = equal_same (spoken v line) (derivative plain fs (signal plain v left))

  -- is what Definition 1 asks for
  pub line_linked : Told v line → T (line_true v fs left line) → Linked plain v (derivative plain fs (signal plain v left))
  unfolding spoken
  line_linked told t = record { list = map (as_product v) line; members = inside; equal = line_same.0 t }
    where
      inside : (q : quadratic.Product Mono) → q ∈ map (as_product v) line → (q.a ∈ v) × (q.b ∈ v)
      inside q h =
          let w : (p : Product) × (p ∈ line) × (as_product v p ≡ q) = Memᴰ.of_map (as_product v) line h in
          let below = told w.0 w.1 in
          subst (λ (x : quadratic.Product Mono). (x.a ∈ v) × (x.b ∈ v)) w.2 (at_in v w.0.a (plain.one 0) below.0, at_in v w.0.b (plain.one 0) below.1)

-- ---- the records of a wiring list
-- a record as a product of a line
abbrev pub as_term : Wire → Product
as_term x = record { a = x.a; b = x.b; coefficient = x.coefficient }

module _ (v : List Mono) (fs : List (Poly Mono)) (i : ℕ) where
  abbrev own : Poly Mono
  own = derivative plain fs (signal plain v i)

  terms_spoken : (l : List Wire) → spoken v (map as_term l) ≡ multiplied plain v (map (claims.as_product plain v) l)
  unfolding spoken multiplied
  terms_spoken [] = refl
  terms_spoken (x ∷ l) = ap (◌∷◌ (x.coefficient, plain.mul (signal plain v x.a) (signal plain v x.b))) (terms_spoken l)

  -- a list that is right for the signal is a true line
  pub row_true : (l : List Wire) → Row plain v i own l → T (line_true v fs i (map as_term l))
  row_true l r = (line_same v fs i (map as_term l)).1 (λ m. ap (λ (p : Poly Mono). coeff plain p m) (terms_spoken l) ∙ r.equal m)

  -- so are the wiring list's own records of it
  pub true_row : ((m : Mono) → m ∈ support plain own → T (in_v2 plain v m)) → T (line_true v fs i (map as_term (row plain v i own)))
  true_row met = row_true (row plain v i own) (row_is plain plain_lawful v i own met)

  -- that is, where the derivative lacks no product
  pub true_unlacking : lacking plain v own ≡ false → T (line_true v fs i (map as_term (row plain v i own)))
  true_unlacking e = true_row (λ m h. met m h (test (in_v2 plain v m)))
    where
      met : (m : Mono) → m ∈ support plain own → Tested (in_v2 plain v m) → T (in_v2 plain v m)
      met m h (passed t) = is→T (in_v2 plain v m) t
      met m h (failed t) = absurd (is→n_t (lacking plain v own) e (some_in (unmet_in plain mono_order v own m h (is→n_t (in_v2 plain v m) t))))
