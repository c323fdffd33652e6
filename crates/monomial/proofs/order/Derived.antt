-- What `==` and `<` of two monomials say: they go by the exponents, as `same` and `before` do. Assumes nothing.
use mathlib.Core.Path.{◌≡◌, refl, ◌∙◌}
use mathlib.Core.Bool.{Bool, not}
use mathlib.Core.Logic.{◌≢◌}
use Prim.Native.Nat.{ℕ, ◌+◌, ◌<◌, ◌≤◌}
use native.Mathlib.Omega.{arith}
use native.Mathlib.Numerals.{add-one}
use lib.Dec.{eqb}
use lib.ListN.{length, get_or, drop, drop_of_length-le}
use lib.Seq.{drop-cons}
use Rattle.std.specs.Cmp.Lexicographic.{pointwise, slice_partial_cmp}
use Rattle.std.specs.Ordering.{nat_cmp, is_lt, is_le, is_ge, is_some_and, as_partial_cmp, partial_ordering_then}
use Rattle.std.specs.declared.cmp.Ordering.{Ordering}
use Rattle.std.specs.declared.cmp.Ordering.TheVariants.{Equal}
use Rattle.std.specs.declared.option.Option.{Option}
use Rattle.std.specs.declared.option.Option.TheVariants.{Some}
use Rattle.std.proofs.lemmas.Bool.Decides.{nat_tests}
use Rattle.std.proofs.lemmas.Cmp.{same_from_slice_cmp_tested}
use Rattle.monomial.specs.Monomial.{Mono}
use Rattle.monomial.specs.Lists.{pairwise, dictionary}
use Rattle.monomial.specs.Order.{same, before}

-- the order of the exponents
abbrev pub compared : Mono → Mono → Option Ordering
compared = slice_partial_cmp (as_partial_cmp nat_cmp)

-- `a == b`: its answer cites `c.eq.ensures`
pub same_from_eq : (a b : Mono) (r : Bool) → r ≡ pointwise eqb a b → r ≡ same a b
unfolding pairwise
same_from_eq a b r h = h

-- `a < b`: its answer cites `c.lt.ensures`
pub before_from_lt : (a b : Mono) (r : Bool) → r ≡ is_some_and is_lt (compared a b) → r ≡ before a b
unfolding dictionary
before_from_lt = same_from_slice_cmp_tested nat_cmp is_lt before refl (λ _ _. refl) (λ _ _. refl) (λ x y xs ys o h. grind (arith, nat_tests))

-- `a <= b`: its answer cites `c.le.ensures`
pub not_before_from_le : (a b : Mono) (r : Bool) → r ≡ is_some_and is_le (compared a b) → r ≡ not (before b a)
unfolding dictionary
not_before_from_le = same_from_slice_cmp_tested nat_cmp is_le (λ a b. not (before b a)) refl (λ _ _. refl) (λ _ _. refl) (λ x y xs ys o h. grind (arith, nat_tests))

-- `a >= b`: its answer cites `c.ge.ensures`
pub not_before_from_ge : (a b : Mono) (r : Bool) → r ≡ is_some_and is_ge (compared a b) → r ≡ not (before a b)
unfolding dictionary
not_before_from_ge = same_from_slice_cmp_tested nat_cmp is_ge (λ a b. not (before a b)) refl (λ _ _. refl) (λ _ _. refl) (λ x y xs ys o h. grind (arith, nat_tests))

-- ---- one place of the two
ties : (x y : ℕ) → x ≡ y → nat_cmp x y ≡ Equal
ties x y h = grind (arith, nat_tests)

decides : (x y : ℕ) (o : Option Ordering) → x ≢ y → partial_ordering_then (Some (nat_cmp x y)) o ≡ Some (nat_cmp x y)
decides x y o h = grind (arith, nat_tests)

compared_at : (a b : Mono) (i : ℕ) → i < length a → i < length b
    → compared (drop i a) (drop i b) ≡ partial_ordering_then (Some (nat_cmp (get_or a i 0) (get_or b i 0))) (compared (drop (i + 1) a) (drop (i + 1) b))
compared_at a b i h k = rw (add-one i, drop-cons a i 0 h, drop-cons b i 0 k)

pub compared_on : (a b : Mono) (i : ℕ) → i < length a → i < length b → get_or a i 0 ≡ get_or b i 0 → compared (drop i a) (drop i b) ≡ compared (drop (i + 1) a) (drop (i + 1) b)
compared_on a b i h k e = compared_at a b i h k ∙ rw (ties (get_or a i 0) (get_or b i 0) e)

pub compared_differs : (a b : Mono) (i : ℕ) → i < length a → i < length b → get_or a i 0 ≢ get_or b i 0 → compared (drop i a) (drop i b) ≡ Some (nat_cmp (get_or a i 0) (get_or b i 0))
compared_differs a b i h k n = compared_at a b i h k ∙ decides (get_or a i 0) (get_or b i 0) (compared (drop (i + 1) a) (drop (i + 1) b)) n

pub compared_ends : (a b : Mono) (i : ℕ) → length a ≤ i → length b ≤ i → compared (drop i a) (drop i b) ≡ Some Equal
compared_ends a b i h k = rw (drop_of_length-le a h, drop_of_length-le b k)
