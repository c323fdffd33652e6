-- The words of what is claimed of lists and monomials, beside those that the contracts cite. Assumes nothing.
use Rattle.std.specs.Prelude.{◌≡◌, Bool, not, ℕ, zero, suc, T, length}
use mathlib.Core.List.{List, [], ◌∷◌, ◌++◌, map, Memᴰ}
use Rattle.monomial.specs.Lists.{keep}
use Rattle.monomial.specs.Monomial.{Mono}
use Rattle.monomial.specs.Order.{before}
use Rattle.monomial.specs.Product.{mul, AtMost}
use Rattle.monomial.specs.Quotient.{quo}
use Rattle.monomial.specs.Divisors.{divisors, leads}

-- ---- lists
-- x is an entry of l
abbrev pub ◌∈◌ : {A : Type 0} → A → List A → Type 0
x ∈ l = Memᴰ x l

infix 40 ◌∈◌
-- each entry of s is in t
abbrev pub ◌⊆◌ : {A : Type 0} → List A → List A → Type 0
◌⊆◌ {A} s t = (x : A) → x ∈ s → x ∈ t

infix 40 ◌⊆◌
-- each entry stands before all that follow it
pub data Ascending {A : Type 0} (before : A → A → Bool) : List A → Type 0 where
  empty : Ascending before []
  first : {x : A} {l : List A} → ((y : A) → y ∈ l → T (before x y)) → Ascending before l → Ascending before (x ∷ l)

-- no entry occurs twice
abbrev pub Different : {A : Type 0} → List A → Type 0
Different [] = Unit {0}
Different (x ∷ l) = (x ∈ l → ⊥) × Different l

-- a list in another order: the first entry stands between two parts, which together are the rest in another order
abbrev pub Rearranged : {A : Type 0} → List A → List A → Type 0
Rearranged [] l' = l' ≡ []
Rearranged {A} (x ∷ l) l' = (front : List A) × (back : List A) × (l' ≡ front ++ (x ∷ back)) × Rearranged l (front ++ back)

-- ---- orders
-- which of two stands before the other
pub data Compared {A : Type 0} (same before : A → A → Bool) (a b : A) : Type 0 where
  less : T (before a b) → Compared same before a b
  equal : T (same a b) → Compared same before a b
  more : T (before b a) → Compared same before a b

-- an order that a test decides
pub record Order {A : Type 0} (same before : A → A → Bool) : Type 0 where
  pub same_eq : (a b : A) → T (same a b) → a ≡ b
  pub same_refl : (a : A) → T (same a a)
  pub irrefl : (a : A) → T (before a a) → ⊥
  pub trans : (a b c : A) → T (before a b) → T (before b c) → T (before a c)
  pub total : (a b : A) → Compared same before a b

-- the entries of a list from x on
abbrev pub from : {A : Type 0} → (A → A → Bool) → A → List A → List A
from before x l = keep (λ y. not (before y x)) l

-- ---- variables beyond xn: no exponent from number n on
abbrev pub Within : ℕ → Mono → Type 0
Within zero m = AtMost 0 m
Within (suc n) [] = Unit {0}
Within (suc n) (e ∷ m) = Within n m

-- ---- factor pairs
abbrev pub Pair : Type 0
Pair = Mono × Mono

-- d and what m leaves it
abbrev pub split : Mono → Mono → Pair
split m d = (d, quo m d)

-- two monomials of m's width whose product is m, the first not behind the second
pub record IsPair (p : Pair) (m : Mono) : Type 0 where
  pub left : length p.0 ≡ length m
  pub right : length p.1 ≡ length m
  pub product : mul p.0 p.1 ≡ m
  pub ordered : T (before p.1 p.0) → ⊥

-- the pairs of m from the first factor d on
abbrev pub pairs_from : Mono → Mono → List Pair
pairs_from m d = map (split m) (keep (leads m) (from before d (divisors m)))
