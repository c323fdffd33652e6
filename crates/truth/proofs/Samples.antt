-- Lines worked by hand, with what the definitions say of them. One table, one claim. Assumes nothing.
use mathlib.Core.Path.{◌≡◌, refl}
use mathlib.Core.Bool.{Bool, true, false}
use mathlib.Core.List.{List, [], ◌∷◌, map}
use Prim.Native.Nat.{ℕ}
use lib.IntN.{pos, negsuc}
use Rattle.monomial.specs.Lists.{all, pairwise, pointwise}
use Rattle.monomial.specs.Monomial.{Mono}
use Rattle.wiring.specs.Coefficient.{is_zero}
use Rattle.wiring.specs.Poly.{Poly, coeff, times}
use Rattle.wiring.specs.Derivative.{parts_from, derivative}
use Rattle.wiring.specs.Quadratic.{multiplied}
use Rattle.listing.specs.Meaning.{Product, signed}
use Rattle.truth.specs.Truth.{spoken, equal, line_true}

record Row : Type 0 where
  got : Bool
  want : Bool

-- exponents of x1 and x2; the system's variables are all that a monomial has
abbrev mono : ℕ → ℕ → Mono
mono i j = i ∷ j ∷ []

-- a product of signals number a and b, added or taken away
plus : ℕ → ℕ → ℕ → Product
plus c a b = record { a = a; b = b; coefficient = signed false c }

minus : ℕ → ℕ → ℕ → Product
minus c a b = record { a = a; b = b; coefficient = signed true c }

-- document 000: x1' = x1^3 + x2^2, x2' = x1 + x2, with w0 = x1^2 and w1 = x2^2
system : List (Poly Mono)
system = ((pos 1, mono 3 0) ∷ (pos 1, mono 0 2) ∷ []) ∷ ((pos 1, mono 1 0) ∷ (pos 1, mono 0 1) ∷ []) ∷ []

signals : List Mono
signals = mono 0 0 ∷ mono 1 0 ∷ mono 0 1 ∷ mono 2 0 ∷ mono 0 2 ∷ []

row : ℕ → List Product → Bool → Row
row left line want = record { got = line_true signals system left line; want = want }

-- the same without new names
bare : ℕ → List Product → Bool → Row
bare left line want = record { got = line_true (mono 0 0 ∷ mono 1 0 ∷ mono 0 1 ∷ []) system left line; want = want }

-- x1' = x1^2 x2, x2' = - x1 x2^2 with w0 = x1 x2, whose derivative is 0
still : List Product → Bool → Row
still line want = record {
  got =
      line_true (mono 0 0 ∷ mono 1 0 ∷ mono 0 1 ∷ mono 1 1 ∷ []) (((pos 1, mono 2 1) ∷ []) ∷ ((negsuc 0, mono 1 2) ∷ []) ∷ []) 3 line;
  want = want;
}

table : List Row
table =
    -- x1' = x1 w0 + w1, x2' = x1 + x2, w0' = 2 w0^2 + 2 x1 w1, w1' = 2 x1 x2 + 2 w1
    row 1 (plus 0 1 3 ∷ plus 0 0 4 ∷ []) true
    ∷ row 2 (plus 0 0 1 ∷ plus 0 0 2 ∷ []) true
    ∷ row 3 (plus 2 3 3 ∷ plus 2 1 4 ∷ []) true
    ∷ row 4 (plus 2 1 2 ∷ plus 2 0 4 ∷ []) true
    -- a coefficient, a sign, a signal
    ∷ row 3 (plus 2 3 3 ∷ plus 3 1 4 ∷ []) false
    ∷ row 2 (plus 0 0 1 ∷ minus 0 0 2 ∷ []) false
    ∷ row 1 (plus 0 1 3 ∷ plus 0 0 3 ∷ []) false
    -- other pairs with the same products: w0 x1, x2 x2
    ∷ row 1 (plus 0 3 1 ∷ plus 0 2 2 ∷ []) true
    -- a product in several terms, and by two pairs
    ∷ row 4 (plus 0 1 2 ∷ plus 3 0 4 ∷ plus 0 2 1 ∷ minus 0 2 2 ∷ []) true
    -- a term is missing; one is too many, at a product of the derivative and at another one
    ∷ row 1 (plus 0 1 3 ∷ []) false
    ∷ row 2 (plus 0 0 1 ∷ plus 0 0 2 ∷ plus 0 0 2 ∷ []) false
    ∷ row 2 (plus 0 0 1 ∷ plus 0 0 2 ∷ plus 0 3 4 ∷ []) false
    -- large coefficients, which cancel to the right one and to one beside it
    ∷ row 2 (plus 1000000000 0 1 ∷ plus 1000000000 0 1 ∷ plus 0 0 2 ∷ minus 1000000000 1 0 ∷ minus 999999999 0 1 ∷ []) true
    ∷ row 2 (plus 1000000000 0 1 ∷ plus 1000000000 0 1 ∷ plus 0 0 2 ∷ minus 1000000000 1 0 ∷ minus 1000000000 0 1 ∷ []) false
    -- 1' is 0
    ∷ row 0 [] true
    -- a derivative that is 0: nothing, x1 - x1, x1
    ∷ still [] true
    ∷ still (plus 0 0 1 ∷ minus 0 1 0 ∷ []) true
    ∷ still (plus 0 0 1 ∷ []) false
    -- no two of 1, x1, x2 multiply to x1^3
    ∷ bare 1 (plus 0 2 2 ∷ []) false
    ∷ bare 2 (plus 0 0 1 ∷ plus 0 2 0 ∷ []) true
    ∷ []

-- each line is what is said of it
sampled : map (λ r. r.got) table ≡ map (λ r. r.want) table
unfolding table row bare still plus minus system signals line_true equal spoken multiplied derivative parts_from times coeff is_zero signed all pairwise pointwise
sampled = refl
