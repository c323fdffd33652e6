-- The definitions on monomials, computed, beside rows that were worked by hand from document 01. One table, one claim.
-- Assumes nothing.
use mathlib.Core.Path.{◌≡◌, refl}
use mathlib.Core.Bool.{Bool, true, false}
use mathlib.Core.List.{List, [], ◌∷◌, map}
use lib.ListN.{replicate}
use Rattle.monomial.specs.Lists.{all, keep, gather, below, pairwise, pointwise, dictionary, insert_by, arrange_by}
use Rattle.monomial.specs.Monomial.{Mono, vars, constants}
use Rattle.monomial.specs.Order.{same, before, before_set}
use Rattle.monomial.specs.Product.{mul}
use Rattle.monomial.specs.Quotient.{quo, divides}
use Rattle.monomial.specs.Divisors.{score, divisors, pairs, next}
use Rattle.monomial.specs.Degree.{degree, low}

-- one row: a list of monomials that the definitions give, and the one that is expected
record Row : Type 0 where
  got : List Mono
  want : List Mono

row : List Mono → List Mono → Row
row g w = record { got = g; want = w }

-- a test as a list of one monomial, and the two factors of each pair one after the other
said : Bool → List Mono
said true = (1 ∷ []) ∷ []
said false = (0 ∷ []) ∷ []

flat : List (Mono × Mono) → List Mono
flat l = gather (λ p. p.0 ∷ p.1 ∷ []) l

table : List Row
table =
    -- 1 and three variables by their signal numbers
    row (constants 3) ((0 ∷ 0 ∷ 0 ∷ []) ∷ (1 ∷ 0 ∷ 0 ∷ []) ∷ (0 ∷ 1 ∷ 0 ∷ []) ∷ (0 ∷ 0 ∷ 1 ∷ []) ∷ [])
    -- x2^2 stands before x1^2, and x1 x2 between them; an exponent of x1 outweighs any of x2
    ∷ row (arrange_by same before ((2 ∷ 0 ∷ []) ∷ (1 ∷ 1 ∷ []) ∷ (0 ∷ 2 ∷ []) ∷ (1 ∷ 1 ∷ []) ∷ [])) ((0 ∷ 2 ∷ []) ∷ (1 ∷ 1 ∷ []) ∷ (2 ∷ 0 ∷ []) ∷ [])
    ∷ row (said (before (0 ∷ 9 ∷ []) (1 ∷ 0 ∷ []))) (said true)
    ∷ row (said (before (3 ∷ 1 ∷ []) (3 ∷ 1 ∷ []))) (said false)
    -- {x^2, x^3} stands before {x^3, x^4}
    ∷ row (said (before_set ((2 ∷ []) ∷ (3 ∷ []) ∷ []) ((3 ∷ []) ∷ (4 ∷ []) ∷ []))) (said true)
    -- x^2 y times y z^3, and back
    ∷ row (mul (2 ∷ 1 ∷ 0 ∷ []) (0 ∷ 1 ∷ 3 ∷ []) ∷ []) ((2 ∷ 2 ∷ 3 ∷ []) ∷ [])
    ∷ row (quo (2 ∷ 2 ∷ 3 ∷ []) (0 ∷ 1 ∷ 3 ∷ []) ∷ []) ((2 ∷ 1 ∷ 0 ∷ []) ∷ [])
    ∷ row (said (divides (2 ∷ 1 ∷ []) (3 ∷ 1 ∷ []))) (said true)
    ∷ row (said (divides (2 ∷ 1 ∷ []) (9 ∷ 0 ∷ []))) (said false)
    -- 64 to the power of 6
    ∷ row ((score (replicate 6 63) ∷ []) ∷ []) ((68719476736 ∷ []) ∷ [])
    -- of the first two variables: x2 and 1 are below degree 2, x1 x2 below 3, x1^2 x2 is not; and x3 is not of the first two
    ∷ row (gather said (low 2 2 (0 ∷ 1 ∷ 0 ∷ []) ∷ low 2 2 (0 ∷ 0 ∷ 0 ∷ []) ∷ low 2 3 (1 ∷ 1 ∷ 0 ∷ []) ∷ low 2 3 (2 ∷ 1 ∷ 0 ∷ []) ∷ low 2 2 (0 ∷ 0 ∷ 1 ∷ []) ∷ []))
    ((1 ∷ []) ∷ (1 ∷ []) ∷ (1 ∷ []) ∷ (0 ∷ []) ∷ (0 ∷ []) ∷ [])
    -- the six divisors of x1^2 x2
    ∷ row (divisors (2 ∷ 1 ∷ [])) ((0 ∷ 0 ∷ []) ∷ (0 ∷ 1 ∷ []) ∷ (1 ∷ 0 ∷ []) ∷ (1 ∷ 1 ∷ []) ∷ (2 ∷ 0 ∷ []) ∷ (2 ∷ 1 ∷ []) ∷ [])
    ∷ row (next (2 ∷ 1 ∷ []) (0 ∷ 1 ∷ []) ∷ next (2 ∷ 1 ∷ []) (2 ∷ 0 ∷ []) ∷ next (2 ∷ 1 ∷ []) (2 ∷ 1 ∷ []) ∷ []) ((1 ∷ 0 ∷ []) ∷ (2 ∷ 1 ∷ []) ∷ (0 ∷ 0 ∷ []) ∷ [])
    -- x^4 has a middle pair, x^5 has none; 1 is its own pair
    ∷ row (flat (pairs (4 ∷ []))) ((0 ∷ []) ∷ (4 ∷ []) ∷ (1 ∷ []) ∷ (3 ∷ []) ∷ (2 ∷ []) ∷ (2 ∷ []) ∷ [])
    ∷ row (flat (pairs (5 ∷ []))) ((0 ∷ []) ∷ (5 ∷ []) ∷ (1 ∷ []) ∷ (4 ∷ []) ∷ (2 ∷ []) ∷ (3 ∷ []) ∷ [])
    ∷ row (flat (pairs (0 ∷ 0 ∷ []))) ((0 ∷ 0 ∷ []) ∷ (0 ∷ 0 ∷ []) ∷ [])
    -- x1^2 x2^2: nine divisors, five pairs
    ∷ row (flat (pairs (2 ∷ 2 ∷ [])))
    ((0 ∷ 0 ∷ []) ∷ (2 ∷ 2 ∷ []) ∷ (0 ∷ 1 ∷ []) ∷ (2 ∷ 1 ∷ []) ∷ (0 ∷ 2 ∷ []) ∷ (2 ∷ 0 ∷ []) ∷ (1 ∷ 0 ∷ []) ∷ (1 ∷ 2 ∷ []) ∷ (1 ∷ 1 ∷ []) ∷ (1 ∷ 1 ∷ []) ∷ [])
    ∷ []

sampled : map (λ r. r.got) table ≡ map (λ r. r.want) table
unfolding table row said flat vars all degree arrange_by insert_by pairwise dictionary pointwise score below divisors gather keep pairs next
sampled = refl
