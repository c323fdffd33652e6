-- The counting rule computed, beside rows that were worked by hand from document 001, section 5.1. One table, one claim. Assumes nothing.
use mathlib.Core.Path.{◌≡◌, refl}
use mathlib.Core.Bool.{Bool, true, false}
use mathlib.Core.List.{List, [], ◌∷◌, map}
use Prim.Native.Nat.{ℕ}
use lib.Dec.{eqb, leb}
use lib.ListN.{get_or}
use Rattle.monomial.specs.Lists.{any, keep, gather, pairwise, pointwise, dictionary, insert_by, arrange_by}
use Rattle.monomial.specs.Monomial.{Mono}
use Rattle.monomial.specs.Degree.{degree}
use Rattle.counting.specs.Counting.{quotients_of, count, insert_down, sort_down, counts, sum, may_do, least_from, needed, closes, shares}

-- numbers that the definitions give, and those that are expected
record Row : Type 0 where
  got : List ℕ
  want : List ℕ

row : List ℕ → List ℕ → Row
row g w = record { got = g; want = w }

-- 1 and x; 1, x1 and x2
line : List Mono
line = (0 ∷ []) ∷ (1 ∷ []) ∷ []

plane : List Mono
plane = (0 ∷ 0 ∷ []) ∷ (1 ∷ 0 ∷ []) ∷ (0 ∷ 1 ∷ []) ∷ []

-- everything may be; what does not hold x2; what has a total degree of at most d
all : Mono → Bool
all m = true

left : Mono → Bool
left m = eqb (get_or m 1 0) 0

within : ℕ → Mono → Bool
within d m = leb (degree m) d

-- how many more are needed, in V of one variable, and of two
alone : List Mono → ℕ
alone ns = needed all line ns

both : List Mono → ℕ
both ns = needed all plane ns

-- a test as a number
said : Bool → ℕ
said true = 1
said false = 0

table : List Row
table =
    -- no nonsquare needs none; x^3 needs one: its quotients x^3 and x^2 occur once each, and 1 <= 1 + 1
    row (alone [] ∷ alone ((3 ∷ []) ∷ []) ∷ []) (0 ∷ 1 ∷ [])
    -- x^3 and x^4: the quotient x^3 occurs twice
    ∷ row (counts (gather (quotients_of all line) ((3 ∷ []) ∷ (4 ∷ []) ∷ []))) (2 ∷ 1 ∷ 1 ∷ [])
    ∷ row (alone ((3 ∷ []) ∷ (4 ∷ []) ∷ []) ∷ []) (1 ∷ [])
    -- no quotient occurs twice: two nonsquares need one, 2 <= 1 + 1; three and five need two, 5 <= 2 + 3; six need three
    ∷ row (alone ((3 ∷ []) ∷ (5 ∷ []) ∷ []) ∷ alone ((3 ∷ []) ∷ (5 ∷ []) ∷ (7 ∷ []) ∷ []) ∷ []) (1 ∷ 2 ∷ [])
    ∷ row (alone ((3 ∷ []) ∷ (5 ∷ []) ∷ (7 ∷ []) ∷ (9 ∷ []) ∷ (11 ∷ []) ∷ []) ∷ []) (2 ∷ [])
    ∷ row (alone ((3 ∷ []) ∷ (5 ∷ []) ∷ (7 ∷ []) ∷ (9 ∷ []) ∷ (11 ∷ []) ∷ (13 ∷ []) ∷ []) ∷ []) (3 ∷ [])
    -- x1^4, x1^3 x2 and x1^2 x2^3: x1^3 stands for two of them, and 3 <= 2 + 1; one more that shares no quotient, and 4 <= 2 + 1 fails
    ∷ row (both ((2 ∷ 3 ∷ []) ∷ (3 ∷ 1 ∷ []) ∷ (4 ∷ 0 ∷ []) ∷ []) ∷ []) (1 ∷ [])
    ∷ row (both ((0 ∷ 9 ∷ []) ∷ (2 ∷ 3 ∷ []) ∷ (3 ∷ 1 ∷ []) ∷ (4 ∷ 0 ∷ []) ∷ []) ∷ []) (2 ∷ [])
    -- x1 u^2 and x1^2 u^2 share x1 u^2; where u is a signal no quotient is left, and one new monomial makes only its square
    ∷ row (both ((1 ∷ 2 ∷ []) ∷ (2 ∷ 2 ∷ []) ∷ []) ∷ needed left plane ((1 ∷ 2 ∷ []) ∷ (2 ∷ 2 ∷ []) ∷ []) ∷ []) (1 ∷ 2 ∷ [])
    -- closed with room for one, and not with room for two
    ∷ row (said (closes left 1 plane ((1 ∷ 2 ∷ []) ∷ (2 ∷ 2 ∷ []) ∷ [])) ∷ said (closes left 2 plane ((1 ∷ 2 ∷ []) ∷ (2 ∷ 2 ∷ []) ∷ [])) ∷ []) (1 ∷ 0 ∷ [])
    -- x^5 and x^6 share x^5; up to x^4 a single quotient is left, and 2 <= 1 + 1; up to x^3 none is
    ∷ row (alone ((5 ∷ []) ∷ (6 ∷ []) ∷ []) ∷ needed (within 4) line ((5 ∷ []) ∷ (6 ∷ []) ∷ []) ∷ needed (within 3) line ((5 ∷ []) ∷ (6 ∷ []) ∷ []) ∷ []) (1 ∷ 1 ∷ 2 ∷ [])
    -- x1^2 x2^3 and x1^3 x2^2 share x1^2 x2^2, whose total degree is 4, though no exponent is above 2
    ∷ row (needed (within 4) plane ((2 ∷ 3 ∷ []) ∷ (3 ∷ 2 ∷ []) ∷ []) ∷ needed (within 3) plane ((2 ∷ 3 ∷ []) ∷ (3 ∷ 2 ∷ []) ∷ []) ∷ []) (1 ∷ 2 ∷ [])
    -- x1^3 x2 is x1^3 times a member of V, x1^3 x2^2 is not
    ∷ row (said (shares plane (3 ∷ 0 ∷ []) (3 ∷ 1 ∷ [])) ∷ said (shares plane (3 ∷ 0 ∷ []) (3 ∷ 2 ∷ [])) ∷ []) (1 ∷ 0 ∷ [])
    ∷ []

worked : map (λ r. r.got) table ≡ map (λ r. r.want) table
unfolding table row line plane all left within degree alone both said shares closes needed least_from may_do sum counts sort_down insert_down count quotients_of any keep gather
    pairwise pointwise dictionary insert_by arrange_by
worked = refl
