-- The order of the pairs computed by the definitions: for so many variables, a set and a monomial, m1 of each pair in its turn. One table, one claim.
-- Assumes nothing.
use mathlib.Core.Path.{◌≡◌, refl}
use mathlib.Core.List.{List, [], ◌∷◌, ◌++◌, map}
use Prim.Native.Nat.{ℕ, ◌-◌}
use lib.ListN.{length, replicate}
use Rattle.monomial.specs.Lists.{any, keep, gather, below, pairwise, pointwise, dictionary, insert_by}
use Rattle.monomial.specs.Monomial.{Mono, vars}
use Rattle.monomial.specs.Divisors.{divisors, pairs}
use Rattle.monomial.specs.Claims.{Pair}
use Rattle.wiring.specs.Signals.{signals}
use Rattle.lister.specs.Cheap.{added, cheap, cheap_first}

record Row : Type 0 where
  got : List Mono
  want : List Mono

-- exponents that are not written are 0
padded : List ℕ → Mono
padded m = m ++ replicate (6 - length m) 0

ordered : ℕ → List (List ℕ) → List ℕ → List (List ℕ) → Row
ordered n set m firsts = record {
  got = map (λ (p : Pair). p.0) (cheap_first (signals 6 n (map padded set)) (padded m));
  want = map padded firsts;
}

table : List Row
table =
    -- x^3 and x^4: every pair is cheap, the middle one of x^4 too
    ordered 1 [] (3 ∷ []) ([] ∷ (1 ∷ []) ∷ [])
    ∷ ordered 1 [] (4 ∷ []) ([] ∷ (1 ∷ []) ∷ (2 ∷ []) ∷ [])
    -- x^5: x^2 x^3 adds two
    ∷ ordered 1 [] (5 ∷ []) ([] ∷ (1 ∷ []) ∷ (2 ∷ []) ∷ [])
    -- x^7 with x^3 in V: x^3 x^4 comes before x^2 x^5
    ∷ ordered 1 ((3 ∷ []) ∷ []) (7 ∷ []) ([] ∷ (1 ∷ []) ∷ (3 ∷ []) ∷ (2 ∷ []) ∷ [])
    -- x^7 with x^5 in V: now m2 is there
    ∷ ordered 1 ((5 ∷ []) ∷ []) (7 ∷ []) ([] ∷ (1 ∷ []) ∷ (2 ∷ []) ∷ (3 ∷ []) ∷ [])
    -- x1^2 x2^2: x2^2 x1^2 adds two, and comes behind the middle pair
    ∷ ordered 2 [] (2 ∷ 2 ∷ []) ([] ∷ (0 ∷ 1 ∷ []) ∷ (1 ∷ []) ∷ (1 ∷ 1 ∷ []) ∷ (0 ∷ 2 ∷ []) ∷ [])
    -- with x1^2 in V it is cheap
    ∷ ordered 2 ((2 ∷ []) ∷ []) (2 ∷ 2 ∷ []) ([] ∷ (0 ∷ 1 ∷ []) ∷ (0 ∷ 2 ∷ []) ∷ (1 ∷ []) ∷ (1 ∷ 1 ∷ []) ∷ [])
    -- with x1 x2 in V the middle pair adds none, and comes with the rest
    ∷ ordered 2 ((1 ∷ 1 ∷ []) ∷ []) (2 ∷ 2 ∷ []) ([] ∷ (0 ∷ 1 ∷ []) ∷ (1 ∷ []) ∷ (0 ∷ 2 ∷ []) ∷ (1 ∷ 1 ∷ []) ∷ [])
    -- x2 is not in V of one variable: x2 with x1^2 x2 adds two
    ∷ ordered 1 [] (2 ∷ 2 ∷ []) ([] ∷ (1 ∷ []) ∷ (1 ∷ 1 ∷ []) ∷ (0 ∷ 1 ∷ []) ∷ (0 ∷ 2 ∷ []) ∷ [])
    -- x1^4 x2^3 with x1 x2 and x1^2 x2^2 in V: two passes of several pairs each
    ∷ ordered 2 ((1 ∷ 1 ∷ []) ∷ (2 ∷ 2 ∷ []) ∷ []) (4 ∷ 3 ∷ [])
    ([] ∷ (0 ∷ 1 ∷ []) ∷ (1 ∷ []) ∷ (1 ∷ 1 ∷ []) ∷ (2 ∷ 1 ∷ []) ∷ (0 ∷ 2 ∷ []) ∷ (0 ∷ 3 ∷ []) ∷ (1 ∷ 2 ∷ []) ∷ (1 ∷ 3 ∷ []) ∷ (2 ∷ []) ∷ [])
    ∷ []

worked : map (λ r. r.got) table ≡ map (λ r. r.want) table
unfolding table ordered padded cheap_first cheap added pairs divisors signals vars any keep gather below pairwise pointwise dictionary insert_by
worked = refl
