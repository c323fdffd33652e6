-- The divisors of a monomial, how many there are, and its factor pairs. Assumes nothing.
use Rattle.std.specs.Prelude.{Bool, not, cond, List, [], ◌∷◌, map, ℕ, suc, ◌*◌, ltb, length}
use Rattle.monomial.specs.Lists.{keep, gather, below}
use Rattle.monomial.specs.Monomial.{Mono, one}
use Rattle.monomial.specs.Order.{before}
use Rattle.monomial.specs.Quotient.{quo, divides}

-- the score: the product of (exponent + 1) over all variables
unfoldable pub score : Mono → ℕ
score [] = 1
score (e ∷ m) = suc e * score m

-- the monomials that divide m, ascending
unfoldable pub divisors : Mono → List Mono
divisors [] = [] ∷ []
divisors (e ∷ m) = let r = divisors m in gather (λ x. map (◌∷◌ x) r) (below (suc e))

-- d is the first of its pair: d <= m/d
abbrev pub leads : Mono → Mono → Bool
leads m d = not (before (quo m d) d)

-- the factor pairs m1, m2 of m with m1 <= m2, by ascending m1
unfoldable pub pairs : Mono → List (Mono × Mono)
pairs m = map (λ d. (d, quo m d)) (keep (leads m) (divisors m))

-- the divisor of m that follows d: the last exponent that can rise does, and those behind it go back to 0. 1 follows m
unfoldable pub next : Mono → Mono → Mono
next [] d = []
next (e ∷ m) [] = []
next (e ∷ m) (x ∷ d) = let r = next m d in cond (divides m d) (cond (ltb x e) (suc x) 0 ∷ one (length m)) (x ∷ r)
