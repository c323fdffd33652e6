-- The total degree of a monomial, and which monomials are low: of the first n variables alone, with a degree below a bound. Assumes nothing.
use Rattle.std.specs.Prelude.{Bool, ◌&&◌, [], ◌∷◌, ℕ, ◌+◌, eqb, ltb, drop}
use Rattle.monomial.specs.Lists.{all}
use Rattle.monomial.specs.Monomial.{Mono}

-- the sum of the exponents
unfoldable pub degree : Mono → ℕ
degree [] = 0
degree (e ∷ m) = e + degree m

-- no exponent from number n on
abbrev pub within : ℕ → Mono → Bool
within n m = all (eqb 0) (drop n m)

-- of the first n variables alone, and of a degree below the bound
abbrev pub low : ℕ → ℕ → Mono → Bool
low n bound m = ltb (degree m) bound && within n m
