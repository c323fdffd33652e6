-- Products of monomials, and bounds on exponents. Assumes nothing.
use Rattle.std.specs.Prelude.{[], ◌∷◌, ℕ, ◌≤◌, ◌+◌}
use Rattle.monomial.specs.Lists.{pointwise}
use Rattle.monomial.specs.Monomial.{Mono}

-- the product: exponents are added
abbrev pub mul : Mono → Mono → Mono
mul = pointwise ◌+◌

-- each exponent is at most b
abbrev pub AtMost : ℕ → Mono → Type 0
AtMost b [] = Unit {0}
AtMost b (e ∷ m) = (e ≤ b) × AtMost b m

-- each exponent fits the byte that holds it
abbrev pub FitsBytes : Mono → Type 0
FitsBytes = AtMost 255
