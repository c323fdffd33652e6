-- Whether a line is true: its products, multiplied out, are the derivative of its signal, coefficient by coefficient. Assumes nothing.
use Rattle.std.specs.Prelude.{Bool, List, ◌++◌, map, ℕ, ◌-ℤ◌}
use Rattle.monomial.specs.Lists.{all}
use Rattle.monomial.specs.Monomial.{Mono}
use Rattle.wiring.specs.Coefficient.{is_zero}
use Rattle.wiring.specs.Poly.{Poly, plain, monos, coeff}
use Rattle.wiring.specs.Derivative.{derivative}
use Rattle.wiring.specs.Quadratic.{multiplied}
use Rattle.wiring.specs.Quadratic as quadratic
use Rattle.wiring.specs.Wires.{signal}
use Rattle.listing.specs.Meaning.{Product}

-- a product of signals by their numbers, as one of their monomials
abbrev pub as_product : List Mono → Product → quadratic.Product Mono
as_product v p = record { a = signal plain v p.a; b = signal plain v p.b; coefficient = p.coefficient }

-- a line multiplied out
unfoldable pub spoken : List Mono → List Product → Poly Mono
spoken v line = multiplied plain v (map (as_product v) line)

-- two polynomials have the same coefficient at each monomial of either
unfoldable pub equal : Poly Mono → Poly Mono → Bool
equal p q = all (λ m. is_zero (coeff plain p m -ℤ coeff plain q m)) (monos p ++ monos q)

-- the line of signal number left
unfoldable pub line_true : List Mono → List (Poly Mono) → ℕ → List Product → Bool
line_true v fs left line = equal (spoken v line) (derivative plain fs (signal plain v left))
