-- Quotients of monomials. Assumes nothing.
use Rattle.std.specs.Prelude.{Bool, ◌-◌, leb}
use Rattle.monomial.specs.Lists.{pairwise, pointwise}
use Rattle.monomial.specs.Monomial.{Mono}

-- the first divides the second
abbrev pub divides : Mono → Mono → Bool
divides = pairwise leb

-- the quotient: exponents are taken away. It means something where the second divides the first
abbrev pub quo : Mono → Mono → Mono
quo = pointwise ◌-◌
