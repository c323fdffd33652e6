-- The order of monomials: compare the exponents of x1, then of x2, and so on; the smaller exponent first.
-- Sets compare monomial by monomial. Both are the order of a dictionary. Assumes nothing.
use Rattle.std.specs.Prelude.{Bool, List, eqb, ltb}
use Rattle.monomial.specs.Lists.{pairwise, dictionary}
use Rattle.monomial.specs.Monomial.{Mono}

abbrev pub same : Mono → Mono → Bool
same = pairwise eqb

abbrev pub before : Mono → Mono → Bool
before = dictionary eqb ltb

abbrev pub same_set : List Mono → List Mono → Bool
same_set = pairwise same

abbrev pub before_set : List Mono → List Mono → Bool
before_set = dictionary same before
