-- The kit: which limits on the total degree of a new monomial it may have. Assumes nothing.
use Rattle.std.specs.Prelude.{Bool, ◌&&◌, ◌||◌, ℕ, eqb, leb}
use Rattle.wiring.specs.Panel.{junior_least, junior_most, full_degree}

-- the full kit's, or one that a junior kit is printed with
unfoldable pub degree_right : ℕ → Bool
degree_right d = eqb d full_degree || (leb junior_least d && leb d junior_most)
