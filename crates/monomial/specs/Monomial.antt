-- A monomial is the list of its exponents, that of x1 first. Its width is the number of variables.
-- Assumes nothing.
use Rattle.std.specs.Prelude.{List, [], ◌∷◌, map, ℕ, zero, suc, replicate}

abbrev pub Mono : Type 0
Mono = List ℕ

-- the panel's variables: so many exponents has a monomial of the panel
abbrev pub width : ℕ
width = 6

-- the constant 1
abbrev pub one : ℕ → Mono
one w = replicate w 0

-- the single variables, x1 first
unfoldable pub vars : ℕ → List Mono
vars zero = []
vars (suc w) = (1 ∷ one w) ∷ map (◌∷◌ 0) (vars w)

-- the named constants by their signal numbers: 0 is 1, then x1, x2, ..
abbrev pub constants : ℕ → List Mono
constants w = one w ∷ vars w
