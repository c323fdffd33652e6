-- The signals of a set, by their numbers: 0 is the constant 1, 1 to n the variables, then the new monomials in set order. They are V.
-- Assumes nothing.
use Rattle.std.specs.Prelude.{◌≡◌, List, map, ℕ, ◌*◌, ◌/◌, length, take, drop}
use Rattle.monomial.specs.Lists.{gather, below}
use Rattle.monomial.specs.Monomial.{Mono, width}
use Rattle.monomial.specs.Product.{AtMost}
use Rattle.monomial.specs.declared.Monomial.{Monomial}
use Rattle.monomial.specs.Claims.{◌∈◌}
use Rattle.wiring.specs.Poly.{plain}
use Rattle.wiring.specs.Quadratic.{members}
use Rattle.wiring.specs.declared.held.Signals.{Signals}

unfoldable pub signals : ℕ → ℕ → List Mono → List Mono
signals w n s = members plain w n s

-- the first monomials of an array, as lists of exponents
abbrev pub front : ℕ → List Monomial → List Mono
front len ms = take len (map (λ m. m.e) ms)

-- monomials side by side, and the monomials that stand so in bytes
abbrev pub flat : List Mono → List ℕ
flat l = gather (λ m. m) l

unfoldable pub tabled : List ℕ → List Mono
tabled bytes = map (λ i. take width (drop (width * i) bytes)) (below (length bytes / width))

-- the first len of them
abbrev pub listed : ℕ → List ℕ → List Mono
listed len bytes = tabled (take (width * len) bytes)

-- V of a set whose monomials stand so
abbrev pub signals_at : ℕ → List ℕ → List Mono
signals_at n bytes = signals width n (tabled bytes)

-- each monomial of the list has the panel's width, and no exponent above b
abbrev pub Fitting : ℕ → List Mono → Type 0
Fitting b l = (m : Mono) → m ∈ l → (length m ≡ width) × AtMost b m

abbrev pub signals_of : Signals → List Mono
signals_of v = front v.len v.m
