-- The lines of an answer: the five numbers, a set, a wiring record. Assumes nothing.
use Rattle.std.specs.Prelude.{ℕ, List, [], ◌∷◌, ◌++◌, map, take}
use Rattle.monomial.specs.Monomial.{Mono}
use Rattle.wiring.specs.Coefficient.{word, signed}
use Rattle.wiring.specs.Sets.{places}
use Rattle.lines.specs.Text.{newline, space, dot, decimal, signed_text, joined}

-- a text with the end of its line
abbrev pub line_of : List ℕ → List ℕ
line_of text = text ++ (newline ∷ [])

-- numbers in decimal, one space between
abbrev pub spaced : List ℕ → List ℕ
spaced numbers = joined space (map decimal numbers)

unfoldable pub reply_line : List ℕ → List ℕ
reply_line five = line_of (spaced five)

-- a set of a size by its record: exponents joined by dots, monomials by a space; the empty set is an empty line
unfoldable pub exponents : Mono → List ℕ
exponents m = joined dot (map decimal m)

unfoldable pub set_text : List ℕ → ℕ → List ℕ
set_text bytes size = joined space (map exponents (take size (places bytes)))

abbrev pub set_line : List ℕ → ℕ → List ℕ
set_line bytes size = line_of (set_text bytes size)

-- left, a, b, coefficient
unfoldable pub wire_line : List ℕ → List ℕ
wire_line bytes = line_of (joined space (map decimal (take 3 bytes) ++ (signed_text (signed (word bytes 4)) ∷ [])))
