-- Texts beside what they say: one table, one claim. Assumes nothing.
use mathlib.Core.Path.{◌≡◌, refl}
use mathlib.Core.List.{List, [], ◌∷◌, map}
use Prim.Native.Nat.{ℕ}
use Prim.Native.String.{String}
use lib.IntN.{ℤ, pos, negsuc}
use Rattle.wiring.specs.Sockets.{halved, marked}
use Rattle.reader.specs.Reader.{heard, noted}
use Rattle.listing.specs.Lines.{unmarked, up_from, lefts, left_of, letter_of, digit_of}
use Rattle.listing.specs.Machine.{one, span, ended, spell, line_from, begin_name, begin_term, behind, in_coefficient, begin_line, eat_at, eat}
use Rattle.listing.specs.Meaning.{Product, named, signed, told, names, lines}
use Rattle.listing.specs.Saying.{name_said, digit_said, star_said, number_said, minus_said, term_said, saying_at, saying}
use Rattle.listing.proofs.Samples.{written}

record Said : Type 0 where
  names : List (List ℕ)
  lines : List (List Product)

record Row : Type 0 where
  got : Said
  want : Said

p : ℕ → ℕ → ℤ → Product
p a b c = record { a = a; b = b; coefficient = c }

-- for n variables, marks and cards: a text, its monomials and its lines
row : ℕ → ℕ → ℕ → String → List (List ℕ) → List (List Product) → Row
row n marks cards text monomials products = record {
  got = record {
    names = names (record { n = n; marks = marks; cards = cards }) (written text);
    lines = lines (record { n = n; marks = marks; cards = cards }) (written text);
  };
  want = record { names = monomials; lines = products };
}

table : List Row
table =
    -- document 000's example
    row 2 0 6 "Introduced variables:\nw0 = x1**2\nw1 = x2**2\n\nx1' = x1*w0 + w1\nx2' = x1 + x2\nw0' = 2*x1*w1 + 2*w0**2\nw1' = 2*x1*x2 + 2*w1\n"
    ((2 ∷ 0 ∷ 0 ∷ 0 ∷ 0 ∷ 0 ∷ []) ∷ (0 ∷ 2 ∷ 0 ∷ 0 ∷ 0 ∷ 0 ∷ []) ∷ [])
    ((p 1 3 (pos 1) ∷ p 0 4 (pos 1) ∷ []) ∷ (p 0 1 (pos 1) ∷ p 0 2 (pos 1) ∷ []) ∷ (p 1 4 (pos 2) ∷ p 3 3 (pos 2) ∷ []) ∷ (p 1 2 (pos 2) ∷ p 0 4 (pos 2) ∷ []) ∷ [])
    -- signs, coefficients, constants, squares; a term's names in their order
    ∷ row 3 2 6 "Introduced variables:\nw0 = x3*x1**2*x3**10\nw1 = x2**1*x2\n\nx1' = -5*x1**2 + x1 - w1*w0 - 1000000000 + 7\nx3' = 0\nw0' = w0**2\nw1' = 12*x3*w1 - 3*w1\n"
    ((2 ∷ 0 ∷ 11 ∷ 0 ∷ 0 ∷ 0 ∷ []) ∷ (0 ∷ 2 ∷ 0 ∷ 0 ∷ 0 ∷ 0 ∷ []) ∷ [])
    ((p 1 1 (negsuc 4) ∷ p 0 1 (pos 1) ∷ p 5 4 (negsuc 0) ∷ p 0 0 (negsuc 999999999) ∷ p 0 0 (pos 7) ∷ []) ∷ ([]) ∷ (p 4 4 (pos 1) ∷ []) ∷ (p 3 5 (pos 12) ∷ p 0 5 (negsuc 2) ∷ []) ∷ [])
    -- no line; a zero derivative; a cancelled term stays
    ∷ row 2 3 6 "Introduced variables:\n\n"
    ([])
    ([])
    ∷ row 1 0 6 "Introduced variables:\n\nx1' = x1 - x1\n"
    ([])
    ((p 0 1 (pos 1) ∷ p 0 1 (negsuc 0) ∷ []) ∷ [])
    ∷ row 1 0 6 "Introduced variables:\nw0 = x1**2*x1**30\n\nx1' = -1\nw0' = 0\n"
    ((32 ∷ 0 ∷ 0 ∷ 0 ∷ 0 ∷ 0 ∷ []) ∷ [])
    ((p 0 0 (negsuc 0) ∷ []) ∷ ([]) ∷ [])
    ∷ []

sampled : map (λ r. r.got) table ≡ map (λ r. r.want) table
unfolding table row p written heard noted saying saying_at name_said digit_said star_said number_said minus_said term_said named told signed eat eat_at one span ended spell line_from begin_name begin_term behind in_coefficient begin_line left_of lefts letter_of digit_of unmarked up_from marked halved
sampled = refl
