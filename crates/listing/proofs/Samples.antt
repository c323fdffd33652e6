-- Texts beside what is said of them: one table, one claim. Assumes nothing.
use mathlib.Core.Path.{◌≡◌, refl}
use mathlib.Core.List.{List, [], ◌∷◌, map}
use Prim.Native.Char.{code}
use Prim.Native.Nat.{ℕ}
use Prim.Native.String.{String, [] as nothing, ◌∷◌ as ◌then◌}
use Rattle.listing.specs.Lines.{unmarked, up_from, lefts, left_of, letter_of, digit_of}
use Rattle.listing.specs.Machine.{one, span, ended, spell, line_from, begin_name, begin_term, behind, in_coefficient, begin_line, eat_at, eat}
use Rattle.wiring.specs.Sockets.{halved, marked}
use Rattle.reader.specs.Reader.{run, lasts}
use Rattle.reader.specs.Said.{Verdict, whole, broken, said}
use Rattle.listing.specs.Readable.{listing}

unfoldable pub written : String → List ℕ
written nothing = []
written (c then s) = code c ∷ written s

record Row : Type 0 where
  got : Verdict
  want : Verdict

-- for n variables, marks and cards: a text, and what is said of it
row : ℕ → ℕ → ℕ → String → Verdict → Row
row n marks cards text want = record { got = said (listing (record { n = n; marks = marks; cards = cards })) (written text); want = want }

table : List Row
table =
    -- document 000's example, whole, cut at its end, with a byte more, and with a line gone
    row 2 0 6 "Introduced variables:\nw0 = x1**2\nw1 = x2**2\n\nx1' = x1*w0 + w1\nx2' = x1 + x2\nw0' = 2*x1*w1 + 2*w0**2\nw1' = 2*x1*x2 + 2*w1\n" whole
    ∷ row 2 0 6 "Introduced variables:\nw0 = x1**2\nw1 = x2**2\n\nx1' = x1*w0 + w1\nx2' = x1 + x2\nw0' = 2*x1*w1 + 2*w0**2\nw1' = 2*x1*x2 + 2*w1" (broken 121)
    ∷ row 2 0 6 "Introduced variables:\nw0 = x1**2\nw1 = x2**2\n\nx1' = x1*w0 + w1\nx2' = x1 + x2\nw0' = 2*x1*w1 + 2*w0**2\nw1' = 2*x1*x2 + 2*w1\n\n" (broken 122)
    ∷ row 2 0 6 "Introduced variables:\nw0 = x1**2\nw1 = x2**2\n\nx1' = x1*w0 + w1\nx2' = x1 + x2\nw0' = 2*x1*w1 + 2*w0**2\nw1' = 2*x1*x2 + 2*w1\nx" (broken 122)
    ∷ row 2 0 6 "Introduced variables:\nw0 = x1**2\nw1 = x2**2\n\nx1' = x1*w0 + w1\nw0' = 2*x1*w1 + 2*w0**2\nw1' = 2*x1*x2 + 2*w1\n" (broken 63)
    ∷ row 2 0 6 "Introduced variables:\nw0 = x1**2\nw1 = x2**2\n\nx1' = x1*w0 + w1\nx1' = x1 + x2\nw0' = 2*x1*w1 + 2*w0**2\nw1' = 2*x1*x2 + 2*w1\n" (broken 64)
    -- no text, the heading alone, a heading that is not the tool's
    ∷ row 1 0 6 "" (broken 1)
    ∷ row 1 0 6 "Introduced variables:\n" (broken 23)
    ∷ row 1 0 6 "Introduced variables: \n" (broken 22)
    ∷ row 1 0 6 "introduced variables:\n" (broken 1)
    -- right sides: a lone 0, signs, constants, squares, repeats
    ∷ row 1 0 6 "Introduced variables:\n\nx1' = 0\n" whole
    ∷ row 1 0 6 "Introduced variables:\n\nx1' = -x1\n" whole
    ∷ row 1 0 6 "Introduced variables:\n\nx1' = 5 - 7*x1 + 3*x1**2 - x1*x1\n" whole
    ∷ row 1 0 6 "Introduced variables:\n\nx1' = x1 - x1\n" whole
    ∷ row 1 0 6 "Introduced variables:\n\nx1' = -1000000000*x1\n" whole
    -- a coefficient that is too large, that is 0, that has a zero in front, that is no whole number
    ∷ row 1 0 6 "Introduced variables:\n\nx1' = 1000000001\n" (broken 39)
    ∷ row 1 0 6 "Introduced variables:\n\nx1' = 10000000000\n" (broken 40)
    ∷ row 1 0 6 "Introduced variables:\n\nx1' = x1 + 0\n" (broken 35)
    ∷ row 1 0 6 "Introduced variables:\n\nx1' = 0*x1\n" (broken 31)
    ∷ row 1 0 6 "Introduced variables:\n\nx1' = -0\n" (broken 31)
    ∷ row 1 0 6 "Introduced variables:\n\nx1' = 01*x1\n" (broken 31)
    ∷ row 1 0 6 "Introduced variables:\n\nx1' = 00\n" (broken 31)
    ∷ row 1 0 6 "Introduced variables:\n\nx1' = 1.5*x1\n" (broken 31)
    -- unknown names, three names, powers other than 2, a number behind a name
    ∷ row 1 0 6 "Introduced variables:\n\nx1' = x2\n" (broken 31)
    ∷ row 1 0 6 "Introduced variables:\n\nx1' = w0\n" (broken 30)
    ∷ row 1 0 6 "Introduced variables:\n\nx1' = x0\n" (broken 31)
    ∷ row 1 0 6 "Introduced variables:\n\nx1' = x1*w0\n" (broken 33)
    ∷ row 1 0 6 "Introduced variables:\n\nx1' = x1*x1*x1\n" (broken 35)
    ∷ row 1 0 6 "Introduced variables:\n\nx1' = x1**2*x1\n" (broken 35)
    ∷ row 1 0 6 "Introduced variables:\n\nx1' = x1**3\n" (broken 34)
    ∷ row 1 0 6 "Introduced variables:\n\nx1' = x1**22\n" (broken 35)
    ∷ row 1 0 6 "Introduced variables:\n\nx1' = x1*2\n" (broken 33)
    ∷ row 1 0 6 "Introduced variables:\n\nx1' = 2*3*x1\n" (broken 32)
    ∷ row 1 0 6 "Introduced variables:\n\nx1' = x10\n" (broken 32)
    -- spaces and signs out of place
    ∷ row 1 0 6 "Introduced variables:\n\nx1' = x1+x1\n" (broken 32)
    ∷ row 1 0 6 "Introduced variables:\n\nx1' = x1  + x1\n" (broken 33)
    ∷ row 1 0 6 "Introduced variables:\n\nx1' = x1 +x1\n" (broken 34)
    ∷ row 1 0 6 "Introduced variables:\n\nx1' = x1 + -x1\n" (broken 35)
    ∷ row 1 0 6 "Introduced variables:\n\nx1' = --x1\n" (broken 31)
    ∷ row 1 0 6 "Introduced variables:\n\nx1' = +x1\n" (broken 30)
    ∷ row 1 0 6 "Introduced variables:\n\nx1' =  x1\n" (broken 30)
    ∷ row 1 0 6 "Introduced variables:\n\nx1' = x1 \n" (broken 33)
    ∷ row 1 0 6 "Introduced variables:\n\nx1' = \n" (broken 30)
    ∷ row 1 0 6 "Introduced variables:\n\nx1' = x1 * x1\n" (broken 33)
    -- names of the first part: any exponent, 1 too, repeats; no 0, no zero in front, not 1
    ∷ row 1 0 6 "Introduced variables:\nw0 = x1**2\n\nx1' = x1*w0\nw0' = 0\n" whole
    ∷ row 1 0 6 "Introduced variables:\nw0 = x1**1*x1*x1**99999999999999999999\n\nx1' = w0*w0\nw0' = 0\n" whole
    ∷ row 1 0 6 "Introduced variables:\nw0 = x1**0\n\nx1' = w0\nw0' = 0\n" (broken 32)
    ∷ row 1 0 6 "Introduced variables:\nw0 = x1**02\n\nx1' = w0\nw0' = 0\n" (broken 32)
    ∷ row 1 0 6 "Introduced variables:\nw0 = 1\n\nx1' = w0\nw0' = 0\n" (broken 28)
    ∷ row 1 0 6 "Introduced variables:\nw0 = 2*x1\n\nx1' = w0\nw0' = 0\n" (broken 28)
    ∷ row 1 0 6 "Introduced variables:\nw0 = x1**\n\nx1' = w0\nw0' = 0\n" (broken 32)
    ∷ row 1 0 6 "Introduced variables:\nw0 = x1***2\n\nx1' = w0\nw0' = 0\n" (broken 32)
    ∷ row 1 0 6 "Introduced variables:\nw0 = x1**2**2\n\nx1' = w0\nw0' = 0\n" (broken 34)
    ∷ row 1 0 6 "Introduced variables:\nw0 = x2\n\nx1' = w0\nw0' = 0\n" (broken 29)
    ∷ row 1 0 6 "Introduced variables:\nw0 = x1*w0\n\nx1' = w0\nw0' = 0\nw1' = 0\n" (broken 31)
    ∷ row 1 0 6 "Introduced variables:\nw0 = -x1\n\nx1' = w0\nw0' = 0\n" (broken 28)
    -- names in number order, as many as there are cards
    ∷ row 1 0 2 "Introduced variables:\nw0 = x1**2\nw1 = x1**3\n\nx1' = 0\nw0' = 0\nw1' = 0\n" whole
    ∷ row 1 0 2 "Introduced variables:\nw0 = x1**2\nw1 = x1**3\nw2 = x1**4\n\nx1' = 0\nw0' = 0\nw1' = 0\nw2' = 0\n" (broken 45)
    ∷ row 1 0 6 "Introduced variables:\nw1 = x1**2\n\nx1' = 0\nw0' = 0\n" (broken 24)
    ∷ row 1 0 6 "Introduced variables:\nw0 = x1**2\nw0 = x1**2\n\nx1' = 0\nw0' = 0\nw1' = 0\n" (broken 35)
    ∷ row 1 0 6 "Introduced variables:\nw0 = x1**2\n\nx1' = w1\nw0' = 0\n" (broken 42)
    ∷ row 1 0 0 "Introduced variables:\nw0 = x1**2\n\nx1' = 0\nw0' = 0\n" (broken 23)
    -- signals have no line; the second of three, the last, all
    ∷ row 3 2 6 "Introduced variables:\n\nx1' = x2\nx3' = x2*x1\n" whole
    ∷ row 3 2 6 "Introduced variables:\n\nx1' = x2\nx2' = 0\nx3' = x2*x1\n" (broken 34)
    ∷ row 2 2 6 "Introduced variables:\nw0 = x1*x2\n\nx1' = x2\nw0' = w0\n" whole
    ∷ row 2 3 6 "Introduced variables:\n\n" whole
    ∷ row 2 3 6 "Introduced variables:\nw0 = x1\n\nw0' = 0\n" whole
    ∷ row 2 3 6 "Introduced variables:\n\nx1' = 0\n" (broken 24)
    -- nine of each
    ∷ row 9 0 9 "Introduced variables:\nw0 = x1\nw1 = x2\nw2 = x3\nw3 = x4\nw4 = x5\nw5 = x6\nw6 = x7\nw7 = x8\nw8 = x9\n\nx1' = w8*x9\nx2' = w7*x8\nx3' = w6*x7\nx4' = w5*x6\nx5' = w4*x5\nx6' = w3*x4\nx7' = w2*x3\nx8' = w1*x2\nx9' = w0*x1\nw0' = 0\nw1' = 0\nw2' = 0\nw3' = 0\nw4' = 0\nw5' = 0\nw6' = 0\nw7' = 0\nw8' = 0\n" whole
    -- a line's name is that of its number, with a prime and an equals sign
    ∷ row 2 0 6 "Introduced variables:\n\nx2' = 0\n" (broken 25)
    ∷ row 2 0 6 "Introduced variables:\n\nx1 = 0\n" (broken 26)
    ∷ row 2 0 6 "Introduced variables:\n\nx1'= 0\n" (broken 27)
    ∷ row 2 0 6 "Introduced variables:\nx1' = 0\n" (broken 23)
    ∷ []

sampled : map (λ r. r.got) table ≡ map (λ r. r.want) table
unfolding table row written said run lasts eat eat_at one span ended spell line_from begin_name begin_term behind in_coefficient begin_line left_of lefts letter_of digit_of unmarked up_from marked halved
sampled = refl
