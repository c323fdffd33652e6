-- Reading computed by the definitions from the bytes of the records and of the text, beside replies and sets that were worked outside the project:
-- every code, both sides of its limits, signals and kits. One table, one claim. Assumes nothing.
use mathlib.Core.Path.{◌≡◌, refl}
use mathlib.Core.List.{List, [], ◌∷◌, map}
use Prim.Native.Nat.{ℕ}
use Prim.Native.String.{String}
use Rattle.monomial.specs.Lists.{any, some, all, keep, place, gather, below, pairwise, pointwise, dictionary, insert_by, arrange_by}
use Rattle.monomial.specs.Monomial.{vars}
use Rattle.monomial.specs.Degree.{degree}
use Rattle.wiring.specs.Kit.{degree_right}
use Rattle.wiring.specs.Sockets.{panel_of, halved, marked, count_right, panel_right, free, may_be}
use Rattle.wiring.specs.Reply.{Numbers, five, Outcome}
use Rattle.wiring.specs.Coefficient.{signed, is_zero}
use Rattle.wiring.specs.Poly.{coeff, times}
use Rattle.wiring.specs.Derivative.{parts_from, derivative}
use Rattle.wiring.specs.Quadratic.{multiplied}
use Rattle.wiring.specs.Signals.{signals}
use Rattle.wiring.specs.Terms.{records, length_right, exponents_right, coefficient_right, term_right, fault_from, equation, system}
use Rattle.wiring.specs.Sets.{monomial_right, set_record}
use Rattle.reader.specs.Reader.{run, lasts, heard, noted}
use Rattle.reader.specs.Said.{said}
use Rattle.listing.specs.Lines.{unmarked, up_from, lefts, left_of, letter_of, digit_of}
use Rattle.listing.specs.Machine.{one, span, ended, spell, line_from, begin_name, begin_term, behind, in_coefficient, begin_line, eat_at, eat}
use Rattle.listing.specs.Meaning.{named, told}
use Rattle.listing.specs.Meaning as meaning
use Rattle.listing.specs.Saying.{name_said, digit_said, star_said, number_said, minus_said, term_said, saying_at, saying}
use Rattle.listing.proofs.Samples.{written}
use Rattle.truth.specs.Truth.{spoken, equal, line_true}
use Rattle.roster.specs.Roster.{distinct, forms_set}
use Rattle.desktop.specs.Lines.{line_tests, false_line, lines_said}
use Rattle.desktop.specs.Read.{judged, read_listing}

record Row : Type 0 where
  got : Outcome
  want : Outcome

-- for n variables, marks and a kit: records and a text, the five numbers, and the set
row : ℕ → ℕ → ℕ → List ℕ → String → Numbers → List (List ℕ) → Row
row n marks limit terms text numbers set = record {
  got = read_listing (panel_of n marks limit) terms (written text);
  want = record { said = numbers; bytes = set_record set };
}

-- x1' = x1^3 + x2^2; x2' = x1 + x2
system1 : List ℕ
system1 =
    1 ∷ 0 ∷ 3 ∷ 0 ∷ 0 ∷ 0 ∷ 0 ∷ 0 ∷ 1 ∷ 0 ∷ 0 ∷ 0
    ∷ 1 ∷ 0 ∷ 0 ∷ 2 ∷ 0 ∷ 0 ∷ 0 ∷ 0 ∷ 1 ∷ 0 ∷ 0 ∷ 0
    ∷ 2 ∷ 0 ∷ 1 ∷ 0 ∷ 0 ∷ 0 ∷ 0 ∷ 0 ∷ 1 ∷ 0 ∷ 0 ∷ 0
    ∷ 2 ∷ 0 ∷ 0 ∷ 1 ∷ 0 ∷ 0 ∷ 0 ∷ 0 ∷ 1 ∷ 0 ∷ 0 ∷ 0 ∷ []

-- no records
system2 : List ℕ
system2 = []

-- x1' = x1
system3 : List ℕ
system3 = 1 ∷ 0 ∷ 1 ∷ 0 ∷ 0 ∷ 0 ∷ 0 ∷ 0 ∷ 1 ∷ 0 ∷ 0 ∷ 0 ∷ []

-- x1' = 1
system4 : List ℕ
system4 = 1 ∷ 0 ∷ 0 ∷ 0 ∷ 0 ∷ 0 ∷ 0 ∷ 0 ∷ 1 ∷ 0 ∷ 0 ∷ 0 ∷ []

-- x1' = x1^2 x2 - 2 x3; x4' = - 15 x1 x3 + 7
system5 : List ℕ
system5 =
    1 ∷ 0 ∷ 2 ∷ 1 ∷ 0 ∷ 0 ∷ 0 ∷ 0 ∷ 1 ∷ 0 ∷ 0 ∷ 0
    ∷ 1 ∷ 0 ∷ 0 ∷ 0 ∷ 1 ∷ 0 ∷ 0 ∷ 0 ∷ 254 ∷ 255 ∷ 255 ∷ 255
    ∷ 4 ∷ 0 ∷ 1 ∷ 0 ∷ 1 ∷ 0 ∷ 0 ∷ 0 ∷ 241 ∷ 255 ∷ 255 ∷ 255
    ∷ 4 ∷ 0 ∷ 0 ∷ 0 ∷ 0 ∷ 0 ∷ 0 ∷ 0 ∷ 7 ∷ 0 ∷ 0 ∷ 0 ∷ []

-- x1' = x1^2 x2; x2' = - x1 x2^2
system6 : List ℕ
system6 = 1 ∷ 0 ∷ 2 ∷ 1 ∷ 0 ∷ 0 ∷ 0 ∷ 0 ∷ 1 ∷ 0 ∷ 0 ∷ 0 ∷ 2 ∷ 0 ∷ 1 ∷ 2 ∷ 0 ∷ 0 ∷ 0 ∷ 0 ∷ 255 ∷ 255 ∷ 255 ∷ 255 ∷ []

-- x1' = x1^10
system7 : List ℕ
system7 = 1 ∷ 0 ∷ 10 ∷ 0 ∷ 0 ∷ 0 ∷ 0 ∷ 0 ∷ 1 ∷ 0 ∷ 0 ∷ 0 ∷ []

-- x1' = x1 + x1
system8 : List ℕ
system8 = 1 ∷ 0 ∷ 1 ∷ 0 ∷ 0 ∷ 0 ∷ 0 ∷ 0 ∷ 1 ∷ 0 ∷ 0 ∷ 0 ∷ 1 ∷ 0 ∷ 1 ∷ 0 ∷ 0 ∷ 0 ∷ 0 ∷ 0 ∷ 1 ∷ 0 ∷ 0 ∷ 0 ∷ []

table : List Row
table =
    -- document 000's example
    row 2 0 324 system1 "Introduced variables:\nw0 = x1**2\nw1 = x2**2\n\nx1' = x1*w0 + w1\nx2' = x1 + x2\nw0' = 2*x1*w1 + 2*w0**2\nw1' = 2*x1*x2 + 2*w1\n"
    (five 0 2 0 0 0) ((0 ∷ 2 ∷ 0 ∷ 0 ∷ 0 ∷ 0 ∷ []) ∷ (2 ∷ 0 ∷ 0 ∷ 0 ∷ 0 ∷ 0 ∷ []) ∷ [])
    -- without its last newline: one past the end
    ∷ row 2 0 324 system1 "Introduced variables:\nw0 = x1**2\nw1 = x2**2\n\nx1' = x1*w0 + w1\nx2' = x1 + x2\nw0' = 2*x1*w1 + 2*w0**2\nw1' = 2*x1*x2 + 2*w1"
    (five 10 0 0 0 121) ([])
    -- a newline too many
    ∷ row 2 0 324 system1 "Introduced variables:\nw0 = x1**2\nw1 = x2**2\n\nx1' = x1*w0 + w1\nx2' = x1 + x2\nw0' = 2*x1*w1 + 2*w0**2\nw1' = 2*x1*x2 + 2*w1\n\n"
    (five 10 0 0 0 122) ([])
    -- the empty text
    ∷ row 2 0 324 system1 "" (five 10 0 0 0 1) ([])
    -- names out of order: the set comes back ascending
    ∷ row 2 0 324 system1 "Introduced variables:\nw0 = x2**2\nw1 = x1**2\n\nx1' = x1*w1 + w0\nx2' = x1 + x2\nw0' = 2*x1*x2 + 2*w0\nw1' = 2*x1*w0 + 2*w1**2\n"
    (five 0 2 0 0 0) ((0 ∷ 2 ∷ 0 ∷ 0 ∷ 0 ∷ 0 ∷ []) ∷ (2 ∷ 0 ∷ 0 ∷ 0 ∷ 0 ∷ 0 ∷ []) ∷ [])
    -- another pair, another order, like products
    ∷ row 2 0 324 system1 "Introduced variables:\nw0 = x1**2\nw1 = x2**2\n\nx1' = x2*x2 + w0*x1\nx2' = x1 + x2\nw0' = 2*x1*w1 + w0*w0 + w0**2\nw1' = 2*x1*x2 + 2*w1\n"
    (five 0 2 0 0 0) ((0 ∷ 2 ∷ 0 ∷ 0 ∷ 0 ∷ 0 ∷ []) ∷ (2 ∷ 0 ∷ 0 ∷ 0 ∷ 0 ∷ 0 ∷ []) ∷ [])
    -- false sign in the first derivative line
    ∷ row 2 0 324 system1 "Introduced variables:\nw0 = x1**2\nw1 = x2**2\n\nx1' = x1*w0 - w1\nx2' = x1 + x2\nw0' = 2*x1*w1 + 2*w0**2\nw1' = 2*x1*x2 + 2*w1\n"
    (five 11 0 0 0 5) ([])
    -- a missing term
    ∷ row 2 0 324 system1 "Introduced variables:\nw0 = x1**2\nw1 = x2**2\n\nx1' = x1*w0 + w1\nx2' = x1\nw0' = 2*x1*w1 + 2*w0**2\nw1' = 2*x1*x2 + 2*w1\n"
    (five 11 0 0 0 6) ([])
    -- a false coefficient
    ∷ row 2 0 324 system1 "Introduced variables:\nw0 = x1**2\nw1 = x2**2\n\nx1' = x1*w0 + w1\nx2' = x1 + x2\nw0' = 2*x1*w1 + 3*w0**2\nw1' = 2*x1*x2 + 2*w1\n"
    (five 11 0 0 0 7) ([])
    -- an extra term, last line
    ∷ row 2 0 324 system1 "Introduced variables:\nw0 = x1**2\nw1 = x2**2\n\nx1' = x1*w0 + w1\nx2' = x1 + x2\nw0' = 2*x1*w1 + 2*w0**2\nw1' = 2*x1*x2 + 2*w1 + 1\n"
    (five 11 0 0 0 8) ([])
    -- x3 with n = 2: at the digit
    ∷ row 2 0 324 system1 "Introduced variables:\nw0 = x1**2\nw1 = x2**2\n\nx1' = x1*w0 + w1\nx2' = x1 + x3\nw0' = 2*x1*w1 + 2*w0**2\nw1' = 2*x1*x2 + 2*w1\n"
    (five 10 0 0 0 75) ([])
    -- w2 with two names: at the digit
    ∷ row 2 0 324 system1 "Introduced variables:\nw0 = x1**2\nw1 = x2**2\n\nx1' = x1*w0 + w1\nx2' = x1 + x2\nw0' = 2*x1*w1 + 2*w0**2\nw1' = 2*x1*x2 + 2*w2\n"
    (five 10 0 0 0 120) ([])
    -- three names: at the third star
    ∷ row 2 0 324 system1 "Introduced variables:\nw0 = x1**2\nw1 = x2**2\n\nx1' = x1*w0 + w1\nx2' = x1 + x2\nw0' = 2*x1*w1 + 2*w0**2\nw1' = 2*x1*x2*x1 + 2*w1\n"
    (five 10 0 0 0 114) ([])
    -- the line of x3 is missing: at the w
    ∷ row 3 0 324 system1 "Introduced variables:\nw0 = x1**2\nw1 = x2**2\n\nx1' = x1*w0 + w1\nx2' = x1 + x2\nw0' = 2*x1*w1 + 2*w0**2\nw1' = 2*x1*x2 + 2*w1\n"
    (five 10 0 0 0 77) ([])
    -- a w where nothing is named: at the w itself
    ∷ row 1 0 324 system2 "Introduced variables:\n\nx1' = w0 - w0\n" (five 10 0 0 0 30) ([])
    -- a seventh name line: at its w
    ∷ row 1 0 324 system2 "Introduced variables:\nw0 = x1**2\nw1 = x1**3\nw2 = x1**4\nw3 = x1**5\nw4 = x1**6\nw5 = x1**7\nw6 = x1**8\n\nx1' = 0\nw0' = 0\nw1' = 0\nw2' = 0\nw3' = 0\nw4' = 0\nw5' = 0\nw6' = 0\n"
    (five 10 0 0 0 89) ([])
    -- six names
    ∷ row 1 0 324 system2 "Introduced variables:\nw0 = x1**2\nw1 = x1**3\nw2 = x1**4\nw3 = x1**5\nw4 = x1**6\nw5 = x1**7\n\nx1' = 0\nw0' = 0\nw1' = 0\nw2' = 0\nw3' = 0\nw4' = 0\nw5' = 0\n"
    (five 0 6 0 0 0) ((2 ∷ 0 ∷ 0 ∷ 0 ∷ 0 ∷ 0 ∷ []) ∷ (3 ∷ 0 ∷ 0 ∷ 0 ∷ 0 ∷ 0 ∷ []) ∷ (4 ∷ 0 ∷ 0 ∷ 0 ∷ 0 ∷ 0 ∷ [])
    ∷ (5 ∷ 0 ∷ 0 ∷ 0 ∷ 0 ∷ 0 ∷ []) ∷ (6 ∷ 0 ∷ 0 ∷ 0 ∷ 0 ∷ 0 ∷ []) ∷ (7 ∷ 0 ∷ 0 ∷ 0 ∷ 0 ∷ 0 ∷ []) ∷ [])
    -- names begin with w0: at the digit
    ∷ row 1 0 324 system2 "Introduced variables:\nw1 = x1**2\n\nx1' = 0\nw1' = 0\n" (five 10 0 0 0 24) ([])
    -- the largest coefficient
    ∷ row 1 0 324 system3 "Introduced variables:\n\nx1' = 1000000000*x1 - 999999999*x1\n" (five 0 0 0 0 0) ([])
    -- one more: at its last digit
    ∷ row 1 0 324 system3 "Introduced variables:\n\nx1' = 1000000001*x1\n" (five 10 0 0 0 39) ([])
    -- eleven digits: at the eleventh
    ∷ row 1 0 324 system3 "Introduced variables:\n\nx1' = 10000000000*x1\n" (five 10 0 0 0 40) ([])
    -- coefficient 0
    ∷ row 1 0 324 system2 "Introduced variables:\n\nx1' = 0*x1\n" (five 10 0 0 0 31) ([])
    -- a zero in a sum
    ∷ row 1 0 324 system3 "Introduced variables:\n\nx1' = x1 + 0\n" (five 10 0 0 0 35) ([])
    -- no right side
    ∷ row 1 0 324 system2 "Introduced variables:\n\nx1' = \n" (five 10 0 0 0 30) ([])
    -- x1 - x1 is true where the derivative is 0
    ∷ row 1 0 324 system2 "Introduced variables:\n\nx1' = x1 - x1\n" (five 0 0 0 0 0) ([])
    -- x1**3 in a term: at the 3
    ∷ row 1 0 324 system2 "Introduced variables:\n\nx1' = x1**3\n" (five 10 0 0 0 34) ([])
    -- x1**1 in a term: at the 1
    ∷ row 1 0 324 system3 "Introduced variables:\n\nx1' = x1**1\n" (five 10 0 0 0 34) ([])
    -- a square and then a name: at the star
    ∷ row 1 0 324 system2 "Introduced variables:\n\nx1' = x1**2*x1\n" (five 10 0 0 0 35) ([])
    -- a sum of 2^32 is not 0
    ∷ row 1 0 324 system2 "Introduced variables:\n\nx1' = 1000000000 + 1000000000 + 1000000000 + 1000000000 + 294967296\n" (five 11 0 0 0 3) ([])
    -- up and down again beyond 32 bits
    ∷ row 1 0 324 system4 "Introduced variables:\n\nx1' = 1000000000 + 1000000000 + 1000000000 + 1 - 1000000000 - 1000000000 - 1000000000\n" (five 0 0 0 0 0) ([])
    -- exponent 54
    ∷ row 2 0 324 system2 "Introduced variables:\nw0 = x1**54\n\nx1' = 0\nx2' = 0\nw0' = 0\n" (five 0 1 0 0 0) ((54 ∷ 0 ∷ 0 ∷ 0 ∷ 0 ∷ 0 ∷ []) ∷ [])
    -- exponent 55
    ∷ row 2 0 324 system2 "Introduced variables:\nw0 = x1**55\n\nx1' = 0\nx2' = 0\nw0' = 0\n" (five 8 0 0 0 0) ([])
    -- exponents that are added: 55
    ∷ row 2 0 324 system2 "Introduced variables:\nw0 = x1**27*x2*x1**28\n\nx1' = 0\nx2' = 0\nw0' = 0\n" (five 8 0 0 0 0) ([])
    -- 2^64 + 2 is no 2
    ∷ row 2 0 324 system2 "Introduced variables:\nw0 = x1**18446744073709551618\n\nx1' = 0\nx2' = 0\nw0' = 0\n" (five 8 0 0 0 0) ([])
    -- a zero in front of an exponent
    ∷ row 2 0 324 system2 "Introduced variables:\nw0 = x1**02\n\nx1' = 0\nx2' = 0\nw0' = 0\n" (five 10 0 0 0 32) ([])
    -- w0 = 1
    ∷ row 2 0 324 system2 "Introduced variables:\nw0 = 1\n\nx1' = 0\nx2' = 0\nw0' = 0\n" (five 10 0 0 0 28) ([])
    -- a variable twice, a written 1
    ∷ row 2 0 324 system2 "Introduced variables:\nw0 = x2*x1**1*x2\n\nx1' = 0\nx2' = 0\nw0' = 0\n" (five 0 1 0 0 0) ((1 ∷ 2 ∷ 0 ∷ 0 ∷ 0 ∷ 0 ∷ []) ∷ [])
    -- a single variable
    ∷ row 2 0 324 system2 "Introduced variables:\nw0 = x2**1\n\nx1' = 0\nx2' = 0\nw0' = 0\n" (five 8 0 0 0 0) ([])
    -- two names for one monomial
    ∷ row 2 0 324 system2 "Introduced variables:\nw0 = x1*x2\nw1 = x2*x1\n\nx1' = 0\nx2' = 0\nw0' = 0\nw1' = 0\n" (five 8 0 0 0 0) ([])
    -- a junior kit of 3, at its limit
    ∷ row 2 0 3 system2 "Introduced variables:\nw0 = x1**3\nw1 = x1*x2**2\n\nx1' = 0\nx2' = 0\nw0' = 0\nw1' = 0\n"
    (five 0 2 0 0 0) ((1 ∷ 2 ∷ 0 ∷ 0 ∷ 0 ∷ 0 ∷ []) ∷ (3 ∷ 0 ∷ 0 ∷ 0 ∷ 0 ∷ 0 ∷ []) ∷ [])
    -- a junior kit of 3, above its limit
    ∷ row 2 0 3 system2 "Introduced variables:\nw0 = x1**3\nw1 = x1**2*x2**2\n\nx1' = 0\nx2' = 0\nw0' = 0\nw1' = 0\n" (five 8 0 0 0 0) ([])
    -- x3 is a signal: it stands in terms and has no line
    ∷ row 4 4 324 system5 "Introduced variables:\nw0 = x1*x2\n\nx1' = x1*w0 - 2*x3\nx2' = 0\nx4' = -15*x1*x3 + 7\nw0' = w0**2 - 2*x2*x3\n"
    (five 0 1 0 0 0) ((1 ∷ 1 ∷ 0 ∷ 0 ∷ 0 ∷ 0 ∷ []) ∷ [])
    -- the signal in a name
    ∷ row 4 4 324 system5 "Introduced variables:\nw0 = x1*x3\n\nx1' = x1*w0 - 2*x3\nx2' = 0\nx4' = -15*x1*x3 + 7\nw0' = w0**2 - 2*x2*x3\n" (five 8 0 0 0 0) ([])
    -- a line for the signal: at the 3
    ∷ row 4 4 324 system5 "Introduced variables:\nw0 = x1*x2\n\nx1' = x1*w0 - 2*x3\nx2' = 0\nx3' = 0\nx4' = -15*x1*x3 + 7\nw0' = w0**2 - 2*x2*x3\n"
    (five 10 0 0 0 63) ([])
    -- all are signals: heading and blank line
    ∷ row 2 3 324 system2 "Introduced variables:\n\n" (five 0 0 0 0 0) ([])
    -- a new monomial whose derivative cancels
    ∷ row 2 0 324 system6 "Introduced variables:\nw0 = x1*x2\n\nx1' = x1*w0\nx2' = -x2*w0\nw0' = 0\n" (five 0 1 0 0 0) ((1 ∷ 1 ∷ 0 ∷ 0 ∷ 0 ∷ 0 ∷ []) ∷ [])
    -- 10 before 8 and 11
    ∷ row 1 0 324 system2 "Introduced variables:\nw0 = x1\n\nx1' = 1\nw0' = 0\n\n" (five 10 0 0 0 48) ([])
    -- 8 before 11
    ∷ row 1 0 324 system2 "Introduced variables:\nw0 = x1\n\nx1' = 1\nw0' = 0\n" (five 8 0 0 0 0) ([])
    -- 11 in the first false line of two
    ∷ row 1 0 324 system2 "Introduced variables:\nw0 = x1**2\n\nx1' = 1\nw0' = 1\n" (five 11 0 0 0 4) ([])
    -- 3 before 10
    ∷ row 1 0 324 system7 "Introduced" (five 3 0 0 0 1) ([])
    -- 4 before 10
    ∷ row 1 0 324 system8 "Introduced" (five 4 0 0 0 2) ([])
    -- marks beyond n: 1 before all else
    ∷ row 1 2 324 system7 "" (five 1 0 0 0 0) ([])
    -- a limit of 10 is refused
    ∷ row 1 0 10 system2 "Introduced variables:\n\nx1' = 0\n" (five 1 0 0 0 0) ([])
    ∷ []

worked : map (λ r. r.got) table ≡ map (λ r. r.want) table
unfolding table row system1 system2 system3 system4 system5 system6 system7 system8 written read_listing judged lines_said false_line line_tests line_true
    equal spoken multiplied forms_set distinct monomial_right exponents_right may_be free degree any some all keep place gather below pairwise pointwise
    dictionary insert_by arrange_by vars set_record signals derivative parts_from times coeff is_zero signed meaning.signed records system equation
    fault_from term_right coefficient_right length_right panel_right count_right degree_right halved marked said run lasts heard noted saying saying_at
    name_said digit_said star_said number_said minus_said term_said named told eat eat_at one span ended spell line_from begin_name begin_term behind
    in_coefficient begin_line left_of lefts letter_of digit_of unmarked up_from
worked = refl
