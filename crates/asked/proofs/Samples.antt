-- Seven words, four or three beside what they ask for: one table, one claim. Assumes nothing.
use mathlib.Core.Path.{◌≡◌, refl}
use mathlib.Core.List.{List, [], ◌∷◌, map}
use Prim.Native.Nat.{ℕ}
use Prim.Native.String.{String}
use Rattle.monomial.specs.Lists.{some, all}
use Rattle.lines.specs.Number.{extended, number_from, number_of}
use Rattle.std.specs.Prelude.{Option, Some, None}
use Rattle.lines.proofs.Samples.{written}
use Rattle.asked.specs.declared.settings.Asked.{Asked}
use Rattle.asked.specs.declared.settings.Asked.TheVariants.{Plan, Thin, Wire}
use Rattle.asked.specs.Settings.{asked, asked_thin, asked_wire}

record Row : Type 0 where
  got : Option Asked
  want : Option Asked

number : String → Option ℕ
number word = number_of (written word)

row : String → String → String → String → String → String → String → Option Asked → Row
row a b c d e f g want = record { got = asked (number a) (number b) (number c) (number d) (number e) (number f) (number g); want = want }

thin_row : String → String → String → String → Option Asked → Row
thin_row a b c d want = record { got = asked_thin (number a) (number b) (number c) (number d); want = want }

wire_row : String → String → String → Option Asked → Row
wire_row a b c want = record { got = asked_wire (number a) (number b) (number c); want = want }

right : ℕ → ℕ → ℕ → ℕ → ℕ → ℕ → ℕ → Option Asked
right n marks degree cap limit room which = Some (Plan (record { n = n; marks = marks; degree = degree; cap = cap; limit = limit; room = room; which = which }))

table : List Row
table =
    -- N, MARKS, DEGREE, K, LIMIT, SETS and WHICH; both sides of the most room
    row "1" "0" "324" "6" "1000000" "1000" "2" (right 1 0 324 6 1000000 1000 2)
    ∷ row "1" "7" "9" "2" "3" "20000" "5" (right 1 7 9 2 3 20000 5)
    ∷ row "1" "7" "9" "2" "3" "20001" "5" None
    -- one word that is no number, in each place
    ∷ row "" "7" "9" "2" "3" "4" "5" None
    ∷ row "1" "7u" "9" "2" "3" "4" "5" None
    ∷ row "1" "7" "nine" "2" "3" "4" "5" None
    ∷ row "1" "7" "9" "-2" "3" "4" "5" None
    ∷ row "1" "7" "9" "2" "3x" "4" "5" None
    ∷ row "1" "7" "9" "2" "3" "18446744073709551616" "5" None
    ∷ row "1" "7" "9" "2" "3" "4" "1.5" None
    -- N, MARKS, DEGREE and WHICH
    ∷ thin_row "6" "4" "9" "2" (Some (Thin 6 4 9 2))
    ∷ thin_row "x" "4" "9" "2" None
    ∷ thin_row "6" "x" "9" "2" None
    ∷ thin_row "6" "4" "x" "2" None
    ∷ thin_row "6" "4" "9" "" None
    -- N, MARKS and DEGREE
    ∷ wire_row "6" "32" "3" (Some (Wire 6 32 3))
    ∷ wire_row "six" "32" "3" None
    ∷ wire_row "6" "-" "3" None
    ∷ wire_row "6" "32" "3 " None
    ∷ []

sampled : map (λ r. r.got) table ≡ map (λ r. r.want) table
unfolding table row thin_row wire_row number right written asked asked_thin asked_wire number_of number_from extended some all
sampled = refl
