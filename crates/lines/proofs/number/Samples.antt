-- Words beside the numbers that they are: one table, one claim. Assumes nothing.
use Rattle.std.proofs.Common.{◌≡◌, ℕ, List, [], ◌∷◌, map, refl}
use Prim.Native.String.{String}
use Rattle.monomial.specs.Lists.{some, all}
use Rattle.lines.proofs.Samples.{written}
use Rattle.lines.specs.Number.{extended, number_from, number_of}
use Rattle.std.specs.Prelude.{Option, Some, None}

record Row : Type 0 where
  got : Option ℕ
  want : Option ℕ

row : String → Option ℕ → Row
row word want = record { got = number_of (written word); want = want }

table : List Row
table =
    -- leading zeros, and both sides of 2^64
    row "0" (Some 0)
    ∷ row "7" (Some 7)
    ∷ row "007" (Some 7)
    ∷ row "90" (Some 90)
    ∷ row "1000000000" (Some 1000000000)
    ∷ row "18446744073709551615" (Some 18446744073709551615)
    ∷ row "000018446744073709551615" (Some 18446744073709551615)
    ∷ row "18446744073709551616" None
    ∷ row "18446744073709551620" None
    ∷ row "18446744073709551625" None
    ∷ row "100000000000000000000" None
    ∷ row "184467440737095516160" None
    -- no digit, a sign, a space, the bytes beside the digits, another base
    ∷ row "" None
    ∷ row "-1" None
    ∷ row "+1" None
    ∷ row "1 " None
    ∷ row " 1" None
    ∷ row "1/" None
    ∷ row "1:" None
    ∷ row "12a" None
    ∷ row "1.0" None
    ∷ row "0x10" None
    ∷ []

sampled : map (λ r. r.got) table ≡ map (λ r. r.want) table
unfolding table row written number_of number_from extended some all
sampled = refl
