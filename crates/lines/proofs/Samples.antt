-- Lines beside their text: one table, one claim. Assumes nothing.
use Rattle.std.proofs.Common.{◌≡◌, ℕ, List, [], ◌∷◌, ◌++◌, map, replicate, ℤ, pos, negsuc, refl}
use Prim.Native.Char.{code}
use Prim.Native.String.{String, [] as nothing, ◌∷◌ as ◌then◌}
use Rattle.io.specs.Digits.{last_digits}
use Rattle.monomial.specs.Lists.{below, gather}
use Rattle.monomial.specs.Monomial.{Mono}
use Rattle.wiring.specs.Coefficient.{signed, unsigned}
use Rattle.wiring.specs.Sets.{places, set_record}
use Rattle.wiring.specs.Wires.{wire_record}
use Rattle.lines.specs.Text.{newline, decimal_within, decimal, signed_text, joined}
use Rattle.lines.specs.Answer.{reply_line, exponents, set_text, set_line, wire_line}
use Rattle.lines.specs.Digest.{digest_from, digest}
use Rattle.lines.specs.Case.{hex_text, buffer_text, case_line}

-- the bytes of a text, and of a line
unfoldable pub written : String → List ℕ
written nothing = []
written (c then s) = code c ∷ written s

unfoldable pub line : String → List ℕ
line s = written s ++ (newline ∷ [])

record Row : Type 0 where
  got : List ℕ
  want : List ℕ

row : List ℕ → List ℕ → Row
row got want = record { got = got; want = want }

-- a power of x1, the line of a set, and the line of a wiring record
x1 : ℕ → Mono
x1 e = e ∷ replicate 5 0

set : List Mono → ℕ → List ℕ
set s size = set_line (set_record s) size

wire : ℕ → ℕ → ℕ → ℤ → List ℕ
wire left a b c = wire_line (wire_record (record { left = left; a = a; b = b; coefficient = c }))

table : List Row
table =
    -- document 01's example, line by line
    row (reply_line (0 ∷ 2 ∷ 2 ∷ 23 ∷ 0 ∷ [])) (line "0 2 2 23 0")
    ∷ row (set (x1 2 ∷ x1 3 ∷ []) 2) (line "2.0.0.0.0.0 3.0.0.0.0.0")
    ∷ row (set (x1 3 ∷ x1 4 ∷ []) 2) (line "3.0.0.0.0.0 4.0.0.0.0.0")
    ∷ row (wire 1 0 8 (pos 1)) (line "1 0 8 1")
    ∷ row (wire 1 1 8 (pos 1)) (line "1 1 8 1")
    ∷ row (wire 7 1 8 (pos 2)) (line "7 1 8 2")
    ∷ row (wire 7 7 8 (pos 2)) (line "7 7 8 2")
    ∷ row (wire 8 7 8 (pos 3)) (line "8 7 8 3")
    ∷ row (wire 8 8 8 (pos 3)) (line "8 8 8 3")
    -- the empty set is an empty line; an exponent is any byte; a record has six places
    ∷ row (set [] 0) (line "")
    ∷ row (set ((255 ∷ 0 ∷ 10 ∷ 9 ∷ 100 ∷ 99 ∷ []) ∷ []) 1) (line "255.0.10.9.100.99")
    ∷ row (set (x1 0 ∷ x1 1 ∷ x1 2 ∷ x1 3 ∷ x1 4 ∷ x1 5 ∷ []) 7)
    (line "0.0.0.0.0.0 1.0.0.0.0.0 2.0.0.0.0.0 3.0.0.0.0.0 4.0.0.0.0.0 5.0.0.0.0.0")
    -- signs, and both ends of 32 and of 64 bits
    ∷ row (wire 2 2 3 (negsuc 0)) (line "2 2 3 -1")
    ∷ row (wire 12 0 12 (negsuc 2147483647)) (line "12 0 12 -2147483648")
    ∷ row (wire 12 0 12 (pos 2147483647)) (line "12 0 12 2147483647")
    ∷ row (reply_line (18446744073709551615 ∷ 9 ∷ 10 ∷ 99 ∷ 100 ∷ [])) (line "18446744073709551615 9 10 99 100")
    -- the digest of nothing, of a letter and of a word, as published
    ∷ row (last_digits 16 16 (digest [])) (written "cbf29ce484222325")
    ∷ row (last_digits 16 16 (digest (written "a"))) (written "af63dc4c8601ec8c")
    ∷ row (last_digits 16 16 (digest (written "foobar"))) (written "85944171f73967e8")
    -- a case with no buffer, with a short one and with 73 zeros
    ∷ row (case_line (6 ∷ 0 ∷ 0 ∷ 1 ∷ 0 ∷ []) []) (line "6 0 0 1 0 -")
    ∷ row (case_line (0 ∷ 1 ∷ 2 ∷ 0 ∷ 0 ∷ []) (0 ∷ 9 ∷ 10 ∷ 165 ∷ 255 ∷ [])) (line "0 1 2 0 0 00090aa5ff")
    ∷ row (case_line (1 ∷ 0 ∷ 0 ∷ 0 ∷ 0 ∷ []) (replicate 73 0)) (line "1 0 0 0 0 #3707ece7b4dd28bf")
    ∷ []

sampled : map (λ r. r.got) table ≡ map (λ r. r.want) table
unfolding table row line written x1 set wire decimal_within decimal signed_text joined reply_line exponents set_text wire_line digest_from digest hex_text buffer_text case_line gather below places set_record wire_record signed unsigned
sampled = refl
