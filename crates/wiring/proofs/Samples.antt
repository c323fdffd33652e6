-- Wiring, computed by the definitions from the bytes of the records, beside replies and buffers that were worked outside the
-- project: document 01's rows, each refusal, both sides of each limit, and signals. One table, one claim. Assumes nothing.
use mathlib.Core.Path.{◌≡◌, refl}
use mathlib.Core.Bool.{Bool, true, false}
use mathlib.Core.List.{List, [], ◌∷◌, ◌++◌, map}
use Prim.Native.Nat.{ℕ, ◌*◌, ◌-◌}
use lib.ListN.{length, replicate}
use Rattle.monomial.specs.Lists.{any, some, all, keep, place, gather, below, pairwise, pointwise, dictionary, insert_by, arrange_by}
use Rattle.monomial.specs.Monomial.{vars}
use Rattle.monomial.specs.Degree.{degree}
use Rattle.wiring.specs.Panel.{full_degree}
use Rattle.wiring.specs.Kit.{degree_right}
use Rattle.wiring.specs.Sockets.{panel_of, halved, marked, count_right, panel_right, free, may_be}
use Rattle.wiring.specs.Reply.{Numbers, five, Outcome}
use Rattle.wiring.specs.Coefficient.{signed, unsigned, is_zero}
use Rattle.wiring.specs.Poly.{coeff, times, support}
use Rattle.wiring.specs.Derivative.{parts_from, derivative, crosses}
use Rattle.wiring.specs.Quadratic.{factor, in_v2, unmet, nonsquares}
use Rattle.wiring.specs.Signals.{signals}
use Rattle.wiring.specs.Terms.{record_at, records, length_right, exponents_right, coefficient_right, term_right, fault_from, equation, system}
use Rattle.wiring.specs.Sets.{places, size_of, set_of, ascending, monomial_right, set_right}
use Rattle.wiring.specs.Wires.{first_of, second_of, row as row_of, rows_from, wiring, wire_record}
use Rattle.wiring.specs.Answers.{first_unmet, judged, record_judged, verdict, listed, told, wired}

record Row : Type 0 where
  got : Outcome
  want : Outcome

-- exponents that are not written are 0
padded : List ℕ → List ℕ
padded m = m ++ replicate (6 - length m) 0

term : ℕ → ℕ → List ℕ → List ℕ → List ℕ
term equation blank m coefficient = equation ∷ blank ∷ padded m ++ coefficient

-- a small whole number and its opposite, as four bytes
plus : ℕ → List ℕ
plus c = c ∷ 0 ∷ 0 ∷ 0 ∷ []

minus : ℕ → List ℕ
minus c = (256 - c) ∷ 255 ∷ 255 ∷ 255 ∷ []

wire : ℕ → ℕ → ℕ → List ℕ → List ℕ
wire left first second coefficient = left ∷ first ∷ second ∷ 0 ∷ coefficient

set : List (List ℕ) → List ℕ
set s = gather padded s ++ replicate (36 - 6 * length s) 0

-- with any kit and marks; with marks and the full kit; with no marks
built : ℕ → ℕ → ℕ → List ℕ → List ℕ → ℕ → Numbers → List ℕ → Row
built n marks limit terms s size said bytes = record { got = wired (panel_of n marks limit) terms s size; want = record { said = said; bytes = bytes } }

fed : ℕ → ℕ → List ℕ → List ℕ → ℕ → Numbers → List ℕ → Row
fed n marks = built n marks full_degree

row : ℕ → List ℕ → List ℕ → ℕ → Numbers → List ℕ → Row
row n = fed n 0

table : List Row
table =
    -- x' = x^4 + x^3 with {x^2, x^3}
    row 1 (term 1 0 (4 ∷ []) (plus 1) ++ term 1 0 (3 ∷ []) (plus 1))
    (set ((2 ∷ []) ∷ (3 ∷ []) ∷ [])) 56
    (five 0 2 6 0 0) (wire 1 0 3 (plus 1) ++ wire 1 1 3 (plus 1) ++ wire 2 1 3 (plus 2)
    ++ wire 2 2 3 (plus 2) ++ wire 3 2 3 (plus 3) ++ wire 3 3 3 (plus 3) ++ replicate 8 0)
    -- the same with {x^3, x^4}, six records, exactly enough room
    ∷ row 1 (term 1 0 (4 ∷ []) (plus 1) ++ term 1 0 (3 ∷ []) (plus 1))
    (set ((3 ∷ []) ∷ (4 ∷ []) ∷ [])) 48
    (five 0 2 6 0 0) (wire 1 0 2 (plus 1) ++ wire 1 0 3 (plus 1) ++ wire 2 1 3 (plus 3)
    ++ wire 2 2 2 (plus 3) ++ wire 3 2 2 (plus 4) ++ wire 3 2 3 (plus 4) ++ replicate 0 0)
    -- one byte less: full
    ∷ row 1 (term 1 0 (4 ∷ []) (plus 1) ++ term 1 0 (3 ∷ []) (plus 1))
    (set ((3 ∷ []) ∷ (4 ∷ []) ∷ [])) 47
    (five 6 2 0 0 0) (replicate 47 0)
    -- with {x^2} it is not quadratic: place 2 is x^2 itself
    ∷ row 1 (term 1 0 (4 ∷ []) (plus 1) ++ term 1 0 (3 ∷ []) (plus 1))
    (set ((2 ∷ []) ∷ [])) 10
    (five 9 1 0 0 2) (replicate 10 0)
    -- x1' = x1^2 x2, x2' = -x1 x2^2 with {x1 x2}: none for the new signal
    ∷ row 2 (term 1 0 (2 ∷ 1 ∷ []) (plus 1) ++ term 2 0 (1 ∷ 2 ∷ []) (minus 1))
    (set ((1 ∷ 1 ∷ []) ∷ [])) 24
    (five 0 1 2 0 0) (wire 1 1 3 (plus 1) ++ wire 2 2 3 (minus 1) ++ replicate 8 0)
    -- x1' = x1^2 x2, x2 unfed
    ∷ row 2 (term 1 0 (2 ∷ 1 ∷ []) (plus 1))
    (set ((1 ∷ 1 ∷ []) ∷ [])) 17
    (five 0 1 2 0 0) (wire 1 1 3 (plus 1) ++ wire 3 3 3 (plus 1) ++ replicate 1 0)
    -- document 000's example with {x2^2, x1^2}
    ∷ row 2 (term 1 0 (3 ∷ []) (plus 1) ++ term 1 0 (0 ∷ 2 ∷ []) (plus 1) ++ term 2 0 (1 ∷ []) (plus 1)
    ++ term 2 0 (0 ∷ 1 ∷ []) (plus 1))
    (set ((0 ∷ 2 ∷ []) ∷ (2 ∷ []) ∷ [])) 80
    (five 0 2 8 0 0) (wire 1 0 3 (plus 1) ++ wire 1 1 4 (plus 1) ++ wire 2 0 2 (plus 1)
    ++ wire 2 0 1 (plus 1) ++ wire 3 0 3 (plus 2) ++ wire 3 1 2 (plus 2) ++ wire 4 1 3 (plus 2)
    ++ wire 4 4 4 (plus 2) ++ replicate 16 0)
    -- {x^2} on x' = x^3
    ∷ row 1 (term 1 0 (3 ∷ []) (plus 1))
    (set ((2 ∷ []) ∷ [])) 24
    (five 0 1 2 0 0) (wire 1 1 2 (plus 1) ++ wire 2 2 2 (plus 2) ++ replicate 8 0)
    -- {x^2} on x' = x^4: its own derivative has x^5
    ∷ row 1 (term 1 0 (4 ∷ []) (plus 1))
    (set ((2 ∷ []) ∷ [])) 24
    (five 9 1 0 0 2) (replicate 24 0)
    -- Rabinovich-Fabrikant, a = b = 1, with {y^2, xy, x^2}; no room at all
    ∷ row 3 (term 1 0 (0 ∷ 1 ∷ 1 ∷ []) (plus 1) ++ term 1 0 (0 ∷ 1 ∷ []) (minus 1)
    ++ term 1 0 (2 ∷ 1 ∷ []) (plus 1) ++ term 1 0 (1 ∷ []) (plus 1)
    ++ term 2 0 (1 ∷ 0 ∷ 1 ∷ []) (plus 3) ++ term 2 0 (1 ∷ []) (plus 1)
    ++ term 2 0 (3 ∷ []) (minus 1) ++ term 2 0 (0 ∷ 1 ∷ []) (plus 1)
    ++ term 3 0 (0 ∷ 0 ∷ 1 ∷ []) (minus 2) ++ term 3 0 (1 ∷ 1 ∷ 1 ∷ []) (minus 2))
    (set ((0 ∷ 2 ∷ []) ∷ (1 ∷ 1 ∷ []) ∷ (2 ∷ []) ∷ [])) 0
    (five 6 3 0 0 0) (replicate 0 0)
    -- no records, the empty set
    ∷ row 1 []
    (set []) 9
    (five 0 0 0 0 0) (replicate 9 0)
    -- n is 0
    ∷ row 0 []
    (set []) 3
    (five 1 0 0 0 0) (replicate 3 0)
    -- n is 7
    ∷ row 7 []
    (set []) 3
    (five 1 0 0 0 0) (replicate 3 0)
    -- 11 bytes of terms
    ∷ row 1 (replicate 11 0)
    (set []) 3
    (five 2 0 0 0 0) (replicate 3 0)
    -- 33 records
    ∷ row 6 (replicate 396 0)
    (set []) 3
    (five 2 0 0 0 0) (replicate 3 0)
    -- a set of 35 bytes
    ∷ row 1 []
    (replicate 35 0) 3
    (five 2 0 0 0 0) (replicate 3 0)
    -- a set of 37 bytes
    ∷ row 1 []
    (replicate 37 0) 3
    (five 2 0 0 0 0) (replicate 3 0)
    -- a wrong record beside a set of 35 bytes: lengths come first
    ∷ row 1 (term 0 0 (1 ∷ []) (plus 1))
    (replicate 35 0) 3
    (five 2 0 0 0 0) (replicate 3 0)
    -- equation 0 in the second record
    ∷ row 1 (term 1 0 (1 ∷ []) (plus 1) ++ term 0 0 (1 ∷ []) (plus 1))
    (set []) 3
    (five 3 0 0 0 2) (replicate 3 0)
    -- equation n + 1
    ∷ row 1 (term 2 0 (1 ∷ []) (plus 1))
    (set []) 3
    (five 3 0 0 0 1) (replicate 3 0)
    -- byte 1 is not zero
    ∷ row 1 (term 1 7 (1 ∷ []) (plus 1))
    (set []) 3
    (five 3 0 0 0 1) (replicate 3 0)
    -- exponent 9 is taken
    ∷ row 1 (term 1 0 (9 ∷ []) (plus 1))
    (set []) 3
    (five 9 0 0 0 1) (replicate 3 0)
    -- exponent 10 is not
    ∷ row 1 (term 1 0 (10 ∷ []) (plus 1))
    (set []) 3
    (five 3 0 0 0 1) (replicate 3 0)
    -- an exponent beyond xn
    ∷ row 1 (term 1 0 (1 ∷ 1 ∷ []) (plus 1))
    (set []) 3
    (five 3 0 0 0 1) (replicate 3 0)
    -- coefficient 0
    ∷ row 1 (term 1 0 (1 ∷ []) (plus 0))
    (set []) 16
    (five 3 0 0 0 1) (replicate 16 0)
    -- 1,000,000
    ∷ row 1 (term 1 0 (1 ∷ []) (64 ∷ 66 ∷ 15 ∷ 0 ∷ []))
    (set []) 16
    (five 0 0 1 0 0) (wire 1 0 1 (64 ∷ 66 ∷ 15 ∷ 0 ∷ []) ++ replicate 8 0)
    -- 1,000,001
    ∷ row 1 (term 1 0 (1 ∷ []) (65 ∷ 66 ∷ 15 ∷ 0 ∷ []))
    (set []) 16
    (five 3 0 0 0 1) (replicate 16 0)
    -- -1,000,000
    ∷ row 1 (term 1 0 (1 ∷ []) (192 ∷ 189 ∷ 240 ∷ 255 ∷ []))
    (set []) 16
    (five 0 0 1 0 0) (wire 1 0 1 (192 ∷ 189 ∷ 240 ∷ 255 ∷ []) ++ replicate 8 0)
    -- -1,000,001
    ∷ row 1 (term 1 0 (1 ∷ []) (191 ∷ 189 ∷ 240 ∷ 255 ∷ []))
    (set []) 16
    (five 3 0 0 0 1) (replicate 16 0)
    -- the record x' = x twice
    ∷ row 1 (term 1 0 (1 ∷ []) (plus 1) ++ term 1 0 (1 ∷ []) (plus 1))
    (set []) 3
    (five 4 0 0 0 2) (replicate 3 0)
    -- another coefficient is still a repeat
    ∷ row 1 (term 1 0 (1 ∷ []) (plus 1) ++ term 1 0 (1 ∷ []) (plus 5))
    (set []) 3
    (five 4 0 0 0 2) (replicate 3 0)
    -- wrong and repeated is wrong
    ∷ row 1 (term 1 0 (1 ∷ []) (plus 1) ++ term 1 0 (1 ∷ []) (plus 0))
    (set []) 3
    (five 3 0 0 0 2) (replicate 3 0)
    -- another equation is no repeat
    ∷ row 2 (term 1 0 (1 ∷ []) (plus 1) ++ term 2 0 (1 ∷ []) (plus 1))
    (set []) 16
    (five 0 0 2 0 0) (wire 1 0 1 (plus 1) ++ wire 2 0 1 (plus 1) ++ replicate 0 0)
    -- exponent 54 in a set
    ∷ row 1 []
    (set ((54 ∷ []) ∷ [])) 3
    (five 0 1 0 0 0) (replicate 3 0)
    -- 55
    ∷ row 1 []
    (set ((55 ∷ []) ∷ [])) 3
    (five 8 0 0 0 0) (replicate 3 0)
    -- a variable in a set
    ∷ row 1 []
    (set ((1 ∷ []) ∷ [])) 3
    (five 8 0 0 0 0) (replicate 3 0)
    -- a gap in a set
    ∷ row 1 []
    (set ([] ∷ (2 ∷ []) ∷ [])) 3
    (five 8 0 0 0 0) (replicate 3 0)
    -- a set that descends
    ∷ row 1 []
    (set ((3 ∷ []) ∷ (2 ∷ []) ∷ [])) 3
    (five 8 0 0 0 0) (replicate 3 0)
    -- a monomial twice
    ∷ row 1 []
    (set ((2 ∷ []) ∷ (2 ∷ []) ∷ [])) 3
    (five 8 0 0 0 0) (replicate 3 0)
    -- a set's exponent beyond xn
    ∷ row 1 []
    (set ((2 ∷ 1 ∷ []) ∷ [])) 3
    (five 8 0 0 0 0) (replicate 3 0)
    -- x6 alone
    ∷ row 6 []
    (set ((0 ∷ 0 ∷ 0 ∷ 0 ∷ 0 ∷ 1 ∷ []) ∷ [])) 3
    (five 8 0 0 0 0) (replicate 3 0)
    -- a wrong record comes before a wrong set
    ∷ row 1 (term 1 0 (10 ∷ []) (plus 1))
    (set ((1 ∷ []) ∷ [])) 3
    (five 3 0 0 0 1) (replicate 3 0)
    -- document 000's example 5.3, x1' = x1 + x1 u and x2' = x1^2 u, with {x1^2}: nothing is listed for the signal u
    ∷ fed 3 4 (term 1 0 (1 ∷ []) (plus 1) ++ term 1 0 (1 ∷ 0 ∷ 1 ∷ []) (plus 1) ++ term 2 0 (2 ∷ 0 ∷ 1 ∷ []) (plus 1))
    (set ((2 ∷ []) ∷ [])) 48
    (five 0 1 5 0 0) (wire 1 0 1 (plus 1) ++ wire 1 1 3 (plus 1) ++ wire 2 3 4 (plus 1) ++ wire 4 0 4 (plus 2) ++ wire 4 3 4 (plus 2) ++ replicate 8 0)
    -- x1' = x1^3 + u x1 with {x1^2}, and x1' = x1^3 + u^2 x1
    ∷ fed 2 2 (term 1 0 (3 ∷ []) (plus 1) ++ term 1 0 (1 ∷ 1 ∷ []) (plus 1))
    (set ((2 ∷ []) ∷ [])) 32
    (five 0 1 4 0 0) (wire 1 1 2 (plus 1) ++ wire 1 1 3 (plus 1) ++ wire 3 2 3 (plus 2) ++ wire 3 3 3 (plus 2))
    ∷ fed 2 2 (term 1 0 (3 ∷ []) (plus 1) ++ term 1 0 (1 ∷ 2 ∷ []) (plus 1))
    (set ((2 ∷ []) ∷ [])) 3
    (five 9 1 0 0 1) (replicate 3 0)
    -- x1' = x1^2 u with {x1 u}: 8 where u is a signal
    ∷ fed 2 2 (term 1 0 (2 ∷ 1 ∷ []) (plus 1))
    (set ((1 ∷ 1 ∷ []) ∷ [])) 3
    (five 8 0 0 0 0) (replicate 3 0)
    -- a mark at n, before a length
    ∷ fed 2 4 (replicate 11 0)
    (set []) 3
    (five 1 0 0 0 0) (replicate 3 0)
    -- the equation of a signal, though it repeats a record
    ∷ fed 2 1 (term 2 0 (2 ∷ []) (plus 1) ++ term 1 0 (2 ∷ []) (plus 1) ++ term 1 0 (2 ∷ []) (plus 1))
    (set []) 3
    (five 3 0 0 0 2) (replicate 3 0)
    -- x' = x^4 + x^3 with {x^3, x^4}: the junior kit of limit 3 cannot build it, that of limit 4 can
    ∷ built 1 0 3 (term 1 0 (4 ∷ []) (plus 1) ++ term 1 0 (3 ∷ []) (plus 1))
    (set ((3 ∷ []) ∷ (4 ∷ []) ∷ [])) 3
    (five 8 0 0 0 0) (replicate 3 0)
    ∷ built 1 0 4 (term 1 0 (4 ∷ []) (plus 1) ++ term 1 0 (3 ∷ []) (plus 1))
    (set ((3 ∷ []) ∷ (4 ∷ []) ∷ [])) 3
    (five 6 2 0 0 0) (replicate 3 0)
    -- the total degree of x1^2 x2^2 is 4, though no exponent is above 2
    ∷ built 2 0 3 []
    (set ((2 ∷ 2 ∷ []) ∷ [])) 3
    (five 8 0 0 0 0) (replicate 3 0)
    ∷ built 2 0 4 []
    (set ((2 ∷ 2 ∷ []) ∷ [])) 3
    (five 0 1 0 0 0) (replicate 3 0)
    -- a limit that no kit has, before a length
    ∷ built 1 0 1 (replicate 11 0)
    (set []) 3
    (five 1 0 0 0 0) (replicate 3 0)
    ∷ built 1 0 10 []
    (set []) 3
    (five 1 0 0 0 0) (replicate 3 0)
    ∷ built 1 0 323 []
    (set []) 3
    (five 1 0 0 0 0) (replicate 3 0)
    -- six exponents of 54: the full kit's limit is as much
    ∷ built 6 0 324 []
    (set ((54 ∷ 54 ∷ 54 ∷ 54 ∷ 54 ∷ 54 ∷ []) ∷ [])) 3
    (five 0 1 0 0 0) (replicate 3 0)
    ∷ []

sampled : map (λ r. r.got) table ≡ map (λ r. r.want) table
unfolding table built fed row term plus minus wire set padded wired told listed verdict record_judged judged first_unmet halved marked count_right degree_right panel_right free degree may_be records
    length_right exponents_right coefficient_right term_right fault_from equation system places size_of set_of ascending monomial_right
    set_right first_of second_of row_of rows_from wiring wire_record signals factor in_v2 unmet nonsquares parts_from derivative coeff
    times support signed unsigned is_zero vars any some all keep place gather below pairwise pointwise dictionary insert_by
    arrange_by
sampled = refl

-- ---- which records cross: those of x1' = x1^2 x2 and x2' = -x1 x2^2, whose parts cancel in the derivative of x1 x2; not those of x1' = x1^3 and
-- x2' = x1, and none with itself
crossing : List Bool
crossing =
    let two = term 1 0 (2 ∷ 1 ∷ []) (plus 1) ++ term 2 0 (1 ∷ 2 ∷ []) (minus 1) in
    let apart = term 1 0 (3 ∷ []) (plus 1) ++ term 2 0 (1 ∷ []) (plus 1) in
    crosses (record_at two 0) (record_at two 1) ∷ crosses (record_at two 1) (record_at two 0) ∷ crosses (record_at apart 0) (record_at apart 1) ∷ crosses (record_at two 0) (record_at two 0) ∷ []

crossed : crossing ≡ true ∷ true ∷ false ∷ false ∷ []
unfolding crossing term plus minus padded crosses vars pairwise pointwise signed
crossed = refl
