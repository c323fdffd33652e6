-- Planning computed by the definitions from the bytes of the term records: document 01's sums worked by hand, marked P, with every byte of the
-- buffer and the wiring of the first set, then each refusal and both sides of the limits, then signals, what counting closes, cheap pairs and kits. The
-- rows marked P keep their steps. One table, one claim. Assumes nothing.
use mathlib.Core.Path.{◌≡◌, refl, sym, ap, ◌∙◌}
use mathlib.Core.List.{List, [], ◌∷◌, ◌++◌, map}
use Prim.Native.Nat.{ℕ, ◌*◌, ◌-◌}
use native.Mathlib.Omega.{arith}
use lib.ListN.{length, replicate}
use Rattle.monomial.specs.Lists.{any, some, all, keep, place, gather, below, pairwise, pointwise, dictionary, insert_by, arrange_by}
use Rattle.monomial.specs.Monomial.{vars}
use Rattle.monomial.specs.Divisors.{score, divisors, pairs}
use Rattle.monomial.specs.Degree.{degree}
use Rattle.wiring.specs.Kit.{degree_right}
use Rattle.wiring.specs.Sockets.{panel_of, full_panel, halved, marked, count_right, panel_right, free, may_be}
use Rattle.wiring.specs.declared.panel.Panel.{Panel}
use Rattle.wiring.specs.Reply.{Numbers, five, Outcome}
use Rattle.wiring.specs.Coefficient.{signed, unsigned, is_zero}
use Rattle.wiring.specs.Poly.{coeff, times, support}
use Rattle.wiring.specs.Derivative.{parts_from, derivative}
use Rattle.wiring.specs.Quadratic.{factor, in_v2, unmet, nonsquares}
use Rattle.wiring.specs.Signals.{signals}
use Rattle.wiring.specs.Choice.{cheaper, chosen}
use Rattle.wiring.specs.Terms.{records, length_right, exponents_right, coefficient_right, term_right, fault_from, equation, system}
use Rattle.wiring.specs.Sets.{places, size_of, set_of, ascending, monomial_right, set_right, set_record}
use Rattle.wiring.specs.Wires.{first_of, second_of, row as row_of, rows_from, wiring, wire_record}
use Rattle.wiring.specs.Answers.{first_unmet, judged, record_judged, verdict, listed, told, wired}
use Rattle.wiring.specs.Panel.{set_bytes, full_degree}
use Rattle.counting.specs.Counting.{quotients_of, count, insert_down, sort_down, counts, sum, may_do, least_from, needed, closes}
use Rattle.lister.specs.Cheap.{added, cheap, cheap_first}
use Rattle.walk.specs.Walk.{allowing, cheaply, child, opens, ends, tried, after, opened, level, kept, onward, run}
use Rattle.walk.specs.Plan.{settled, levels, plan, sets_bytes, said, settings_right, planned}

record Row : Type 0 where
  got : Outcome
  want : Outcome

-- exponents that are not written are 0
unfoldable pub padded : List ℕ → List ℕ
padded m = m ++ replicate (6 - length m) 0

-- a term record with coefficient 1, and with coefficient -1
unfoldable pub plus : ℕ → List ℕ → List ℕ
plus equation m = equation ∷ 0 ∷ padded m ++ 1 ∷ 0 ∷ 0 ∷ 0 ∷ []

unfoldable pub minus : ℕ → List ℕ → List ℕ
minus equation m = equation ∷ 0 ∷ padded m ++ 255 ∷ 255 ∷ 255 ∷ 255 ∷ []

-- with any coefficient
term : ℕ → List ℕ → List ℕ → List ℕ
term equation m coefficient = equation ∷ 0 ∷ padded m ++ coefficient

-- a set record
unfoldable pub set : List (List ℕ) → List ℕ
set s = gather padded s ++ replicate (36 - 6 * length s) 0

-- a wiring record with a small coefficient, and with its negative
wire : ℕ → ℕ → ℕ → ℕ → List ℕ
wire left a b c = left ∷ a ∷ b ∷ 0 ∷ c ∷ 0 ∷ 0 ∷ 0 ∷ []

back : ℕ → ℕ → ℕ → ℕ → List ℕ
back left a b c = left ∷ a ∷ b ∷ 0 ∷ (256 - c) ∷ 255 ∷ 255 ∷ 255 ∷ []

-- planning: the five numbers, the sets, and zeros to the end of the buffer; with any kit and marks, with marks and the full kit, and with none
kitted : ℕ → ℕ → ℕ → ℕ → ℕ → ℕ → List ℕ → Numbers → List (List (List ℕ)) → Row
kitted n marks degree most limit size terms numbers sets = record {
  got = planned (panel_of n marks degree) most limit terms size;
  want = record { said = numbers; bytes = gather set sets ++ replicate (size - 36 * length sets) 0 };
}

marking : ℕ → ℕ → ℕ → ℕ → ℕ → List ℕ → Numbers → List (List (List ℕ)) → Row
marking n marks = kitted n marks full_degree

planning : ℕ → ℕ → ℕ → ℕ → List ℕ → Numbers → List (List (List ℕ)) → Row
planning n = marking n 0

-- where a row names nothing else, the cap is 6, the limit 1,000,000 and the room 1,000 sets
usual : ℕ → List ℕ → Numbers → List (List (List ℕ)) → Row
usual n = planning n 6 1000000 36000

-- with a junior kit
junior : ℕ → ℕ → List ℕ → Numbers → List (List (List ℕ)) → Row
junior n limit = kitted n 0 limit 6 1000000 36000

-- the same by the walk that closes nothing
unclosing : ℕ → ℕ → List ℕ → Numbers → List (List (List ℕ)) → Row
unclosing n marks terms numbers sets = record {
  got = said (plan (cheaply (allowing (may_be (panel_of n marks full_degree)))) n (system (records terms)) 1000000 1000 6) 36000;
  want = record { said = numbers; bytes = gather set sets ++ replicate (36000 - 36 * length sets) 0 };
}

-- wiring a set into room for 224 records
wiring_of : ℕ → List ℕ → List (List ℕ) → Numbers → List (List ℕ) → Row
wiring_of n terms s numbers list = record {
  got = wired (full_panel n) terms (set s) 1792;
  want = record { said = numbers; bytes = gather (λ w. w) list ++ replicate (1792 - 8 * length list) 0 };
}

-- x' = x^4 + x^3
quartic : List ℕ
quartic = plus 1 (4 ∷ []) ++ plus 1 (3 ∷ [])

-- x1' = x1^4 + x1^2 x2^3, x2' = x1^3 x2
saving : List ℕ
saving = plus 1 (4 ∷ []) ++ plus 1 (2 ∷ 3 ∷ []) ++ plus 2 (3 ∷ 1 ∷ [])

-- x' = yz - y + x^2 y + x, y' = 3xz + x - x^3 + y, z' = -2z - 2xyz
fabrikant : List ℕ
fabrikant =
    plus 1 (0 ∷ 1 ∷ 1 ∷ []) ++ minus 1 (0 ∷ 1 ∷ []) ++ plus 1 (2 ∷ 1 ∷ []) ++ plus 1 (1 ∷ [])
    ++ term 2 (1 ∷ 0 ∷ 1 ∷ []) (3 ∷ 0 ∷ 0 ∷ 0 ∷ []) ++ plus 2 (1 ∷ []) ++ minus 2 (3 ∷ []) ++ plus 2 (0 ∷ 1 ∷ [])
    ++ term 3 (0 ∷ 0 ∷ 1 ∷ []) (254 ∷ 255 ∷ 255 ∷ 255 ∷ []) ++ term 3 (1 ∷ 1 ∷ 1 ∷ []) (254 ∷ 255 ∷ 255 ∷ 255 ∷ [])

table : List Row
table =
    -- P: no records
    usual 1 [] (five 0 0 1 1 0) ([] ∷ [])
    -- P: x' = x^2, and with room for no set
    ∷ usual 1 (plus 1 (2 ∷ [])) (five 0 0 1 1 0) ([] ∷ [])
    ∷ planning 1 6 1000000 0 (plus 1 (2 ∷ [])) (five 6 0 0 1 0) []
    ∷ wiring_of 1 (plus 1 (2 ∷ [])) [] (five 0 0 1 0 0) (wire 1 1 1 1 ∷ [])
    -- P: x' = x^3, and with cap 0
    ∷ usual 1 (plus 1 (3 ∷ [])) (five 0 1 1 6 0) (((2 ∷ []) ∷ []) ∷ [])
    ∷ wiring_of 1 (plus 1 (3 ∷ [])) ((2 ∷ []) ∷ []) (five 0 1 2 0 0) (wire 1 1 2 1 ∷ wire 2 2 2 2 ∷ [])
    ∷ planning 1 0 1000000 36000 (plus 1 (3 ∷ [])) (five 5 1 0 1 0) []
    -- P: x' = x^5 at limits 7 and 6; with no room, full at the step that meets the set
    ∷ planning 1 6 7 36000 (plus 1 (5 ∷ [])) (five 0 1 1 7 0) (((4 ∷ []) ∷ []) ∷ [])
    ∷ wiring_of 1 (plus 1 (5 ∷ [])) ((4 ∷ []) ∷ []) (five 0 1 2 0 0) (wire 1 1 2 1 ∷ wire 2 2 2 4 ∷ [])
    ∷ planning 1 6 6 36000 (plus 1 (5 ∷ [])) (five 7 1 0 6 0) []
    ∷ planning 1 6 6 0 (plus 1 (5 ∷ [])) (five 6 1 0 6 0) []
    ∷ planning 1 6 5 0 (plus 1 (5 ∷ [])) (five 7 1 0 5 0) []
    -- P: x' = x^4 + x^3, and with room for one set
    ∷ usual 1 (plus 1 (4 ∷ []) ++ plus 1 (3 ∷ [])) (five 0 2 2 23 0) (((2 ∷ []) ∷ (3 ∷ []) ∷ []) ∷ ((3 ∷ []) ∷ (4 ∷ []) ∷ []) ∷ [])
    ∷ wiring_of 1 (plus 1 (4 ∷ []) ++ plus 1 (3 ∷ [])) ((2 ∷ []) ∷ (3 ∷ []) ∷ []) (five 0 2 6 0 0)
    (wire 1 0 3 1 ∷ wire 1 1 3 1 ∷ wire 2 1 3 2 ∷ wire 2 2 3 2 ∷ wire 3 2 3 3 ∷ wire 3 3 3 3 ∷ [])
    ∷ planning 1 6 1000000 36 (plus 1 (4 ∷ []) ++ plus 1 (3 ∷ [])) (five 6 2 0 15 0) []
    -- the same room at limits 15 and 14, and one byte less than room for two
    ∷ planning 1 6 15 36 (plus 1 (4 ∷ []) ++ plus 1 (3 ∷ [])) (five 6 2 0 15 0) []
    ∷ planning 1 6 14 36 (plus 1 (4 ∷ []) ++ plus 1 (3 ∷ [])) (five 7 2 0 14 0) []
    ∷ planning 1 6 1000000 71 (plus 1 (4 ∷ []) ++ plus 1 (3 ∷ [])) (five 6 2 0 15 0) []
    -- room for two, with a byte to spare, at limits 23 and 22
    ∷ planning 1 6 23 73 (plus 1 (4 ∷ []) ++ plus 1 (3 ∷ [])) (five 0 2 2 23 0) (((2 ∷ []) ∷ (3 ∷ []) ∷ []) ∷ ((3 ∷ []) ∷ (4 ∷ []) ∷ []) ∷ [])
    ∷ planning 1 6 22 73 (plus 1 (4 ∷ []) ++ plus 1 (3 ∷ [])) (five 7 2 0 22 0) []
    -- the cap is the order, and one less
    ∷ planning 1 2 1000000 72 (plus 1 (4 ∷ []) ++ plus 1 (3 ∷ [])) (five 0 2 2 23 0) (((2 ∷ []) ∷ (3 ∷ []) ∷ []) ∷ ((3 ∷ []) ∷ (4 ∷ []) ∷ []) ∷ [])
    ∷ planning 1 1 1000000 72 (plus 1 (4 ∷ []) ++ plus 1 (3 ∷ [])) (five 5 2 0 6 0) []
    -- five variables more change nothing
    ∷ usual 6 (plus 1 (4 ∷ []) ++ plus 1 (3 ∷ [])) (five 0 2 2 23 0) (((2 ∷ []) ∷ (3 ∷ []) ∷ []) ∷ ((3 ∷ []) ∷ (4 ∷ []) ∷ []) ∷ [])
    -- P: x1' = x1^3 + x2^2, x2' = x1 + x2
    ∷ usual 2 (plus 1 (3 ∷ []) ++ plus 1 (0 ∷ 2 ∷ []) ++ plus 2 (1 ∷ []) ++ plus 2 (0 ∷ 1 ∷ [])) (five 0 2 1 23 0) (((0 ∷ 2 ∷ []) ∷ (2 ∷ []) ∷ []) ∷ [])
    ∷ wiring_of 2 (plus 1 (3 ∷ []) ++ plus 1 (0 ∷ 2 ∷ []) ++ plus 2 (1 ∷ []) ++ plus 2 (0 ∷ 1 ∷ [])) ((0 ∷ 2 ∷ []) ∷ (2 ∷ []) ∷ [])
    (five 0 2 8 0 0) (wire 1 0 3 1 ∷ wire 1 1 4 1 ∷ wire 2 0 2 1 ∷ wire 2 0 1 1 ∷ wire 3 0 3 2 ∷ wire 3 1 2 2 ∷ wire 4 1 3 2 ∷ wire 4 4 4 2 ∷ [])
    -- P: x1' = x1^2 x2, x2' = -x1 x2^2: no wire for the new signal
    ∷ usual 2 (plus 1 (2 ∷ 1 ∷ []) ++ minus 2 (1 ∷ 2 ∷ [])) (five 0 1 1 8 0) (((1 ∷ 1 ∷ []) ∷ []) ∷ [])
    ∷ wiring_of 2 (plus 1 (2 ∷ 1 ∷ []) ++ minus 2 (1 ∷ 2 ∷ [])) ((1 ∷ 1 ∷ []) ∷ []) (five 0 1 2 0 0) (wire 1 1 3 1 ∷ back 2 2 3 1 ∷ [])
    -- P: x1' = x1^2 x2, x2 unfed
    ∷ usual 2 (plus 1 (2 ∷ 1 ∷ [])) (five 0 1 1 8 0) (((1 ∷ 1 ∷ []) ∷ []) ∷ [])
    ∷ wiring_of 2 (plus 1 (2 ∷ 1 ∷ [])) ((1 ∷ 1 ∷ []) ∷ []) (five 0 1 2 0 0) (wire 1 1 3 1 ∷ wire 3 3 3 1 ∷ [])
    -- x' = x^4: the middle pair of x^4 is x^2 twice
    ∷ usual 1 (plus 1 (4 ∷ [])) (five 0 1 1 8 0) (((3 ∷ []) ∷ []) ∷ [])
    -- x1' = x2^2 x3^2: four sets
    ∷ usual 3 (plus 1 (0 ∷ 2 ∷ 2 ∷ [])) (five 0 1 4 11 0) (((0 ∷ 1 ∷ 1 ∷ []) ∷ []) ∷ ((0 ∷ 1 ∷ 2 ∷ []) ∷ []) ∷ ((0 ∷ 2 ∷ 1 ∷ []) ∷ []) ∷ ((0 ∷ 2 ∷ 2 ∷ []) ∷ []) ∷ [])
    -- n is 0, 7
    ∷ planning 0 6 1 5 (plus 1 (2 ∷ [])) (five 1 0 0 0 0) []
    ∷ planning 7 6 1 5 (plus 1 (2 ∷ [])) (five 1 0 0 0 0) []
    -- the cap is 7
    ∷ planning 1 7 1 5 (plus 1 (2 ∷ [])) (five 1 0 0 0 0) []
    -- the limit is 0, 1, 1,000,000,000, one more
    ∷ planning 1 6 0 36 (plus 1 (2 ∷ [])) (five 1 0 0 0 0) []
    ∷ planning 1 6 1 36 (plus 1 (2 ∷ [])) (five 0 0 1 1 0) ([] ∷ [])
    ∷ planning 1 6 1000000000 36 (plus 1 (2 ∷ [])) (five 0 0 1 1 0) ([] ∷ [])
    ∷ planning 1 6 1000000001 36 (plus 1 (2 ∷ [])) (five 1 0 0 0 0) []
    -- 11 bytes of terms, 33 records; settings come first
    ∷ planning 1 6 1 40 (replicate 11 0) (five 2 0 0 0 0) []
    ∷ planning 1 6 1 40 (replicate 396 0) (five 2 0 0 0 0) []
    ∷ planning 1 7 1 40 (replicate 11 0) (five 1 0 0 0 0) []
    -- a wrong record, and one that repeats the first
    ∷ planning 1 6 1 40 (plus 1 (2 ∷ []) ++ plus 1 (10 ∷ [])) (five 3 0 0 0 2) []
    ∷ planning 1 6 1 40 (plus 1 (2 ∷ []) ++ plus 1 (2 ∷ [])) (five 4 0 0 0 2) []
    -- x1' = x1^2 u, u a signal: none, for each cap
    ∷ marking 2 2 0 1000000 36 (plus 1 (2 ∷ 1 ∷ [])) (five 5 1 0 1 0) []
    ∷ marking 2 2 1 1000000 36 (plus 1 (2 ∷ 1 ∷ [])) (five 5 2 0 6 0) []
    ∷ marking 2 2 2 1000000 36 (plus 1 (2 ∷ 1 ∷ [])) (five 5 3 0 16 0) []
    ∷ marking 2 2 3 1000000 36 (plus 1 (2 ∷ 1 ∷ [])) (five 5 4 0 32 0) []
    ∷ marking 2 2 4 1000000 36 (plus 1 (2 ∷ 1 ∷ [])) (five 5 5 0 55 0) []
    ∷ marking 2 2 5 1000000 36 (plus 1 (2 ∷ 1 ∷ [])) (five 5 6 0 86 0) []
    ∷ marking 2 2 6 1000000 36 (plus 1 (2 ∷ 1 ∷ [])) (five 5 7 0 126 0) []
    -- and at the limit, and one less
    ∷ marking 2 2 1 6 36 (plus 1 (2 ∷ 1 ∷ [])) (five 5 2 0 6 0) []
    ∷ marking 2 2 1 5 36 (plus 1 (2 ∷ 1 ∷ [])) (five 7 1 0 5 0) []
    -- document 000's example 5.3: x1' = x1 + x1 u, x2' = x1^2 u
    ∷ marking 3 4 6 1000000 72 (plus 1 (1 ∷ []) ++ plus 1 (1 ∷ 0 ∷ 1 ∷ []) ++ plus 2 (2 ∷ 0 ∷ 1 ∷ [])) (five 0 1 1 6 0) (((2 ∷ []) ∷ []) ∷ [])
    -- x1' = x1^3 + u x1, and x1' = x1^3 + u^2 x1
    ∷ marking 2 2 6 1000000 72 (plus 1 (3 ∷ []) ++ plus 1 (1 ∷ 1 ∷ [])) (five 0 1 1 6 0) (((2 ∷ []) ∷ []) ∷ [])
    ∷ marking 2 2 6 1000000 72 (plus 1 (3 ∷ []) ++ plus 1 (1 ∷ 2 ∷ [])) (five 5 7 0 55 0) []
    -- a mark at n, and all marks
    ∷ marking 1 2 6 1 5 (plus 1 (2 ∷ [])) (five 1 0 0 0 0) []
    ∷ marking 6 18446744073709551615 6 1 5 [] (five 1 0 0 0 0) []
    -- every variable is a signal; then the equation of one is wrong, and comes before the repeat
    ∷ marking 6 63 6 1 37 [] (five 0 0 1 1 0) ([] ∷ [])
    ∷ marking 2 2 6 1 5 (plus 1 (2 ∷ []) ++ plus 2 (2 ∷ []) ++ plus 2 (2 ∷ [])) (five 3 0 0 0 2) []
    -- closing saves steps, beside the walk that closes nothing; at the limit, and one less; with no room
    ∷ usual 2 saving (five 0 2 1 24 0) (((1 ∷ 3 ∷ []) ∷ (3 ∷ []) ∷ []) ∷ [])
    ∷ unclosing 2 0 saving (five 0 2 1 37 0) (((1 ∷ 3 ∷ []) ∷ (3 ∷ []) ∷ []) ∷ [])
    ∷ planning 2 6 24 36 saving (five 0 2 1 24 0) (((1 ∷ 3 ∷ []) ∷ (3 ∷ []) ∷ []) ∷ [])
    ∷ planning 2 6 23 36 saving (five 7 2 0 23 0) []
    ∷ planning 2 6 1000000 0 saving (five 6 2 0 19 0) []
    -- x1' = x1^3 + u^2 x1 again
    ∷ unclosing 2 2 (plus 1 (3 ∷ []) ++ plus 1 (1 ∷ 2 ∷ [])) (five 5 7 0 61 0) []
    -- document 001's example 2, Rabinovich-Fabrikant with a = b = 1
    ∷ usual 3 fabrikant (five 0 3 1 70 0) (((0 ∷ 2 ∷ []) ∷ (1 ∷ 1 ∷ []) ∷ (2 ∷ []) ∷ []) ∷ [])
    ∷ unclosing 3 0 fabrikant (five 0 3 1 88 0) (((0 ∷ 2 ∷ []) ∷ (1 ∷ 1 ∷ []) ∷ (2 ∷ []) ∷ []) ∷ [])
    -- document 001's example 3, and with room for no set
    ∷ usual 2 (plus 1 (0 ∷ 4 ∷ []) ++ plus 2 (2 ∷ [])) (five 0 3 1 145 0) (((0 ∷ 3 ∷ []) ∷ (1 ∷ 2 ∷ []) ∷ (3 ∷ []) ∷ []) ∷ [])
    ∷ planning 2 6 1000000 0 (plus 1 (0 ∷ 4 ∷ []) ++ plus 2 (2 ∷ [])) (five 6 3 0 107 0) []
    ∷ planning 2 6 107 0 (plus 1 (0 ∷ 4 ∷ []) ++ plus 2 (2 ∷ [])) (five 6 3 0 107 0) []
    ∷ planning 2 6 106 0 (plus 1 (0 ∷ 4 ∷ []) ++ plus 2 (2 ∷ [])) (five 7 3 0 106 0) []
    -- x1' = x2^8 x3^8: of 41 pairs the cheap ones first, the middle pair among them
    ∷ planning 3 6 1000000 108 (plus 1 (0 ∷ 8 ∷ 8 ∷ [])) (five 6 1 0 10 0) []
    ∷ planning 3 6 9 108 (plus 1 (0 ∷ 8 ∷ 8 ∷ [])) (five 7 1 0 9 0) []
    -- x' = x^4 + x^3 with junior kits, and with the full one by its number
    ∷ junior 1 2 quartic (five 5 7 0 40 0) []
    ∷ junior 1 3 quartic (five 0 2 1 19 0) (((2 ∷ []) ∷ (3 ∷ []) ∷ []) ∷ [])
    ∷ junior 1 4 quartic (five 0 2 2 21 0) (((2 ∷ []) ∷ (3 ∷ []) ∷ []) ∷ ((3 ∷ []) ∷ (4 ∷ []) ∷ []) ∷ [])
    ∷ junior 1 5 quartic (five 0 2 2 23 0) (((2 ∷ []) ∷ (3 ∷ []) ∷ []) ∷ ((3 ∷ []) ∷ (4 ∷ []) ∷ []) ∷ [])
    ∷ junior 1 324 quartic (five 0 2 2 23 0) (((2 ∷ []) ∷ (3 ∷ []) ∷ []) ∷ ((3 ∷ []) ∷ (4 ∷ []) ∷ []) ∷ [])
    -- x' = x^5
    ∷ junior 1 3 (plus 1 (5 ∷ [])) (five 5 7 0 46 0) []
    ∷ junior 1 4 (plus 1 (5 ∷ [])) (five 0 1 1 6 0) (((4 ∷ []) ∷ []) ∷ [])
    -- limits that no kit has
    ∷ junior 1 0 quartic (five 1 0 0 0 0) []
    ∷ junior 1 1 quartic (five 1 0 0 0 0) []
    ∷ junior 1 10 quartic (five 1 0 0 0 0) []
    ∷ junior 1 323 quartic (five 1 0 0 0 0) []
    ∷ junior 1 325 quartic (five 1 0 0 0 0) []
    ∷ []

-- replies, buffers and lists are as written
worked : map (λ r. r.got) table ≡ map (λ r. r.want) table
unfolding table usual planning marking kitted junior wiring_of unclosing quartic saving fabrikant plus minus term set wire back padded planned settings_right said sets_bytes plan levels settled run onward
    kept level opened after ends tried opens child added cheap cheap_first cheaper chosen pairs divisors score set_record wired told listed verdict record_judged judged first_unmet
    halved marked count_right degree_right panel_right free degree may_be records length_right exponents_right coefficient_right term_right fault_from equation system places size_of set_of ascending monomial_right
    set_right first_of second_of row_of rows_from wiring wire_record signals factor in_v2 unmet nonsquares parts_from derivative coeff times support signed
    unsigned is_zero vars any some all keep place gather below pairwise pointwise dictionary insert_by arrange_by closes needed least_from may_do sum counts
    sort_down insert_down count quotients_of
worked = refl

-- one reply does not do for all: x' = x^2 and x' = x^3 with cap 0 have different ones
pub record TwoSystems : Type 0 where
  pub square : (planned (full_panel 1) 0 1 (plus 1 (2 ∷ [])) set_bytes).said ≡ five 0 0 1 1 0
  pub cube : (planned (full_panel 1) 0 1 (plus 1 (3 ∷ [])) set_bytes).said ≡ five 5 1 0 1 0

pub two_systems : TwoSystems
unfolding plus padded planned settings_right said sets_bytes plan levels settled run onward kept level opened after ends tried opens child added cheap cheap_first cheaper
    chosen pairs divisors score set_record halved marked count_right degree_right panel_right free degree may_be records length_right exponents_right coefficient_right term_right fault_from equation system signals
    factor in_v2 unmet nonsquares parts_from derivative coeff times support signed is_zero vars any some all keep gather below pairwise pointwise
    dictionary insert_by arrange_by closes needed least_from may_do sum
two_systems = record { square = refl; cube = refl }

pub plan_not_constant : (x : Numbers) → ((panel : Panel) (most limit : ℕ) (terms : List ℕ) (size : ℕ) → x ≡ (planned panel most limit terms size).said) → ⊥
plan_not_constant x h =
    let done : x ≡ five 0 0 1 1 0 = h (full_panel 1) 0 1 (plus 1 (2 ∷ [])) set_bytes ∙ two_systems.square in
    let none : x ≡ five 5 1 0 1 0 = h (full_panel 1) 0 1 (plus 1 (3 ∷ [])) set_bytes ∙ two_systems.cube in
    let codes : ◌≡◌ {A = ℕ} 0 5 = ap (λ (y : Numbers). y.code) (sym done ∙ none) in
    omega arith
