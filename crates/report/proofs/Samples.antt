-- Reports beside their lines, by hand: one table, one claim. Assumes nothing.
use mathlib.Core.Path.{◌≡◌, refl}
use mathlib.Core.List.{List, [], ◌∷◌, ◌++◌, map}
use Prim.Native.Nat.{ℕ, ◌*◌, ◌-◌}
use Prim.Native.String.{String}
use lib.ListN.{length, replicate}
use Rattle.monomial.specs.Lists.{any, some, all, keep, place, gather, below, pairwise, pointwise, dictionary, insert_by, arrange_by}
use Rattle.monomial.specs.Monomial.{vars}
use Rattle.monomial.specs.Divisors.{divisors, score, pairs}
use Rattle.wiring.specs.Coefficient.{signed, unsigned, is_zero}
use Rattle.wiring.specs.Poly.{coeff, times, support}
use Rattle.wiring.specs.Terms.{records, length_right, exponents_right, coefficient_right, term_right, fault_from, equation, system}
use Rattle.wiring.specs.Derivative.{parts_from, derivative}
use Rattle.wiring.specs.Signals.{signals}
use Rattle.wiring.specs.Quadratic.{factor, in_v2, unmet, nonsquares}
use Rattle.wiring.specs.Choice.{cheaper, chosen}
use Rattle.wiring.specs.Sets.{places, size_of, set_of, ascending, monomial_right, set_right, set_record}
use Rattle.wiring.specs.Wires.{first_of, second_of, row as row_of, rows_from, wiring, wire_record}
use Rattle.monomial.specs.Degree.{degree}
use Rattle.wiring.specs.Kit.{degree_right}
use Rattle.wiring.specs.Sockets.{full_panel, halved, marked, count_right, panel_right, free, may_be}
use Rattle.wiring.specs.Answers.{first_unmet, judged, record_judged, verdict, listed, told, wired}
use Rattle.counting.specs.Counting.{quotients_of, count, insert_down, sort_down, counts, sum, may_do, least_from, needed, closes}
use Rattle.lister.specs.Cheap.{added, cheap, cheap_first}
use Rattle.walk.specs.Walk.{child, opens, ends, tried, after, opened, level, kept, onward, run}
use Rattle.walk.specs.Plan.{settled, levels, plan, sets_bytes, said, settings_right, planned}
use Rattle.walk.proofs.Worked.{padded, plus, minus}
use Rattle.thin.specs.Subsets.{subsets}
use Rattle.thin.specs.Thin.{least_size, quadratic_ones, least, thinnest, thinning, thinned_by, thinned}
use Rattle.lines.specs.Text.{decimal_within, decimal, signed_text, joined}
use Rattle.lines.specs.Answer.{reply_line, exponents, set_text, wire_line}
use Rattle.lines.proofs.Samples.{written, line}
use Rattle.report.specs.declared.prepare.Settings.{Settings}
use Rattle.report.specs.Prepare.{wiring_of, results_of, results, thin_results, wire_results}
use Rattle.report.specs.Report.{slots, set_lines, wire_lines, lines_of, report, thin_report, wire_report}
use Rattle.report.specs.Program.{program}

record Row : Type 0 where
  got : List (List ℕ)
  want : List (List ℕ)

row : Settings → List ℕ → List String → Row
row s terms want = record { got = report s terms; want = map line want }

-- the record of a set of one variable, by its powers
powers_of : List ℕ → List ℕ
powers_of l = gather (λ p. padded (p ∷ [])) l ++ replicate (36 - 6 * length l) 0

-- thinning such a set, with room for so many sets, of which one is wired; and wiring it
thin_row : ℕ → ℕ → List ℕ → List ℕ → List String → Row
thin_row room which terms powers want = record { got = thin_report (full_panel 1) which terms (powers_of powers) (36 * room); want = map line want }

wire_row : List ℕ → List ℕ → List String → Row
wire_row terms powers want = record { got = wire_report (full_panel 1) terms (powers_of powers); want = map line want }

-- x' = x^4 + x^3, with room for so many sets, of which one is wired
example : List ℕ
example = plus 1 (4 ∷ []) ++ plus 1 (3 ∷ [])

wiring_set : ℕ → ℕ → Settings
wiring_set room which = record { n = 1; marks = 0; degree = 324; cap = 6; limit = 1000000; room = room; which = which }

table : List Row
table =
    -- document 01's nine lines
    row program example
    ("0 2 2 23 0"
    ∷ "2.0.0.0.0.0 3.0.0.0.0.0"
    ∷ "3.0.0.0.0.0 4.0.0.0.0.0"
    ∷ "1 0 8 1"
    ∷ "1 1 8 1"
    ∷ "7 1 8 2"
    ∷ "7 7 8 2"
    ∷ "8 7 8 3"
    ∷ "8 8 8 3"
    ∷ [])
    -- no input: the empty set, and nothing is to be wired
    ∷ row program [] ("0 0 1 1 0" ∷ "" ∷ [])
    -- a product that never changes: a sign, and no wire for the new signal
    ∷ row program (plus 1 (2 ∷ 1 ∷ []) ++ minus 2 (1 ∷ 2 ∷ [])) ("0 1 1 8 0" ∷ "1.1.0.0.0.0" ∷ "1 1 7 1" ∷ "2 2 7 -1" ∷ [])
    -- refusals are one line: 13 bytes, an exponent of 10, a record twice
    ∷ row program (replicate 13 0) ("2 0 0 0 0" ∷ [])
    ∷ row program (plus 1 (10 ∷ [])) ("3 0 0 0 1" ∷ [])
    ∷ row program (plus 1 (1 ∷ []) ++ plus 1 (1 ∷ [])) ("4 0 0 0 2" ∷ [])
    -- the second set wired; there is no set 0 and no set 3; room for one set is not enough
    ∷ row (wiring_set 2 2) example
    ("0 2 2 23 0"
    ∷ "2.0.0.0.0.0 3.0.0.0.0.0"
    ∷ "3.0.0.0.0.0 4.0.0.0.0.0"
    ∷ "1 0 2 1"
    ∷ "1 0 3 1"
    ∷ "2 1 3 3"
    ∷ "2 2 2 3"
    ∷ "3 2 2 4"
    ∷ "3 2 3 4"
    ∷ [])
    ∷ row (wiring_set 2 0) example ("0 2 2 23 0" ∷ "2.0.0.0.0.0 3.0.0.0.0.0" ∷ "3.0.0.0.0.0 4.0.0.0.0.0" ∷ [])
    ∷ row (wiring_set 2 3) example ("0 2 2 23 0" ∷ "2.0.0.0.0.0 3.0.0.0.0.0" ∷ "3.0.0.0.0.0 4.0.0.0.0.0" ∷ [])
    ∷ row (wiring_set 1 1) example ("6 2 0 15 0" ∷ [])
    -- x1' = x1^3 + u x1, u a signal: no wire for it
    ∷ row (record { n = 2; marks = 2; degree = 324; cap = 6; limit = 1000000; room = 1; which = 1 }) (plus 1 (3 ∷ []) ++ plus 1 (1 ∷ 1 ∷ []))
    ("0 1 1 6 0" ∷ "2.0.0.0.0.0" ∷ "1 1 2 1" ∷ "1 1 3 1" ∷ "3 2 3 2" ∷ "3 3 3 2" ∷ [])
    -- x' = x^4 + x^3 with the junior kit of limit 3, and of limit 2
    ∷ row (record { n = 1; marks = 0; degree = 3; cap = 6; limit = 1000000; room = 2; which = 0 }) example ("0 2 1 19 0" ∷ "2.0.0.0.0.0 3.0.0.0.0.0" ∷ [])
    ∷ row (record { n = 1; marks = 0; degree = 2; cap = 6; limit = 1000000; room = 2; which = 1 }) example ("5 7 0 40 0" ∷ [])
    -- thinning: of three signals two are needed; the second subset wired; no subset 3; room for one is not enough
    ∷ thin_row 2 1 example (2 ∷ 3 ∷ 4 ∷ [])
    ("0 2 2 8 0"
    ∷ "2.0.0.0.0.0 3.0.0.0.0.0"
    ∷ "3.0.0.0.0.0 4.0.0.0.0.0"
    ∷ "1 0 3 1"
    ∷ "1 1 3 1"
    ∷ "2 1 3 2"
    ∷ "2 2 3 2"
    ∷ "3 2 3 3"
    ∷ "3 3 3 3"
    ∷ [])
    ∷ thin_row 2 2 example (2 ∷ 3 ∷ 4 ∷ [])
    ("0 2 2 8 0"
    ∷ "2.0.0.0.0.0 3.0.0.0.0.0"
    ∷ "3.0.0.0.0.0 4.0.0.0.0.0"
    ∷ "1 0 2 1"
    ∷ "1 0 3 1"
    ∷ "2 1 3 3"
    ∷ "2 2 2 3"
    ∷ "3 2 2 4"
    ∷ "3 2 3 4"
    ∷ [])
    ∷ thin_row 2 3 example (2 ∷ 3 ∷ 4 ∷ []) ("0 2 2 8 0" ∷ "2.0.0.0.0.0 3.0.0.0.0.0" ∷ "3.0.0.0.0.0 4.0.0.0.0.0" ∷ [])
    ∷ thin_row 1 1 example (2 ∷ 3 ∷ 4 ∷ []) ("6 2 0 8 0" ∷ [])
    -- x' = x needs no new signal: the empty set; x' = x^4 with x^2 is not quadratic; 42 bytes are no set
    ∷ thin_row 1 1 (plus 1 (1 ∷ [])) (2 ∷ 3 ∷ []) ("0 0 1 4 0" ∷ "" ∷ "1 0 1 1" ∷ [])
    ∷ thin_row 1 1 (plus 1 (4 ∷ [])) (2 ∷ []) ("9 1 0 0 2" ∷ [])
    ∷ thin_row 1 1 example (2 ∷ 3 ∷ 4 ∷ 5 ∷ 6 ∷ 7 ∷ 8 ∷ []) ("2 0 0 0 0" ∷ [])
    -- wiring a given set: no set line; not quadratic; x alone is no new signal; the empty set, and nothing to be wired
    ∷ wire_row example (3 ∷ 4 ∷ [])
    ("0 2 6 0 0"
    ∷ "1 0 2 1"
    ∷ "1 0 3 1"
    ∷ "2 1 3 3"
    ∷ "2 2 2 3"
    ∷ "3 2 2 4"
    ∷ "3 2 3 4"
    ∷ [])
    ∷ wire_row (plus 1 (4 ∷ [])) (2 ∷ []) ("9 1 0 0 2" ∷ [])
    ∷ wire_row example (1 ∷ []) ("8 0 0 0 0" ∷ [])
    ∷ wire_row (plus 1 (2 ∷ [])) [] ("0 0 1 0 0" ∷ "1 1 1 1" ∷ [])
    ∷ wire_row [] [] ("0 0 0 0 0" ∷ [])
    ∷ []

sampled : map (λ r. r.got) table ≡ map (λ r. r.want) table
unfolding table row powers_of thin_row wire_row padded plus minus example wiring_set written line report thin_report wire_report lines_of set_lines wire_lines slots results_of results thin_results
    wire_results wiring_of decimal_within decimal
    signed_text joined reply_line exponents set_text wire_line planned thinned thinned_by thinning thinnest least quadratic_ones least_size subsets settings_right said sets_bytes plan levels settled run onward
    kept level opened after ends tried opens child added cheap cheap_first cheaper chosen pairs divisors score set_record wired told listed verdict record_judged judged first_unmet
    halved marked count_right degree_right panel_right free degree may_be records length_right exponents_right coefficient_right term_right fault_from equation system places size_of set_of ascending monomial_right
    set_right first_of second_of row_of rows_from wiring wire_record signals factor in_v2 unmet nonsquares parts_from derivative coeff times support signed
    unsigned is_zero vars any some all keep place gather below pairwise pointwise dictionary insert_by arrange_by closes needed least_from may_do sum counts
    sort_down insert_down count quotients_of
sampled = refl
