-- Systems and sets beside their listings, computed by way of the bytes of the set record and the wiring records: one table, one claim. Assumes nothing.
use mathlib.Core.Path.{◌≡◌, refl}
use mathlib.Core.List.{List, [], ◌∷◌, ◌++◌, map}
use Prim.Native.Nat.{ℕ, ◌-◌}
use Prim.Native.String.{String}
use lib.ListN.{length, take, replicate}
use Rattle.monomial.specs.Lists.{any, some, all, keep, place, gather, below, pairwise, pointwise, dictionary, insert_by, arrange_by}
use Rattle.monomial.specs.Monomial.{Mono, vars}
use Rattle.wiring.specs.Coefficient.{signed, unsigned, is_zero}
use Rattle.wiring.specs.Poly.{coeff, times, support}
use Rattle.wiring.specs.Derivative.{parts_from, derivative}
use Rattle.wiring.specs.Signals.{signals}
use Rattle.wiring.specs.Sockets.{halved, marked}
use Rattle.wiring.specs.Terms.{records, equation, system}
use Rattle.wiring.specs.Quadratic.{factor}
use Rattle.wiring.specs.Sets.{places, set_record}
use Rattle.wiring.specs.Wires.{Wire, first_of, second_of, row as row_for, rows_from, wiring, wire_record, wire_list}
use Rattle.wiring.specs.Answers.{wires}
use Rattle.lines.specs.Text.{decimal_within, decimal, joined}
use Rattle.lines.proofs.Samples.{written, line}
use Rattle.listing.specs.Lines.{unmarked, up_from, lefts, letter_of, digit_of}
use Rattle.grammar.specs.Grammar.{exponent_text, factor_text, name_text, names_text, body_text, first_text, next_text, right_text, line_text}
use Rattle.typed.specs.Typed.{factor_at, factors_of, names_of, written_of, negative_of, term_of, terms_of, name_lines, listing_lines, wires_in}

record Row : Type 0 where
  got : List (List ℕ)
  want : List (List ℕ)

-- exponents that are not written are 0
padded : List ℕ → Mono
padded m = m ++ replicate (6 - length m) 0

-- a term with a small coefficient above or below 0
plus : ℕ → List ℕ → ℕ → List ℕ
plus equation m c = equation ∷ 0 ∷ padded m ++ (c ∷ 0 ∷ 0 ∷ 0 ∷ [])

minus : ℕ → List ℕ → ℕ → List ℕ
minus equation m c = equation ∷ 0 ∷ padded m ++ ((256 - c) ∷ 255 ∷ 255 ∷ 255 ∷ [])

typed : ℕ → ℕ → List Mono → List Wire → List (List ℕ)
typed n marks s ws =
    listing_lines (record { n = n; marks = marks; cards = 6 }) (take (length s) (places (set_record s))) (wires_in (length ws) (wire_list ws ++ replicate 8 0))

row : ℕ → ℕ → List ℕ → List (List ℕ) → List String → Row
row n marks terms s want = record { got = typed n marks (map padded s) (wires n (system (records terms)) (map padded s)); want = map line want }

table : List Row
table =
    -- document 000's example, with the new names in the order of the set
    row 2 0 (plus 1 (3 ∷ []) 1 ++ plus 1 (0 ∷ 2 ∷ []) 1 ++ plus 2 (1 ∷ []) 1 ++ plus 2 (0 ∷ 1 ∷ []) 1) ((0 ∷ 2 ∷ []) ∷ (2 ∷ []) ∷ [])
    ("Introduced variables:"
    ∷ "w0 = x2**2"
    ∷ "w1 = x1**2"
    ∷ ""
    ∷ "x1' = w0 + x1*w1"
    ∷ "x2' = x2 + x1"
    ∷ "w0' = 2*w0 + 2*x1*x2"
    ∷ "w1' = 2*x1*w0 + 2*w1**2"
    ∷ [])
    -- x' = x^4 + x^3
    ∷ row 1 0 (plus 1 (4 ∷ []) 1 ++ plus 1 (3 ∷ []) 1) ((2 ∷ []) ∷ (3 ∷ []) ∷ [])
    ("Introduced variables:"
    ∷ "w0 = x1**2"
    ∷ "w1 = x1**3"
    ∷ ""
    ∷ "x1' = w1 + x1*w1"
    ∷ "w0' = 2*x1*w1 + 2*w0*w1"
    ∷ "w1' = 3*w0*w1 + 3*w1**2"
    ∷ [])
    -- signs, constants of 1 and more, a signal fed from outside, a knob
    ∷ row 4 4 (plus 1 [] 1 ++ minus 1 (0 ∷ 0 ∷ 1 ∷ []) 1 ++ minus 1 (3 ∷ []) 1 ++ minus 2 [] 1 ++ plus 2 (0 ∷ 1 ∷ []) 12) ((2 ∷ []) ∷ [])
    ("Introduced variables:"
    ∷ "w0 = x1**2"
    ∷ ""
    ∷ "x1' = 1 - x3 - x1*w0"
    ∷ "x2' = -1 + 12*x2"
    ∷ "x4' = 0"
    ∷ "w0' = 2*x1 - 2*x1*x3 - 2*w0**2"
    ∷ [])
    ∷ row 2 0 (minus 1 (0 ∷ 1 ∷ []) 1 ++ minus 1 (1 ∷ 1 ∷ []) 7 ++ plus 2 [] 5) []
    ("Introduced variables:" ∷ "" ∷ "x1' = -x2 - 7*x1*x2" ∷ "x2' = 5" ∷ [])
    -- several powers; an exponent of two digits
    ∷ row 3 0 [] ((0 ∷ 1 ∷ 1 ∷ []) ∷ (1 ∷ 0 ∷ 54 ∷ []) ∷ [])
    ("Introduced variables:" ∷ "w0 = x2*x3" ∷ "w1 = x1*x3**54" ∷ "" ∷ "x1' = 0" ∷ "x2' = 0" ∷ "x3' = 0" ∷ "w0' = 0" ∷ "w1' = 0" ∷ [])
    -- signals alone
    ∷ row 2 3 [] [] ("Introduced variables:" ∷ "" ∷ [])
    ∷ []

sampled : map (λ r. r.got) table ≡ map (λ r. r.want) table
unfolding table row typed plus minus padded written line listing_lines name_lines factors_of factor_at names_of written_of negative_of term_of terms_of wires_in
    exponent_text factor_text name_text names_text body_text first_text next_text right_text line_text unmarked up_from lefts letter_of digit_of halved marked
    decimal_within decimal joined records equation system places set_record first_of second_of row_for rows_from wiring wire_record signals factor
    parts_from derivative coeff times support signed unsigned is_zero vars any some all keep place gather below pairwise pointwise dictionary
    insert_by arrange_by
sampled = refl
