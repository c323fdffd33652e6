-- Trees beside the texts that they are written as: one table, one claim. Assumes nothing.
use mathlib.Core.Path.{◌≡◌, refl, subst}
use mathlib.Core.Bool.{true, false}
use mathlib.Core.List.{List, [], ◌∷◌, map}
use Prim.Native.Nat.{ℕ, ◌≤◌}
use Prim.Native.String.{String}
use native.Mathlib.Omega.{arith}
use lib.ListN.{length}
use Rattle.monomial.specs.Lists.{gather}
use Rattle.monomial.specs.Claims.{◌∈◌}
use Rattle.wiring.specs.Sockets.{halved, marked}
use Rattle.lines.specs.Text.{decimal_within, decimal, joined}
use Rattle.listing.specs.Lines.{unmarked, up_from, lefts, letter_of, digit_of}
use Rattle.listing.specs.declared.known.Known.{Known}
use Rattle.listing.proofs.Samples.{written}
use Rattle.grammar.specs.Grammar.{Factor, Names, none, alone, square, both, Term, exponent_text, factor_text, name_text, names_text, body_text, first_text, next_text, right_text, line_text, names_from, lines_from, text, FactorRight, NamesRight, TermRight, TreeRight}
use Rattle.grammar.proofs.Terms.{Some}
use Rattle.grammar.proofs.Gluing.{each, each_none}

record Row : Type 0 where
  got : List ℕ
  want : List ℕ

-- for n variables, marks and cards: the powers of the names, the terms of the lines, and the text
row : ℕ → ℕ → ℕ → List (List Factor) → List (List Term) → String → Row
row n marks cards names lines want =
    record { got = text (record { n = n; marks = marks; cards = cards }) (record { names = names; lines = lines }); want = written want }

-- a power; a term that is added, and one that is taken away
p : ℕ → ℕ → Factor
p variable exponent = record { variable = variable; exponent = exponent }

add : ℕ → Names → Term
add c m = record { negative = false; coefficient = c; names = m }

take : ℕ → Names → Term
take c m = record { negative = true; coefficient = c; names = m }

-- document 000's example
powers : List (List Factor)
powers = (p 1 2 ∷ []) ∷ (p 2 2 ∷ []) ∷ []

terms : List (List Term)
terms =
    (add 0 (both 1 3) ∷ add 0 (alone 4) ∷ []) ∷ (add 0 (alone 1) ∷ add 0 (alone 2) ∷ []) ∷ (add 2 (both 1 4) ∷ add 2 (square 3) ∷ [])
    ∷ (add 2 (both 1 2) ∷ add 2 (alone 4) ∷ []) ∷ []

table : List Row
table =
    row 2 0 6 powers terms
    "Introduced variables:\nw0 = x1**2\nw1 = x2**2\n\nx1' = x1*w0 + w1\nx2' = x1 + x2\nw0' = 2*x1*w1 + 2*w0**2\nw1' = 2*x1*x2 + 2*w1\n"
    -- signs, constants, coefficients that are 1 or the largest, squares and the product of a name with itself
    ∷ row 1 0 6 [] ((take 5 none ∷ take 7 (alone 1) ∷ add 1 (square 1) ∷ take 0 (both 1 1) ∷ add 1000000000 none ∷ []) ∷ [])
    "Introduced variables:\n\nx1' = -5 - 7*x1 + 1*x1**2 - x1*x1 + 1000000000\n"
    ∷ row 1 0 6 [] ((take 0 (square 1) ∷ []) ∷ []) "Introduced variables:\n\nx1' = -x1**2\n"
    -- exponents that are not written, that are 1, that are long, and a variable that stands twice; lines that are 0
    ∷ row 2 0 6 ((p 1 1 ∷ p 1 0 ∷ p 2 120 ∷ []) ∷ (p 2 0 ∷ []) ∷ []) ([] ∷ [] ∷ [] ∷ (add 0 (both 3 4) ∷ []) ∷ [])
    "Introduced variables:\nw0 = x1**1*x1*x2**120\nw1 = x2\n\nx1' = 0\nx2' = 0\nw0' = 0\nw1' = w0*w1\n"
    -- signals have no line: the second of three, both of two
    ∷ row 3 2 6 [] ((add 0 (alone 2) ∷ []) ∷ (add 0 (both 2 1) ∷ []) ∷ []) "Introduced variables:\n\nx1' = x2\nx3' = x2*x1\n"
    ∷ row 2 3 6 [] [] "Introduced variables:\n\n"
    ∷ row 2 3 6 ((p 1 0 ∷ p 2 0 ∷ []) ∷ []) ([] ∷ []) "Introduced variables:\nw0 = x1*x2\n\nw0' = 0\n"
    ∷ []

sampled : map (λ r. r.got) table ≡ map (λ r. r.want) table
unfolding table row powers terms p add take written text names_from name_text joined gather factor_text exponent_text decimal decimal_within lines_from line_text right_text first_text next_text body_text names_text letter_of digit_of lefts unmarked up_from marked halved
sampled = refl

-- ---- the tree of document 000's example is right, so there are right trees
panel : Known
panel = record { n = 2; marks = 0; cards = 6 }

abbrev FactorsRight : List Factor → Type 0
FactorsRight fs = (1 ≤ length fs) × ((f : Factor) → f ∈ fs → FactorRight panel f)

abbrev TermsRight : List Term → Type 0
TermsRight ts = (x : Term) → x ∈ ts → TermRight panel 2 x

power_right : (v e : ℕ) → 1 ≤ v → v ≤ 2 → FactorsRight (p v e ∷ [])
unfolding panel p
power_right v e h j = (omega arith, each (FactorRight panel) (record { low = h; high = j }) (each_none (FactorRight panel)))

two_right : (x y : Term) → TermRight panel 2 x → TermRight panel 2 y → TermsRight (x ∷ y ∷ [])
two_right x y h j = each (TermRight panel 2) h (each (TermRight panel 2) j (each_none (TermRight panel 2)))

add_right : (c : ℕ) (m : Names) → c ≤ 1000000000 → Some m → NamesRight panel 2 m → TermRight panel 2 (add c m)
unfolding add
add_right c m h s j = record { some = λ e. absurd (subst Some e s); limited = h; names = j }

example_right : TreeRight panel (record { names = powers; lines = terms })
unfolding powers terms panel lefts unmarked up_from marked halved
example_right = record {
  few = omega arith;
  factors = each FactorsRight (power_right 1 2 (omega arith) (omega arith)) (each FactorsRight (power_right 2 2 (omega arith) (omega arith)) (each_none FactorsRight));
  told = refl;
  terms = each TermsRight
      (two_right (add 0 (both 1 3)) (add 0 (alone 4)) (add_right 0 (both 1 3) (omega arith) tt (omega arith)) (add_right 0 (alone 4) (omega arith) tt (omega arith)))
      (each TermsRight
      (two_right (add 0 (alone 1)) (add 0 (alone 2)) (add_right 0 (alone 1) (omega arith) tt (omega arith)) (add_right 0 (alone 2) (omega arith) tt (omega arith)))
      (each TermsRight
      (two_right (add 2 (both 1 4)) (add 2 (square 3)) (add_right 2 (both 1 4) (omega arith) tt (omega arith)) (add_right 2 (square 3) (omega arith) tt (omega arith)))
      (each TermsRight
      (two_right (add 2 (both 1 2)) (add 2 (alone 4)) (add_right 2 (both 1 2) (omega arith) tt (omega arith)) (add_right 2 (alone 4) (omega arith) tt (omega arith)))
      (each_none TermsRight))));
}
