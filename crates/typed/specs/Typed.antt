-- The listing of a set and its wiring list: its tree, and its text line by line. Assumes nothing.
use Rattle.std.specs.Prelude.{Bool, true, false, cond, List, [], ◌∷◌, ◌++◌, map, ℕ, zero, suc, ◌+◌, ◌*◌, ◌≤◌, ◌<◌, eqb, ℤ, pos, negsuc, nat_abs, length, get_or, take, drop}
use Rattle.monomial.specs.Lists.{gather, below}
use Rattle.monomial.specs.Monomial.{Mono}
use Rattle.wiring.specs.Panel.{most_signals, wire_bytes, most_wires}
use Rattle.wiring.specs.Coefficient.{word, signed}
use Rattle.wiring.specs.Sets.{places}
use Rattle.wiring.specs.Wires.{Wire}
use Rattle.wiring.specs.Claims.{row_of}
use Rattle.reader.specs.Bytes.{newline, blank, minus}
use Rattle.listing.specs.Bytes.{plus, heading}
use Rattle.listing.specs.Lines.{lefts}
use Rattle.listing.specs.declared.known.Known.{Known}
use Rattle.grammar.specs.Grammar.{Factor, Names, none, alone, square, both, Term, Tree, name_text, body_text, line_text}

-- ---- the tree
-- a power of variable number i, from 0; an exponent of 1 is not written
abbrev pub power_of : ℕ → ℕ → Factor
power_of i e = record { variable = i + 1; exponent = cond (eqb e 1) 0 e }

-- the powers of a monomial, by ascending variable
unfoldable pub factor_at : Mono → ℕ → List Factor
factor_at m i = cond (eqb (get_or m i 0) 0) [] (power_of i (get_or m i 0) ∷ [])

unfoldable pub factors_of : Mono → List Factor
factors_of m = gather (factor_at m) (below (length m))

-- the product of two signals; signal 0 is 1
unfoldable pub names_of : ℕ → ℕ → Names
names_of a b = cond (eqb a 0) (cond (eqb b 0) none (alone b)) (cond (eqb a b) (square a) (both a b))

-- a coefficient of 1 is written only where there is no name
unfoldable pub written_of : ℕ → Names → ℕ
written_of v none = v
written_of v (alone s) = cond (eqb v 1) 0 v
written_of v (square s) = cond (eqb v 1) 0 v
written_of v (both s t) = cond (eqb v 1) 0 v

unfoldable pub negative_of : ℤ → Bool
negative_of (pos n) = false
negative_of (negsuc n) = true

unfoldable pub term_of : Wire → Term
term_of w = record {
  negative = negative_of w.coefficient;
  coefficient = written_of (nat_abs w.coefficient) (names_of w.a w.b);
  names = names_of w.a w.b;
}

-- the terms of the line of a signal, in the order of the wiring list
unfoldable pub terms_of : List Wire → ℕ → List Term
terms_of ws l = map term_of (row_of l ws)

unfoldable pub tree_of : Known → List Mono → List Wire → Tree
tree_of k s ws = record { names = map factors_of s; lines = map (terms_of ws) (lefts k (length s)) }

-- ---- its text, line by line
-- the lines of the new names, from number i on
unfoldable pub name_lines : Known → ℕ → List Mono → List (List ℕ)
name_lines k i [] = []
name_lines k i (m ∷ s) = name_text k i (factors_of m) ∷ name_lines k (i + 1) s

abbrev pub derivative_line : Known → List Wire → ℕ → List ℕ
derivative_line k ws l = line_text k l (terms_of ws l)

unfoldable pub listing_lines : Known → List Mono → List Wire → List (List ℕ)
listing_lines k s ws = heading ∷ name_lines k 0 s ++ ((newline ∷ []) ∷ map (derivative_line k ws) (lefts k (length s)))

-- what stands before term number i of a line, from 0
unfoldable pub sign_text : ℕ → Bool → List ℕ
sign_text zero negative = cond negative (minus ∷ []) []
sign_text (suc i) negative = blank ∷ cond negative minus plus ∷ blank ∷ []

-- term number i of a line
unfoldable pub term_text : Known → ℕ → Term → List ℕ
term_text k i t = sign_text i t.negative ++ body_text k t.coefficient t.names

-- ---- in bytes
-- what a wiring record says
abbrev pub wire_of : List ℕ → Wire
wire_of bytes = record { left = get_or bytes 0 0; a = get_or bytes 1 0; b = get_or bytes 2 0; coefficient = signed (word bytes 4) }

-- record number j of those that stand side by side; the first `count` of them
abbrev pub wire_at : List ℕ → ℕ → Wire
wire_at bytes j = wire_of (take wire_bytes (drop (wire_bytes * j) bytes))

unfoldable pub wires_in : ℕ → List ℕ → List Wire
wires_in count bytes = map (wire_at bytes) (below count)

-- line number j, from 0, for so many monomials of a set record and so many wiring records; nothing behind the last
abbrev pub typed_line : Known → ℕ → List ℕ → ℕ → List ℕ → ℕ → List ℕ
typed_line k size set count wires j = get_or (listing_lines k (take size (places set)) (wires_in count wires)) j []

-- no more records than a wiring list has, and signals that there can be
pub record Listed (count : ℕ) (bytes : List ℕ) : Type 0 where
  pub few : count ≤ most_wires
  pub room : wire_bytes * count ≤ length bytes
  pub signals : (j : ℕ) → j < count → ((wire_at bytes j).a < most_signals) × ((wire_at bytes j).b < most_signals)
