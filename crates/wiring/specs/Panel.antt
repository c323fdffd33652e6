-- The numbers of the panel, each in one place: what follows from another is computed from it. Assumes nothing.
use Rattle.std.specs.Prelude.{ℕ, suc, ◌+◌, ◌*◌}
use Rattle.monomial.specs.Monomial.{width}

-- integrator cards: so many new monomials has a set
abbrev pub cards : ℕ
cards = 6

-- a term record: where its monomial and its coefficient stand, its bytes, how many there may be and their bytes, its largest exponent and coefficient
abbrev pub monomial_at : ℕ
monomial_at = 2

abbrev pub coefficient_at : ℕ
coefficient_at = monomial_at + width

abbrev pub term_bytes : ℕ
term_bytes = coefficient_at + 4

abbrev pub most_terms : ℕ
most_terms = 32

abbrev pub terms_bytes : ℕ
terms_bytes = term_bytes * most_terms

abbrev pub term_exponent : ℕ
term_exponent = 9

abbrev pub most_coefficient : ℕ
most_coefficient = 1000000

-- a set record: its bytes and its largest exponent; the largest exponent in the derivative of one of its signals
abbrev pub set_bytes : ℕ
set_bytes = width * cards

abbrev pub set_exponent : ℕ
set_exponent = term_exponent * cards

abbrev pub derived_exponent : ℕ
derived_exponent = set_exponent + term_exponent

-- the signals of a set: 1, the variables, the new monomials
abbrev pub most_signals : ℕ
most_signals = suc width + cards

-- a wiring record: its bytes, how many a list may have and their bytes
abbrev pub wire_bytes : ℕ
wire_bytes = 8

abbrev pub most_wires : ℕ
most_wires = suc cards * most_terms

abbrev pub wires_bytes : ℕ
wires_bytes = wire_bytes * most_wires

-- the limits on the total degree of a new monomial: the least and the highest that a junior kit is printed with, and the full kit's, which no monomial of
-- a set record passes
abbrev pub junior_least : ℕ
junior_least = 2

abbrev pub junior_most : ℕ
junior_most = 9

abbrev pub full_degree : ℕ
full_degree = width * set_exponent

-- the highest limit of steps
abbrev pub most_steps : ℕ
most_steps = 1000000000
