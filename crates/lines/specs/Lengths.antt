-- How long the pieces of a line can be. Assumes nothing.
use Rattle.std.specs.Prelude.{ℕ, suc, ◌*◌}
use Rattle.monomial.specs.Monomial.{width}
use Rattle.wiring.specs.Panel.{cards}

-- a number below 2^64 in decimal; and with a byte before it, its sign or what joins it to the number before
abbrev pub number_bytes : ℕ
number_bytes = 20

abbrev pub piece_bytes : ℕ
piece_bytes = suc number_bytes

-- a reply: five numbers, and the end of the line
abbrev pub reply_bytes : ℕ
reply_bytes = suc (piece_bytes * 5)

-- the exponents of a monomial; and the monomials of a set, with a byte before each
abbrev pub powers_bytes : ℕ
powers_bytes = piece_bytes * width

abbrev pub set_text_bytes : ℕ
set_text_bytes = suc powers_bytes * cards

-- a buffer that is written byte by byte, two digits for each; a longer one goes by its digest
abbrev pub shown_bytes : ℕ
shown_bytes = 72

abbrev pub hex_bytes : ℕ
hex_bytes = 2 * shown_bytes
