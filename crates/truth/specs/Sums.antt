-- The sums of a line: for each product of two signals the total of its terms, in the cell of its first pair, so that no two products share a cell.
-- Assumes nothing.
use Rattle.std.specs.Prelude.{◌≡◌, Bool, List, ℕ, ◌+◌, ◌*◌, ◌≤◌, ◌<◌, T, ℤ, pos, nat_abs, ◌-ℤ◌, length, get_or, drop}
use Rattle.monomial.specs.Lists.{all, below}
use Rattle.monomial.specs.Monomial.{Mono}
use Rattle.monomial.specs.Product.{mul}
use Rattle.monomial.specs.Claims.{◌∈◌}
use Rattle.wiring.specs.Panel.{most_signals}
use Rattle.wiring.specs.Coefficient.{is_zero}
use Rattle.wiring.specs.Poly.{Poly, plain, coeff}
use Rattle.wiring.specs.Quadratic.{in_v2}
use Rattle.wiring.specs.Wires.{signal, first_of, second_of}
use Rattle.listing.specs.Meaning.{Product}
use Rattle.truth.specs.Truth.{spoken}
use Rattle.truth.specs.declared.truth.Sums.{Sums}

-- the largest coefficient that a listing can have, how many products a line can have, and how large a sum can become
abbrev pub most_number : ℕ
most_number = 1000000000

abbrev pub most_products : ℕ
most_products = 4096

abbrev pub most_sum : ℕ
most_sum = most_number * most_products

-- a cell for each pair of signals
abbrev pub pair_cells : ℕ
pair_cells = most_signals * most_signals

-- the cell of m, which two signals multiply to
unfoldable pub cell : List Mono → Mono → ℕ
cell v m = most_signals * first_of plain v m + second_of plain v m

abbrev pub held : Sums → ℕ → ℤ
held sums i = get_or sums.cells i (pos 0)

-- no sum is larger than that
abbrev pub Bounded : ℕ → Sums → Type 0
Bounded most sums = (i : ℕ) → nat_abs (held sums i) ≤ most

-- the sums are those of the line
pub record Summed (v : List Mono) (line : List Product) (sums : Sums) : Type 0 where
  pub totals : (m : Mono) → T (in_v2 plain v m) → held sums (cell v m) ≡ coeff plain (spoken v line) m
  pub bounded : Bounded (most_number * length line) sums

-- the products of a line are of signals that there are
abbrev pub Told : List Mono → List Product → Type 0
Told v line = (p : Product) → p ∈ line → (p.a < length v) × (p.b < length v)

-- ---- as the code compares the sums with the derivative p
-- at m
unfoldable pub agrees : List Mono → Sums → Poly Mono → Mono → Bool
agrees v sums p m = is_zero (held sums (cell v m) -ℤ coeff plain p m)

-- at the products of signal number a with itself and those behind it
unfoldable pub row_agrees : List Mono → Sums → Poly Mono → ℕ → Bool
row_agrees v sums p a = all (λ y. agrees v sums p (mul (signal plain v a) y)) (drop a v)

-- at all products of two signals
unfoldable pub all_agree : List Mono → Sums → Poly Mono → Bool
all_agree v sums p = all (row_agrees v sums p) (below (length v))
