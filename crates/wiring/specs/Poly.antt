-- A polynomial with whole coefficients is a list of terms, a coefficient and a monomial each. What it means is its coefficient at each
-- monomial: like monomials are added with sign. What a monomial is stays open: a kind has 1 and its variables, a product, an exponent of each
-- variable, division by a variable, an equality and an order.
-- Assumes nothing.
use Rattle.std.specs.Prelude.{◌≡◌, Bool, not, cond, List, [], ◌∷◌, map, ℕ, ◌-◌, ℤ, pos, ◌+ℤ◌, ◌*ℤ◌, length, get_or, set}
use Rattle.monomial.specs.Lists.{keep, arrange_by}
use Rattle.monomial.specs.Monomial.{Mono, one, vars}
use Rattle.monomial.specs.Order.{same, before}
use Rattle.monomial.specs.Product.{mul}
use Rattle.wiring.specs.Coefficient.{is_zero}

-- a kind of monomials
pub record Kind (M : Type 0) : Type 0 where
  -- in how many variables a monomial is; 1 and the variables, x1 first, of so many
  pub width : M → ℕ
  pub one : ℕ → M
  pub vars : ℕ → List M
  pub mul : M → M → M
  -- the exponent of variable number i, from 0, and the monomial divided by that variable, which is asked only where the exponent is not 0
  pub power : M → ℕ → ℤ
  pub over : M → ℕ → M
  pub same : M → M → Bool
  pub before : M → M → Bool

-- the panel's kind
abbrev pub plain : Kind Mono
plain = record {
  width = length;
  one = one;
  vars = vars;
  mul = mul;
  power = λ z i. pos (get_or z i 0);
  over = λ z i. set z i (get_or z i 0 - 1);
  same = same;
  before = before;
}

abbrev pub Term : Type 0 → Type 0
Term M = ℤ × M

abbrev pub Poly : Type 0 → Type 0
Poly M = List (Term M)

-- the monomials of the terms, in their order
abbrev pub monos : {M : Type 0} → Poly M → List M
monos p = map (λ t. t.1) p

module _ {M : Type 0} (k : Kind M) where
  -- the coefficient of m
  unfoldable pub coeff : Poly M → M → ℤ
  coeff [] m = pos 0
  coeff (t ∷ p) m = let r = coeff p m in cond (k.same t.1 m) (t.0 +ℤ r) r

  -- two polynomials are equal when every monomial has the same coefficient in both
  abbrev pub Same : Poly M → Poly M → Type 0
  Same p q = (m : M) → coeff p m ≡ coeff q m

  -- a number times a monomial times a polynomial
  unfoldable pub times : ℤ → M → Poly M → Poly M
  times c z p = map (λ t. (c *ℤ t.0, k.mul z t.1)) p

  -- the monomials whose coefficient is not 0, ascending, each once
  unfoldable pub support : Poly M → List M
  support p = arrange_by k.same k.before (keep (λ m. not (is_zero (coeff p m))) (monos p))
