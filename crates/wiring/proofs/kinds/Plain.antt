-- The panel's kind of monomials obeys the laws of a kind: its exponents are the natural numbers. Assumes nothing.
use mathlib.Core.Path.{◌≡◌, refl}
use mathlib.Core.Logic.{inl}
use Prim.Native.Nat.{ℕ, zero, suc, ◌+◌, ◌-◌}
use native.Mathlib.Omega.{arith}
use lib.Dec.{eqb, ltb}
use lib.IntN.{pos}
use Rattle.monomial.specs.Monomial.{one, vars}
use Rattle.monomial.proofs.order.Laws.{ℕ-order}
use Rattle.monomial.proofs.Variables.{var_is}
use Rattle.wiring.specs.Poly.{plain}
use Rattle.wiring.specs.Kinds.{Lawful, Exponent, Near, is_none, stepped, Summing}
use Rattle.wiring.proofs.kinds.Powers.{lawful}

-- ---- the exponents
abbrev naturals : Exponent ℕ
naturals = record { none = 0; once = 1; plus = ◌+◌; less = λ e. e - 1; number = pos; same = eqb; before = ltb }

near : (e : ℕ) → Near naturals e
near zero = is_none refl
near (suc e) = let q : 1 + e ≡ suc e = omega arith in stepped 1 e (inl refl) (omega arith) q

plus_less : (a b : ℕ) → (pos b ≡ pos 0 → ⊥) → a + (b - 1) ≡ a + b - 1
plus_less a zero n = absurd (n refl)
plus_less a (suc b) n = omega arith

summing : Summing naturals
summing = record {
  order = ℕ-order;
  plus_comm = λ a b. omega arith;
  plus_assoc = λ a b c. omega arith;
  plus_none = λ a. omega arith;
  plus_cancel = λ a b c e. omega arith;
  number_none = refl;
  number_once = refl;
  number_plus = λ a b. refl;
  less_once = refl;
  plus_less = plus_less;
  near = near;
}

pub plain_lawful : Lawful plain
plain_lawful = lawful naturals summing vars (λ w i h. var_is w i (one w) h)
