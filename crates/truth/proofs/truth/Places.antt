-- The signals as an array holds them: their places, and products of two of them. Assumes nothing.
use mathlib.Core.Path.{◌≡◌, sym, ap₂, ◌∙◌, subst}
use Prim.Native.Nat.{ℕ, ◌+◌, ◌*◌, ◌<◌}
use native.Mathlib.Omega.{arith}
use lib.Dec.{T}
use lib.ListN.{length}
use Rattle.monomial.specs.Monomial.{Mono}
use Rattle.monomial.specs.Product.{mul, AtMost, FitsBytes}
use Rattle.monomial.proofs.product.Laws.{at_most_mul, at_most_weaken}
use Rattle.wiring.specs.Panel.{set_exponent, most_signals}
use Rattle.wiring.specs.Poly.{plain}
use Rattle.wiring.specs.Quadratic.{in_v2}
use Rattle.wiring.specs.Signals.{Fitting, signals_of}
use Rattle.wiring.specs.Wires.{signal, FirstPair}
use Rattle.wiring.specs.declared.held.Signals.{Signals}
use Rattle.wiring.specs.declared.wires.Pair.{Pair}
use Rattle.std.specs.Prelude.{Option, Some}
use Rattle.wiring.proofs.signals.Arrays.{entry, front_length, front_at, entry_fits}
use Rattle.truth.specs.Sums.{cell, pair_cells}
use Rattle.truth.proofs.truth.Cells.{signals-in}

-- the cell of the pair that is found
pub cell_found : (v : _) (m : Mono) (r : Option Pair) (p : Pair) → r ≡ Some p → FirstPair v m r → (most_signals * p.a + p.b ≡ cell v m) × (most_signals * p.a + p.b < pair_cells)
unfolding cell
cell_found v m r p e f =
    let pair = (rw e at f).pair in
    (ap₂ (λ (a b : ℕ). most_signals * a + b) pair.first pair.second, omega (arith, pair.a_small, pair.b_small))

module _ (v : Signals) (room : length v.m ≡ most_signals) (wide : Fitting set_exponent (signals_of v)) where
  pub long : length (signals_of v) ≡ v.len
  long = front_length v.len v.m (omega (arith, v.few))

  pub within : (i : ℕ) → i < v.len → i < length (signals_of v)
  within i h = omega (arith, long)

  pub at : (i : ℕ) → i < v.len → signal plain (signals_of v) i ≡ entry v.m i
  at i h = front_at v.len v.m i (plain.one 0) h (omega (arith, v.few))

  pub small : (i : ℕ) → i < v.len → AtMost set_exponent (entry v.m i)
  small i h = entry_fits set_exponent v.len v.m i h (omega (arith, v.few)) wide

  -- the product of two of them
  module _ (i j : ℕ) (hi : i < v.len) (hj : j < v.len) where
    pub product_fits : FitsBytes (mul (entry v.m i) (entry v.m j))
    product_fits =
        at_most_weaken (mul (entry v.m i) (entry v.m j)) (omega arith) (at_most_mul set_exponent set_exponent (entry v.m i) (entry v.m j) (small i hi) (small j hj))

    pub product_is : (m : Mono) → m ≡ mul (entry v.m i) (entry v.m j) → m ≡ mul (signal plain (signals_of v) i) (signal plain (signals_of v) j)
    product_is m e = e ∙ sym (ap₂ mul (at i hi) (at j hj))

    pub product_met : (m : Mono) → m ≡ mul (entry v.m i) (entry v.m j) → T (in_v2 plain (signals_of v) m)
    product_met m e = subst (λ (x : Mono). T (in_v2 plain (signals_of v) x)) (sym (product_is m e)) (signals-in (signals_of v) i j (within i hi) (within j hj))
