-- How large the numbers of a well-formed input can be: exponents of derivatives of signals, totals, and every sum on the way to a total.
-- Assumes nothing.
use mathlib.Core.Path.{◌≡◌, sym}
use mathlib.Core.List.{List}
use Prim.Native.Nat.{ℕ, ◌≤◌, ◌<◌}
use native.Mathlib.Omega.{arith}
use lib.Dec.{T}
use lib.IntN.{nat_abs}
use lib.ListN.{length, get_or, take}
use Rattle.monomial.specs.Monomial.{Mono, width}
use Rattle.monomial.specs.Claims.{◌∈◌}
use Rattle.monomial.proofs.product.Laws.{at_most_at}
use Rattle.wiring.specs.Panel.{set_exponent, derived_exponent}
use Rattle.wiring.specs.declared.panel.Panel.{Panel}
use Rattle.wiring.specs.Poly.{plain, coeff, support}
use Rattle.wiring.specs.Derivative.{derivative}
use Rattle.wiring.specs.Signals.{Fitting}
use Rattle.wiring.specs.Terms.{records, system, CleanTerms}
use Rattle.wiring.specs.Sets.{set_of, set_right}
use Rattle.wiring.specs.Claims.{WellFormed, beyond, signals_in, derivative_in, summed}
use Rattle.wiring.proofs.signals.Laws.{signals_fitting, fitting_weaken}
use Rattle.wiring.proofs.terms.Laws.{clean_for}
use Rattle.wiring.proofs.terms.Exact.{clean_exact}
use Rattle.wiring.proofs.sets.Laws.{right_fits}
use Rattle.wiring.proofs.sets.Exact.{right_iff}
use Rattle.wiring.proofs.sockets.Slopes.{slope_is}
use Rattle.wiring.proofs.derivative.Bounds.{derivative_fits, clean_exchange, sum_fits, total_fits}

module _ (panel : Panel) (terms set : List ℕ) (w : WellFormed panel terms set) where
  pub well_clean : CleanTerms terms
  well_clean = clean_for panel width terms w.ranged.high ((clean_exact panel (records terms) beyond).1 w.flawless)

  pub well_right : T (set_right panel set)
  well_right = (right_iff panel set).1 w.right

  pub signals_fit : Fitting set_exponent (signals_in panel set)
  signals_fit = signals_fitting set_exponent panel.n (set_of set) (omega arith) (right_fits panel set w.lengths.long well_right)

  -- on V the derivative is that of what has one
  pub well_slope : (z : Mono) → z ∈ signals_in panel set → derivative plain (system (records terms)) z ≡ derivative_in panel terms z
  well_slope = slope_is panel terms ((clean_exact panel (records terms) beyond).1 w.flawless) (set_of set) w.right.buildable.free

  module _ (z : Mono) (h : z ∈ signals_in panel set) where
    pub exponents_fit : (m : Mono) → m ∈ support plain (derivative_in panel terms z) → (length m ≡ width) × ((i : ℕ) → get_or m i 0 ≤ derived_exponent)
    exponents_fit m k =
        let own = signals_fit z h in
        let fits = derivative_fits terms well_clean set_exponent z own.0 own.1 m (rw (well_slope z h) k) in
        (fits.0, λ i. at_most_at derived_exponent m i fits.1)

    module _ (m : Mono) where
      pub total_fits_32 : nat_abs (coeff plain (derivative_in panel terms z) m) < 2147483648
      total_fits_32 =
          let own = fitting_weaken set_exponent set_exponent (signals_in panel set) (omega arith) signals_fit z h in
          rw (sym (well_slope z h)) (total_fits terms well_clean z m own.0 own.1)

      -- over the first t records; the sum is the total of the system that these records hold
      pub sum_fits_32 : (t : ℕ) → nat_abs (summed (take t (records terms)) z m) < 2147483648
      sum_fits_32 t = let own = fitting_weaken set_exponent set_exponent (signals_in panel set) (omega arith) signals_fit z h in sum_fits terms well_clean z m own.0 own.1 t

      pub sum_is : (t : ℕ) → summed (take t (records terms)) z m ≡ coeff plain (derivative plain (system (take t (records terms))) z) m
      sum_is t = clean_exchange terms well_clean z m t
