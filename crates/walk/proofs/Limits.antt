-- Every set that a level opens, found or not, keeps the bounds of document 01, by any rules: exponents and total degrees of sets, exponents of
-- nonsquares, and totals of coefficients with the sums on the way to them. Assumes nothing.
use mathlib.Core.Path.{◌≡◌}
use mathlib.Core.Logic.{⊎_elim}
use mathlib.Core.List.{List}
use Prim.Native.Nat.{ℕ, suc, ◌*◌, ◌<◌, ◌≤◌}
use native.Mathlib.Omega.{arith}
use lib.IntN.{nat_abs}
use lib.ListN.{length, take}
use Rattle.monomial.specs.Monomial.{Mono, constants, width}
use Rattle.monomial.specs.Product.{AtMost}
use Rattle.monomial.specs.Degree.{degree}
use Rattle.monomial.specs.Claims.{◌∈◌}
use Rattle.monomial.proofs.Members.{take_in}
use Rattle.monomial.proofs.Variables.{constants_fit}
use Rattle.monomial.proofs.degree.Laws.{degree_most}
use Rattle.wiring.specs.Panel.{cards, set_exponent, derived_exponent, full_degree}
use Rattle.wiring.specs.Poly.{plain, coeff}
use Rattle.wiring.specs.Derivative.{derivative}
use Rattle.wiring.specs.Signals.{signals}
use Rattle.wiring.specs.Terms.{records, system, CleanTerms}
use Rattle.wiring.specs.Answers.{missing}
use Rattle.wiring.specs.Claims.{summed}
use Rattle.wiring.proofs.signals.Laws.{signals_cases}
use Rattle.wiring.proofs.derivative.Bounds.{sum_fits, total_fits}
use Rattle.walk.specs.Walk.{Rules, level}
use Rattle.walk.specs.Openings.{openings, Inherited}
use Rattle.walk.specs.Turns.{Walked}
use Rattle.walk.specs.Claims.{Orderly}
use Rattle.walk.proofs.Rules.{opens_fits}
use Rattle.walk.proofs.Openings.{opened_keep}
use Rattle.walk.proofs.children.Laws.{nonsquare_fits, child_walked, walked_fits}

module _ (r : Rules) (o : Orderly r) (begins : Walked r.start) (n : ℕ) (terms : List ℕ) (clean : CleanTerms terms) (k : ℕ) (low : k ≤ cards) where
  pub keeps_walked : Inherited r n (system (records terms)) k Walked
  keeps_walked s m p w h j f = child_walked terms clean n s w m h p j (omega (arith, opens_fits r n k s p f))

  -- a set that a step of level k opens
  module _ (s : List Mono) (h : s ∈ openings (level r n (system (records terms)) k)) where
    pub opened_walked : Walked s
    opened_walked = opened_keep r o n (system (records terms)) k Walked keeps_walked begins s h

    pub opened_set_fits : (m : Mono) → m ∈ s → AtMost set_exponent m
    opened_set_fits m i = walked_fits s opened_walked m i

    -- so no total degree passes the full kit's limit
    pub opened_degree : (m : Mono) → m ∈ s → degree m ≤ full_degree
    opened_degree m i =
        let most : degree m ≤ length m * set_exponent = degree_most set_exponent m (opened_set_fits m i) in
        omega (arith, opened_walked.recorded.wide m i)

    pub opened_nonsquare_fits : (m : Mono) → m ∈ missing n (system (records terms)) s → AtMost derived_exponent m
    opened_nonsquare_fits m i = (nonsquare_fits terms clean n s opened_walked m i).1

    signal_fits : (z : Mono) → z ∈ signals width n s → (length z ≡ width) × AtMost set_exponent z
    signal_fits z i =
        ⊎_elim
        (λ b. constants_fit set_exponent width (omega arith) z (take_in (suc n) (constants width) b))
        (λ j. (opened_walked.recorded.wide z j, opened_set_fits z j))
        (signals_cases n s i)

    -- the total of each monomial of a derivative, and the sum of the first t records on the way to it, in 32 bits
    pub opened_total_fits : (z m : Mono) → z ∈ signals width n s → nat_abs (coeff plain (derivative plain (system (records terms)) z) m) < 2147483648
    opened_total_fits z m i = let f = signal_fits z i in total_fits terms clean z m f.0 f.1

    pub opened_sum_fits : (z m : Mono) → z ∈ signals width n s → (t : ℕ) → nat_abs (summed (take t (records terms)) z m) < 2147483648
    opened_sum_fits z m i t = let f = signal_fits z i in sum_fits terms clean z m f.0 f.1 t
