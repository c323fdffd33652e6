-- One set, two systems, two replies, computed by the definitions from the bytes: {x^2} is quadratic on x' = x^3 and not on x' = x^4, where its own
-- derivative has x^5; so it is told with an empty buffer. No one reply keeps the promise for all inputs. Assumes nothing.
use mathlib.Core.Path.{◌≡◌, refl, sym, ap, ◌∙◌}
use mathlib.Core.List.{List, [], ◌∷◌}
use Prim.Native.Nat.{ℕ, ◌-◌}
use native.Mathlib.Omega.{arith}
use lib.ListN.{replicate}
use Rattle.monomial.specs.Lists.{any, some, all, keep, place, gather, below, pairwise, pointwise, dictionary, insert_by, arrange_by}
use Rattle.monomial.specs.Monomial.{vars}
use Rattle.wiring.specs.Panel.{set_bytes}
use Rattle.monomial.specs.Degree.{degree}
use Rattle.wiring.specs.Kit.{degree_right}
use Rattle.wiring.specs.Sockets.{full_panel, halved, marked, count_right, panel_right, free, may_be}
use Rattle.wiring.specs.declared.panel.Panel.{Panel}
use Rattle.wiring.specs.Reply.{Numbers, five}
use Rattle.wiring.specs.Coefficient.{signed, is_zero}
use Rattle.wiring.specs.Poly.{coeff, times, support}
use Rattle.wiring.specs.Derivative.{parts_from, derivative}
use Rattle.wiring.specs.Quadratic.{factor, in_v2, unmet, nonsquares}
use Rattle.wiring.specs.Signals.{signals}
use Rattle.wiring.specs.Terms.{records, length_right, exponents_right, coefficient_right, term_right, fault_from, equation, system}
use Rattle.wiring.specs.Wires.{first_of, second_of, row as row_of, rows_from, wiring}
use Rattle.wiring.specs.Sets.{places, size_of, set_of, ascending, monomial_right, set_right}
use Rattle.wiring.specs.Answers.{first_unmet, judged, record_judged, verdict, listed, told, wired}

-- the one record of x' = x^e, and the record of {x^2}
abbrev pub x_to : ℕ → List ℕ
x_to e = 1 ∷ 0 ∷ e ∷ 0 ∷ 0 ∷ 0 ∷ 0 ∷ 0 ∷ 1 ∷ 0 ∷ 0 ∷ 0 ∷ []

abbrev pub x_squared : List ℕ
x_squared = 2 ∷ replicate (set_bytes - 1) 0

pub record TwoSystems : Type 0 where
  pub cubic : (wired (full_panel 1) (x_to 3) x_squared 0).said ≡ five 6 1 0 0 0
  pub quartic : (wired (full_panel 1) (x_to 4) x_squared 0).said ≡ five 9 1 0 0 2

pub two_systems : TwoSystems
unfolding wired told listed verdict record_judged judged first_unmet halved marked count_right degree_right panel_right free degree may_be records length_right exponents_right coefficient_right term_right fault_from equation
    system places size_of set_of ascending monomial_right set_right
    first_of second_of row_of rows_from wiring signals factor in_v2 unmet nonsquares parts_from derivative coeff times support signed is_zero vars any some all keep place gather below pairwise
    pointwise dictionary insert_by arrange_by
two_systems = record { cubic = refl; quartic = refl }

pub wire_not_constant : (x : Numbers) → ((panel : Panel) (terms set : List ℕ) (size : ℕ) → x ≡ (wired panel terms set size).said) → ⊥
wire_not_constant x h =
    let full : x ≡ five 6 1 0 0 0 = h (full_panel 1) (x_to 3) x_squared 0 ∙ two_systems.cubic in
    let not : x ≡ five 9 1 0 0 2 = h (full_panel 1) (x_to 4) x_squared 0 ∙ two_systems.quartic in
    let codes : ◌≡◌ {A = ℕ} 6 9 = ap (λ (y : Numbers). y.code) (sym full ∙ not) in
    omega arith
