-- With no marks and the full kit every test is document 01's: nothing that the definitions ask for is another. Assumes nothing.
use mathlib.Core.Path.{◌≡◌, ap, ◌∙◌, fun_ext}
use mathlib.Core.Bool.{Bool, not, ◌&&◌}
use mathlib.Core.List.{List}
use Prim.Native.Nat.{ℕ, ◌-◌}
use lib.Dec.{eqb, leb}
use lib.ListN.{length}
use Rattle.monomial.specs.Lists.{any}
use Rattle.monomial.specs.Monomial.{Mono, constants, width}
use Rattle.monomial.specs.Order.{same}
use Rattle.monomial.proofs.Tests.{is→T, and_true}
use Rattle.wiring.specs.Panel.{term_exponent, set_exponent}
use Rattle.wiring.specs.Sockets.{full_panel, count_right, panel_right, free}
use Rattle.wiring.specs.Poly.{Poly, plain}
use Rattle.wiring.specs.Derivative.{derivative}
use Rattle.wiring.specs.Terms.{Record, exponents_right, coefficient_right, term_right}
use Rattle.wiring.specs.Sets.{monomial_right}
use Rattle.wiring.specs.Claims.{slope, Unmarked}
use Rattle.wiring.proofs.kit.Full.{full_kit}
use Rattle.wiring.proofs.sockets.Laws.{halved_zero, unmarked, unmarked_free}
use Rattle.wiring.proofs.sockets.Slopes.{slope_free}

module _ (n : ℕ) where
  unmarked_settings : panel_right (full_panel n) ≡ count_right n
  unmarked_settings = (full_kit n 0).settings ∙ rw (halved_zero n) (and_true (count_right n))

  unmarked_term : (r : Record) → term_right (full_panel n) r
      ≡ leb 1 r.equation && leb r.equation n && eqb r.blank 0 && exponents_right term_exponent n r.monomial && coefficient_right r.coefficient
  unfolding term_right
  unmarked_term r =
      let known = leb 1 r.equation && leb r.equation n in
      rw (unmarked (r.equation - 1))
      (ap (λ (x : Bool). x && eqb r.blank 0 && exponents_right term_exponent n r.monomial && coefficient_right r.coefficient) (and_true known))

  unmarked_monomial : (m : Mono) → length m ≡ width → monomial_right (full_panel n) m ≡ not (any (same m) (constants width)) && exponents_right set_exponent n m
  unmarked_monomial m l = (full_kit n 0).sets m l ∙ rw (unmarked_free m) (and_true (not (any (same m) (constants width)) && exponents_right set_exponent n m))

  unmarked_slope : (fs : List (Poly Mono)) → slope 0 fs ≡ derivative plain fs
  unmarked_slope fs = fun_ext (λ z. slope_free 0 fs z (is→T (free 0 z) (unmarked_free z)))

  pub unmarked_all : Unmarked n
  unmarked_all = record { settings = unmarked_settings; terms = unmarked_term; sets = unmarked_monomial; slopes = unmarked_slope }
