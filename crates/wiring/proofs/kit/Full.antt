-- With the full kit each test is that of a panel without a limit: nothing is asked of the total degree. Assumes nothing.
use mathlib.Core.Path.{◌≡◌, refl, fun_ext}
use mathlib.Core.Bool.{Bool, not, ◌&&◌}
use mathlib.Core.List.{List}
use Prim.Native.Nat.{ℕ}
use native.Mathlib.Omega.{arith}
use lib.Dec.{T, eqb}
use lib.ListN.{length}
use Rattle.monomial.specs.Lists.{any}
use Rattle.monomial.specs.Monomial.{Mono, constants, width}
use Rattle.monomial.specs.Order.{same}
use Rattle.monomial.proofs.Tests.{Tested, passed, failed, test, is→T, and_r, and_true}
use Rattle.monomial.proofs.product.Laws.{at_most_all}
use Rattle.wiring.specs.Panel.{set_exponent, full_degree}
use Rattle.wiring.specs.Kit.{degree_right}
use Rattle.wiring.specs.Sockets.{panel_of, halved, count_right, panel_right, free, may_be, can_build}
use Rattle.wiring.specs.declared.panel.Panel.{Panel}
use Rattle.wiring.specs.Terms.{Record, exponents_right, term_right}
use Rattle.wiring.specs.Sets.{monomial_right}
use Rattle.wiring.specs.Claims.{Free, Buildable, FullKit}
use Rattle.wiring.proofs.terms.Laws.{exponents_everywhere}
use Rattle.wiring.proofs.kit.Laws.{full_may}

module _ (n marks : ℕ) where
  abbrev full : Panel
  full = panel_of n marks full_degree

  full_settings : panel_right full ≡ count_right n && eqb (halved marks n) 0
  unfolding panel_right degree_right
  full_settings = and_true (count_right n && eqb (halved marks n) 0)

  full_term : (limit : ℕ) (r : Record) → term_right (panel_of n marks limit) r ≡ term_right full r
  unfolding term_right
  full_term limit r = refl

  full_monomial : (m : Mono) → length m ≡ width → monomial_right full m ≡ not (any (same m) (constants width)) && exponents_right set_exponent n m && free marks m
  unfolding monomial_right
  full_monomial m l = go (test (new && fits))
    where
      new : Bool
      new = not (any (same m) (constants width))

      fits : Bool
      fits = exponents_right set_exponent n m

      go : Tested (new && fits) → new && fits && may_be full m ≡ new && fits && free marks m
      go (failed e) = rw e
      go (passed e) =
          let right : T fits = and_r new fits (is→T (new && fits) e) in
          let small = at_most_all set_exponent m (λ i. (exponents_everywhere set_exponent n m right i).small) in
          rw (full_may full (omega arith) m (omega arith) small)

  -- it can build whatever has no signal
  pub full_can : can_build full ≡ free marks
  unfolding can_build
  full_can = fun_ext (λ m. and_true (free marks m))

  -- so monomials of any powers
  pub any_powers : (s : List Mono) → Free marks s → Buildable full s
  any_powers s f = record { free = f; low = λ j m h. let z : ⊥ = omega arith in absurd z }

  pub full_kit : FullKit n marks
  full_kit = record { settings = full_settings; terms = full_term; sets = full_monomial }
