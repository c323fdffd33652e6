-- The limit on the total degree: which ones there are, that the full kit's bars nothing that a set record can hold, and that what the kit can build is
-- what a new monomial may be. Assumes nothing.
use mathlib.Core.Path.{◌≡◌, sym, ◌∙◌}
use mathlib.Core.Logic.{◌⊎◌, inl, inr, ⊎_elim}
use mathlib.Core.Bool.{Bool, true, ◌&&◌, ◌||◌}
use mathlib.Core.List.{List}
use Prim.Native.Nat.{ℕ, ◌*◌, ◌<◌, ◌≤◌}
use native.Mathlib.Omega.{arith}
use borrow.Author.Tests.{le-leb, lt-leb, eq-eqb, leb-true, leb-false}
use lib.Dec.{T, eqb, leb, leb→le, eqb→eq}
use lib.ListN.{length}
use Rattle.monomial.specs.Monomial.{Mono, width}
use Rattle.monomial.specs.Product.{AtMost}
use Rattle.monomial.specs.Degree.{degree}
use Rattle.monomial.specs.Claims.{◌∈◌, ◌⊆◌}
use Rattle.monomial.proofs.Tests.{Tested, passed, failed, test, T→is, is→T, and_l, and_r, and_i, and_true, or_l, or_r, or_e}
use Rattle.monomial.proofs.degree.Laws.{degree_most}
use Rattle.wiring.specs.Panel.{junior_least, junior_most, full_degree, set_exponent}
use Rattle.wiring.specs.Kit.{degree_right}
use Rattle.wiring.specs.Sockets.{free, may_be, can_build}
use Rattle.wiring.specs.declared.panel.Panel.{Panel}
use Rattle.wiring.specs.Claims.{Buildable}
use Rattle.wiring.proofs.sockets.Laws.{free_in, free_out, may_free, may_low}

-- ---- the limits that there are
pub kit_in : (d : ℕ) → (d ≡ full_degree) ⊎ ((junior_least ≤ d) × (d ≤ junior_most)) → degree_right d ≡ true
unfolding degree_right
kit_in d k =
    let junior = leb junior_least d && leb d junior_most in
    T→is (eqb d full_degree || junior)
    (⊎_elim (λ e. or_l (eqb d full_degree) junior (is→T _ (eq-eqb d full_degree e)))
    (λ h. or_r (eqb d full_degree) junior (and_i (leb junior_least d) (leb d junior_most) (is→T _ (le-leb junior_least d h.0)) (is→T _ (le-leb d junior_most h.1)))) k)

pub kit_out : (d : ℕ) → T (degree_right d) → (d ≡ full_degree) ⊎ ((junior_least ≤ d) × (d ≤ junior_most))
unfolding degree_right
kit_out d t =
    ⊎_elim (λ e. inl (eqb→eq d full_degree e))
    (λ h. inr (leb→le junior_least d (and_l (leb junior_least d) (leb d junior_most) h), leb→le d junior_most (and_r (leb junior_least d) (leb d junior_most) h)))
    (or_e (eqb d full_degree) (leb junior_least d && leb d junior_most) t)

-- ---- the full kit's is as much as six exponents of a set come to
module _ (panel : Panel) (full : full_degree ≤ panel.degree) (m : Mono) (narrow : length m ≤ width) (small : AtMost set_exponent m) where
  pub full_low : degree m ≤ panel.degree
  full_low = let d : degree m ≤ length m * set_exponent = degree_most set_exponent m small in omega arith

  pub full_may : may_be panel m ≡ free panel.marks m
  unfolding may_be
  full_may = rw (le-leb (degree m) panel.degree full_low) (and_true (free panel.marks m))

-- so both tests say the same of what a set record can hold, whatever the kit
pub may_can : (panel : Panel) (m : Mono) → length m ≤ width → AtMost set_exponent m → may_be panel m ≡ can_build panel m
unfolding can_build may_be
may_can panel m narrow small = go (test (leb full_degree panel.degree))
  where
    go : Tested (leb full_degree panel.degree)
        → free panel.marks m && leb (degree m) panel.degree ≡ free panel.marks m && (leb full_degree panel.degree || leb (degree m) panel.degree)
    go (failed e) = rw e
    go (passed e) = rw e (full_may panel (leb-true full_degree panel.degree e) m narrow small ∙ sym (and_true (free panel.marks m)))

-- ---- what the kit can build
-- as the code asks for it
module _ (panel : Panel) (m : Mono) where
  abbrev reaches : Bool
  reaches = leb full_degree panel.degree || leb (degree m) panel.degree

  can_low : panel.degree < full_degree → T reaches → degree m ≤ panel.degree
  can_low j t = leb→le (degree m) panel.degree (rw (lt-leb full_degree panel.degree j) at t)

  low_can : (panel.degree < full_degree → degree m ≤ panel.degree) → T reaches
  low_can low = go (test (leb full_degree panel.degree))
    where
      go : Tested (leb full_degree panel.degree) → T reaches
      go (passed e) = rw e tt
      go (failed e) = rw (e, le-leb (degree m) panel.degree (low (leb-false full_degree panel.degree e))) tt

module _ (panel : Panel) (s : List Mono) where
  pub can_buildable : ((m : Mono) → m ∈ s → T (can_build panel m)) → Buildable panel s
  unfolding can_build
  can_buildable f = record {
    free = λ m h. free_out panel.marks m (and_l (free panel.marks m) (reaches panel m) (f m h));
    low = λ j m h. can_low panel m j (and_r (free panel.marks m) (reaches panel m) (f m h));
  }

  pub buildable_can : Buildable panel s → (m : Mono) → m ∈ s → T (can_build panel m)
  unfolding can_build
  buildable_can b m h =
      and_i (free panel.marks m) (reaches panel m) (free_in panel.marks m (b.free m h)) (low_can panel m (λ j. b.low j m h))

  pub may_buildable : ((m : Mono) → m ∈ s → T (may_be panel m)) → Buildable panel s
  may_buildable f = record { free = λ m h. may_free panel m (f m h); low = λ j m h. may_low panel m (f m h) }

  pub buildable_part : (t : List Mono) → t ⊆ s → Buildable panel s → Buildable panel t
  buildable_part t part b = record { free = λ m h. b.free m (part m h); low = λ j m h. b.low j m (part m h) }

  pub buildable_may : Buildable panel s → (m : Mono) → m ∈ s → length m ≤ width → AtMost set_exponent m → T (may_be panel m)
  buildable_may b m h narrow small = rw (may_can panel m narrow small) (buildable_can b m h)
