-- What a loop over the term records meets of a derivative's monomials: those that pass a test, each through a record, with a coefficient or
-- whatever it is. The test "not in V2" gives the nonsquares, the test "behind the last one" the next monomial of a row. Assumes nothing.
use mathlib.Core.Path.{◌≡◌, refl, sym, ap, ◌∙◌, subst}
use mathlib.Core.Bool.{Bool, true, false, not, cond, ◌&&◌}
use mathlib.Core.List.Memᴰ
use mathlib.Core.List.{List, [], ◌∷◌, map}
use Prim.Native.Nat.{ℕ, ◌+◌, ◌/◌, ◌<◌, ◌≤◌}
use native.Mathlib.Omega.{arith}
use borrow.Author.Tests.{le-leb, lt-leb}
use lib.Dec.{T, leb, T_not, not_T, le→leb}
use lib.IntN.{pos}
use lib.ListN.{length, get_or}
use Rattle.monomial.specs.Lists.{any, some, keep, gather}
use Rattle.monomial.specs.Monomial.{Mono}
use Rattle.monomial.specs.Order.{before}
use Rattle.monomial.specs.Claims.{◌∈◌, ◌⊆◌, Ascending}
use Rattle.monomial.proofs.Tests.{and_l, and_r, and_i, T→is, n_t→is, is→T, is→n_t, Tested, passed, failed, test}
use Rattle.monomial.proofs.Members.{any_in, any_out, Passing, some_in, some_out, keep_in, keep_out}
use Rattle.monomial.proofs.Loops.{OfMembers, Collecting, collecting_next, collecting_end}
use Rattle.monomial.proofs.order.Laws.{mono_order}
use Rattle.wiring.specs.Panel.{term_bytes}
use Rattle.wiring.specs.Coefficient.{is_zero}
use Rattle.wiring.specs.Poly.{Poly, plain, coeff, support}
use Rattle.wiring.specs.Derivative.{derivative, power, image, gives, offers}
use Rattle.wiring.specs.Terms.{Record, record_at, records, system}
use Rattle.std.specs.Prelude.{Option, Some, None}
use Rattle.monomial.specs.declared.Monomial.{Monomial}
use Rattle.wiring.specs.Choice.{beyond, Heads, Best, Offered}
use Rattle.wiring.specs.Wires.{unmet_beyond}
use Rattle.wiring.proofs.Poly.{support_in, support_out, zero_is}
use Rattle.wiring.proofs.derivative.Records.{Derived, derived}
use Rattle.wiring.proofs.choice.Laws.{heads}
use Rattle.wiring.specs.Quadratic.{in_v2, unmet}
use Rattle.wiring.proofs.terms.Laws.{records_at}

-- ---- a record's turn, by the tests of the code: the power x, the monomial m, the test's word, whether the total is zero
module _ (f : Mono → Bool) (z : Mono) (r : Record) where
  pub given_low : (x : ℕ) → x ≡ power r z → x < 1 → Offered (gives f z r) (image r z) None
  unfolding gives
  given_low x ex h = record { told = sym (rw (lt-leb 1 (power r z) (omega arith))); is = tt }

  module _ (x : ℕ) (m : Monomial) (ex : x ≡ power r z) (h : 1 ≤ x) (em : m.e ≡ image r z) where
    gives_as : (b : Bool) → f m.e ≡ b → gives f z r ≡ b
    unfolding gives
    gives_as b p = rw (le-leb 1 (power r z) (omega arith), ← em, p)

    pub given_fails : f m.e ≡ false → Offered (gives f z r) (image r z) None
    given_fails p = record { told = sym (gives_as false p); is = tt }

    pub given_here : f m.e ≡ true → Offered (gives f z r) (image r z) (Some m)
    given_here p = record { told = sym (gives_as true p); is = em }

-- and with a coefficient
module _ (f : Mono → Bool) (fs : List (Poly Mono)) (z : Mono) (r : Record) where
  pub offered_low : (x : ℕ) → x ≡ power r z → x < 1 → Offered (offers f fs z r) (image r z) None
  unfolding offers gives
  offered_low x ex h = record { told = sym (rw (lt-leb 1 (power r z) (omega arith))); is = tt }

  module _ (x : ℕ) (m : Monomial) (ex : x ≡ power r z) (h : 1 ≤ x) (em : m.e ≡ image r z) where
    pub offered_fails : f m.e ≡ false → Offered (offers f fs z r) (image r z) None
    unfolding offers
    offered_fails p = record { told = sym (rw (gives_as f z r x m ex h em false p)); is = tt }

    pub offered_zero : f m.e ≡ true → is_zero (coeff plain (derivative plain fs z) m.e) ≡ true → Offered (offers f fs z r) (image r z) None
    unfolding offers
    offered_zero p t = record { told = sym (rw (gives_as f z r x m ex h em true p, ← em, t)); is = tt }

    pub offered_here : f m.e ≡ true → is_zero (coeff plain (derivative plain fs z) m.e) ≡ false → Offered (offers f fs z r) (image r z) (Some m)
    unfolding offers
    offered_here p t = record { told = sym (rw (gives_as f z r x m ex h em true p, ← em, t)); is = em }

-- a record that gives a monomial behind the last one: it offers exactly where that has a coefficient and no pair
module _ (v : List Mono) (last : Option Monomial) (fs : List (Poly Mono)) (z : Mono) (r : Record) where
  offered_beyond : T (offers (unmet_beyond v last) fs z r) → T (gives (beyond last) z r) × (T (in_v2 plain v (image r z)) → ⊥)
  unfolding offers gives
  offered_beyond t =
      let raised = leb 1 (power r z) in
      let ahead = beyond last (image r z) in
      let out = not (in_v2 plain v (image r z)) in
      let given = and_l (raised && (ahead && out)) (not (is_zero (coeff plain (derivative plain fs z) (image r z)))) t in
      let both = and_r raised (ahead && out) given in
      (and_i raised ahead (and_l raised (ahead && out) given) (and_l ahead out both), T_not (in_v2 plain v (image r z)) (and_r ahead out both))

  pub lacks_none : gives (beyond last) z r ≡ false → offers (unmet_beyond v last) fs z r ≡ false
  lacks_none e = n_t→is (offers (unmet_beyond v last) fs z r) (λ t. is→n_t (gives (beyond last) z r) e (offered_beyond t).0)

  module _ (m : Mono) (em : m ≡ image r z) where
    pub lacks_met : in_v2 plain v m ≡ true → offers (unmet_beyond v last) fs z r ≡ false
    lacks_met e =
        n_t→is (offers (unmet_beyond v last) fs z r) (λ t. (offered_beyond t).1 (is→T (in_v2 plain v (image r z)) (ap (in_v2 plain v) (sym em) ∙ e)))

    pub lacks_unmet : gives (beyond last) z r ≡ true → in_v2 plain v m ≡ false → not (is_zero (coeff plain (derivative plain fs z) m)) ≡ offers (unmet_beyond v last) fs z r
    unfolding offers gives
    lacks_unmet e n =
        let raised = leb 1 (power r z) in
        let ahead = beyond last (image r z) in
        let both = is→T (raised && ahead) e in
        rw (T→is raised (and_l raised ahead both), T→is ahead (and_r raised ahead both), ap (in_v2 plain v) (sym em) ∙ n, ← em)

module _ (f : Mono → Bool) (rs : List Record) (z : Mono) where
  -- the monomials of the derivative that pass
  abbrev pub passing : List Mono
  passing = keep f (support plain (derivative plain (system rs) z))

  abbrev total : Mono → Bool
  total m = is_zero (coeff plain (derivative plain (system rs) z) m)

  pub offers_in : (r : Record) → 0 < power r z → T (f (image r z)) → (T (total (image r z)) → ⊥) → T (offers f (system rs) z r)
  unfolding offers gives
  offers_in r h t n =
      and_i (leb 1 (power r z) && f (image r z)) (not (total (image r z)))
      (and_i (leb 1 (power r z)) (f (image r z)) (le→leb 1 (power r z) h) t) (not_T (total (image r z)) n)

  -- a record that offers gives one of them
  pub offered_in : (r : Record) → T (offers f (system rs) z r) → image r z ∈ passing
  unfolding offers gives is_zero
  offered_in r t =
      let m = image r z in
      let front : T (leb 1 (power r z) && f m) = and_l (leb 1 (power r z) && f m) (not (total m)) t in
      let not_zero : T (not (total m)) = and_r (leb 1 (power r z) && f m) (not (total m)) t in
      let some_total : coeff plain (derivative plain (system rs) z) m ≡ pos 0 → ⊥ = λ e. T_not (total m) not_zero (subst (λ c. T (is_zero c)) (sym e) tt) in
      keep_in f (support plain (derivative plain (system rs) z)) (support_in plain mono_order (derivative plain (system rs) z) m some_total) (and_r (leb 1 (power r z)) (f m) front)

  -- and each of them is given by one
  pub record Offering (m : Mono) : Type 0 where
    pub by : Record
    pub listed : by ∈ rs
    pub offered : T (offers f (system rs) z by)
    pub is : image by z ≡ m

  pub offered_out : (m : Mono) → m ∈ passing → Offering m
  offered_out m h =
      let k = keep_out f (support plain (derivative plain (system rs) z)) h in
      let s = support_out plain mono_order (derivative plain (system rs) z) m k.0 in
      let d : Derived rs z m = derived rs z m s.0 in
      let passes : T (f (image d.by z)) = subst (λ (x : Mono). T (f x)) (sym d.is) k.1 in
      let some_total : T (total (image d.by z)) → ⊥ = λ t. s.1 (zero_is (coeff plain (derivative plain (system rs) z) m) (subst (λ (x : Mono). T (total x)) d.is t)) in
      record { by = d.by; listed = d.listed; offered = offers_in d.by d.raised passes some_total; is = d.is }

  -- some record offers exactly when some monomial passes
  pub offers_some : any (offers f (system rs) z) rs ≡ some passing
  offers_some = go (test (any (offers f (system rs) z) rs))
    where
      go : Tested (any (offers f (system rs) z) rs) → any (offers f (system rs) z) rs ≡ some passing
      go (passed e) =
          let p : Passing (offers f (system rs) z) rs = any_out (offers f (system rs) z) rs (is→T (any (offers f (system rs) z) rs) e) in
          e ∙ sym (T→is (some passing) (some_in (offered_in p.entry p.passes)))
      go (failed e) = e ∙ sym (n_t→is (some passing) (λ t.
          let x = some_out passing t in
          let o : Offering x.0 = offered_out x.0 x.1 in
          is→n_t (any (offers f (system rs) z) rs) e (any_in (offers f (system rs) z) o.listed o.offered)))

  -- so what the records offer are the monomials that pass
  abbrev pub offering : Record → Bool
  offering r = offers f (system rs) z r

  pub offered_sub : map (λ r. image r z) (keep offering rs) ⊆ passing
  offered_sub m h =
      let q : (r : Record) × (r ∈ keep offering rs) × (image r z ≡ m) = Memᴰ.of_map (λ r. image r z) (keep offering rs) h in
      Memᴰ.cast (sym q.2) (offered_in q.0 (keep_out offering rs q.1).1)

  pub passing_sub : passing ⊆ map (λ r. image r z) (keep offering rs)
  passing_sub m h =
      let w : Offering m = offered_out m h in
      Memᴰ.cast (sym w.is) (Memᴰ.map (λ r. image r z) (keep_in offering rs w.listed w.offered))

-- ---- a loop over the records that meets the monomials of those that pass a test
module _ (g : Record → Bool) (z : Mono) where
  abbrev pub imaged : List Record → List Mono
  imaged l = map (λ r. image r z) (keep g l)

  -- what a record gives
  abbrev pub met : Record → List Mono
  met r = cond (g r) (image r z ∷ []) []

  pub met_all : (l : List Record) → gather met l ≡ imaged l
  unfolding gather keep
  met_all [] = refl
  met_all (r ∷ l) = go (test (g r)) (met_all l)
    where
      go : Tested (g r) → gather met l ≡ imaged l → gather met (r ∷ l) ≡ imaged (r ∷ l)
      go (passed e) ih = rw e (ap (◌∷◌ (image r z)) ih)
      go (failed e) ih = rw e ih

  module _ (rs : List Record) {t : ℕ} (d : Record) (h : t < length rs) {P : List Mono → Type 0} (c : Collecting met rs P t) where
    -- the next record gives nothing
    pub meets_none : OfMembers P → g (get_or rs t d) ≡ false → Collecting met rs P (t + 1)
    meets_none o e = collecting_next met rs d h c o (λ m p. rw e p)

    -- or one monomial
    pub meets_one : {Q : List Mono → Type 0} → OfMembers Q → g (get_or rs t d) ≡ true → ((m : List Mono) → P m → Q (image (get_or rs t d) z ∷ m)) → Collecting met rs Q (t + 1)
    meets_one o e more = collecting_next met rs d h c o (λ m p. rw e (more m p))

  -- the least of them all is the first of an ascending list with the same members
  pub meets_heads : (rs : List Record) (t : ℕ) (best : Option Monomial) → Collecting met rs (λ l. Best before l best) t → length rs ≤ t
      → (all : List Mono) → Ascending before all → imaged rs ⊆ all → all ⊆ imaged rs → Heads all best
  meets_heads rs t best c h all asc inside outside =
      heads all (imaged rs) best asc inside outside (subst (λ (l : List Mono). Best before l best) (met_all rs) (collecting_end met rs c h))

-- ---- the records of the bytes, by number
pub at_record : {A : Type 0} (f : Record → A) (bytes : List ℕ) (t : ℕ) → t < length bytes / term_bytes → f (get_or (records bytes) t (record_at bytes t)) ≡ f (record_at bytes t)
at_record f bytes t h = ap f (records_at bytes t (record_at bytes t) h)

-- ---- with "not in V2" for its test, a loop over the records meets the nonsquares
abbrev pub outside : List Mono → Mono → Bool
outside v m = not (in_v2 plain v m)

pub passing_unmet : (v : List Mono) (rs : List Record) (z : Mono) → passing (outside v) rs z ≡ unmet plain v (derivative plain (system rs) z)
unfolding unmet
passing_unmet v rs z = refl

pub found_unmet : (v : List Mono) (rs : List Record) (z : Mono) → any (offers (outside v) (system rs) z) rs ≡ some (unmet plain v (derivative plain (system rs) z))
found_unmet v rs z = offers_some (outside v) rs z ∙ ap some (passing_unmet v rs z)
