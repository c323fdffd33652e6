-- How large exponents and totals of derivatives can be. No equation holds a monomial twice, so each equation adds at most one term to a
-- monomial: with six equations, exponents at most b and coefficients at most c, a total is at most 6 b c. Assumes nothing.
use mathlib.Core.Path.{◌≡◌, refl, sym, ap, ap₂, ◌∙◌, subst}
use mathlib.Core.Bool.{true, false}
use mathlib.Core.List.Memᴰ
use mathlib.Core.List.{List, [], ◌∷◌}
use Prim.Native.Nat.{ℕ, suc, ◌+◌, ◌*◌, ◌-◌, ◌/◌, ◌<◌, ◌≤◌}
use native.Mathlib.Nat.{mul-le-mul, mul-le-mul_left, mul-le-mul_right}
use native.Mathlib.Omega.{arith}
use lib.Dec.{eqb}
use borrow.Author.Tests.{eqb-true, eqb-false}
use lib.IntN.{ℤ, pos, nat_abs, ◌+ℤ◌, ◌*ℤ◌, +ℤ_idr}
use lib.ListN.{length, set, take, length-set}
use lib.Seq.{take_all}
use mir.Syntax.{w32}
use mir.Val.{SFits, to_z, of_z}
use mir.ValLaws.{to_z_pos, to_z-of_z}
use Rattle.monomial.specs.Lists.{keep, below}
use Rattle.monomial.specs.Monomial.{Mono, width}
use Rattle.monomial.specs.Order.{same}
use Rattle.monomial.specs.Product.{AtMost}
use Rattle.monomial.specs.Claims.{◌∈◌}
use Rattle.monomial.proofs.Tests.{Tested, passed, failed, test, is→T}
use Rattle.monomial.proofs.Members.{here, there, take_in}
use Rattle.monomial.proofs.Loops.{pointwise_length}
use Rattle.monomial.proofs.order.Laws.{mono_order}
use Rattle.monomial.proofs.product.Laws.{at_most_mul, at_most_set, at_most_at}
use Rattle.wiring.specs.Panel.{term_bytes, most_coefficient, set_exponent, term_exponent}
use Rattle.wiring.specs.Sockets.{full_panel}
use Rattle.wiring.specs.Poly.{Kind, Term, Poly, plain, coeff, times, monos, support}
use Rattle.wiring.specs.Derivative.{derivative, part, parts_from, power, image}
use Rattle.wiring.specs.Terms.{Record, record_at, records, equation, system, CleanTerms}
use Rattle.wiring.specs.Kinds.{Lawful}
use Rattle.wiring.specs.Claims.{summed, added_up, Unlike, Sized}
use Rattle.wiring.proofs.Ints.{size_fits, abs_sum, abs_product}
use Rattle.wiring.proofs.Poly.{coeff_append, coeff_absent, support_out, Scaled, times_out}
use Rattle.wiring.proofs.kinds.Plain.{plain_lawful}
use Rattle.wiring.proofs.terms.Laws.{alike_in, Rightful, clean_at, records_length, records_at, clean_in, clean_take, clean_unlike}
use Rattle.wiring.proofs.derivative.Rules.{Parted, absent, present, parted}
use Rattle.wiring.proofs.derivative.Records.{derived, equation_out, equation_own, equation_other, system_length, added_next, exchange, contribution, adds_flat, adds_hit, adds_miss}

-- ---- exponents
-- the image of a record with six exponents, at most d each
pub image_fits : (r : Record) (d b : ℕ) (z : Mono) → length r.monomial ≡ width → AtMost d r.monomial → length z ≡ width → AtMost b z
    → (length (image r z) ≡ width) × AtMost (b + d) (image r z)
image_fits r d b z l small lz a =
    let i = r.equation - 1 in
    let e = power r z - 1 in
    let h : power r z ≤ b = at_most_at b z i a in
    let k : length (set z i e) ≡ width = length-set z i e ∙ lz in
    (pointwise_length ◌+◌ (set z i e) r.monomial (k ∙ sym l) ∙ k, at_most_mul b d (set z i e) r.monomial (at_most_set b z i e (omega arith) a) small)

-- the monomials of a derivative have six exponents, at most 9 more than the monomial's own
pub derivative_fits : (bytes : List ℕ) → CleanTerms bytes → (b : ℕ) (z : Mono) → length z ≡ width → AtMost b z
    → (m : Mono) → m ∈ support plain (derivative plain (system (records bytes)) z) → (length m ≡ width) × AtMost (b + term_exponent) m
derivative_fits bytes c b z l a m h =
    let from = derived (records bytes) z m (support_out plain mono_order (derivative plain (system (records bytes)) z) m h).0 in
    let r = clean_in bytes c from.by from.listed in
    subst (λ (x : Mono). (length x ≡ width) × AtMost (b + term_exponent) x) from.is (image_fits from.by term_exponent b z r.long r.small l a)

-- ---- totals, for any kind of monomials
-- no monomial twice in a polynomial
abbrev pub Apart : {M : Type 0} → Poly M → Type 0
Apart [] = Unit {0}
Apart (t ∷ p) = (t.1 ∈ monos p → ⊥) × Apart p

-- terms in w variables, coefficients at most c, no monomial twice
pub record Distinct {M : Type 0} (k : Kind M) (w c : ℕ) (p : Poly M) : Type 0 where
  pub sized : (t : Term M) → t ∈ p → k.width t.1 ≡ w
  pub small : (t : Term M) → t ∈ p → nat_abs t.0 ≤ c
  pub apart : Apart p

module _ {M : Type 0} (k : Kind M) (l : Lawful k) (w c : ℕ) where
  distinct_tail : (t : Term M) (p : Poly M) → Distinct k w c (t ∷ p) → Distinct k w c p
  distinct_tail t p d = record {
    sized = λ u h. d.sized u (there h);
    small = λ u h. d.small u (there h);
    apart = d.apart.1;
  }

  -- where the first term falls on m, no later one does
  times_once : (e : ℤ) (z : M) → k.width z ≡ w → (t : Term M) (p : Poly M) → Distinct k w c (t ∷ p) → (m : M) → k.mul z t.1 ≡ m
      → coeff k (times k e z p) m ≡ pos 0
  times_once e z lz t p d m i = coeff_absent k l.order (times k e z p) m (λ h. clash (times_out k e z p m h))
    where
      clash : Scaled k z p m → ⊥
      clash s =
          let wide : k.width z ≡ k.width t.1 = lz ∙ sym (d.sized t here) in
          let other : k.width z ≡ k.width s.term.1 = lz ∙ sym (d.sized s.term (there s.listed)) in
          let equal : t.1 ≡ s.term.1 = l.mul_cancel z t.1 s.term.1 wide other (i ∙ sym s.is) in
          d.apart.0 (Memᴰ.cast equal (Memᴰ.map (λ (x : Term M). x.1) s.listed))

  times_bounded : (e : ℤ) (z : M) → k.width z ≡ w → (p : Poly M) → Distinct k w c p → (m : M) → nat_abs (coeff k (times k e z p) m) ≤ nat_abs e * c
  unfolding coeff times
  times_bounded e z lz [] d m = omega arith
  times_bounded e z lz (t ∷ p) d m = go (times_bounded e z lz p (distinct_tail t p d) m) (test (k.same (k.mul z t.1) m))
    where
      go : nat_abs (coeff k (times k e z p) m) ≤ nat_abs e * c → Tested (k.same (k.mul z t.1) m) → nat_abs (coeff k (times k e z (t ∷ p)) m) ≤ nat_abs e * c
      go ih (failed q) = rw q ih
      go ih (passed q) =
          let later = coeff k (times k e z p) m in
          let hit : k.mul z t.1 ≡ m = l.order.same_eq (k.mul z t.1) m (is→T (k.same (k.mul z t.1) m) q) in
          let none : nat_abs later ≡ 0 = ap nat_abs (times_once e z lz t p d m hit) in
          let sum : nat_abs (e *ℤ t.0 +ℤ later) ≤ nat_abs (e *ℤ t.0) + nat_abs later = abs_sum (e *ℤ t.0) later in
          let product : nat_abs (e *ℤ t.0) ≡ nat_abs e * nat_abs t.0 = abs_product e t.0 in
          let small : nat_abs e * nat_abs t.0 ≤ nat_abs e * c = mul-le-mul_left (nat_abs e) (d.small t here) in
          rw q (omega arith)

  part_bounded : (i : ℕ) (z : M) → k.width z ≡ w → (p : Poly M) → Distinct k w c p → (m : M) → nat_abs (coeff k (part k i z p) m) ≤ nat_abs (k.power z i) * c
  unfolding coeff
  part_bounded i z lz p d m = go (parted k i z p)
    where
      go : Parted k i z p → nat_abs (coeff k (part k i z p) m) ≤ nat_abs (k.power z i) * c
      go (absent e q) = rw q (omega arith)
      go (present n q) = rw q (times_bounded (k.power z i) (k.over z i) (l.width_over z i ∙ lz) p d m)

  -- exponents of z up to b, and each equation adds at most one term
  module _ (b : ℕ) (z : M) (lz : k.width z ≡ w) (a : (i : ℕ) → nat_abs (k.power z i) ≤ b) (m : M) where
    parts_bounded : (i : ℕ) (fs : List (Poly M)) → ((f : Poly M) → f ∈ fs → Distinct k w c f) → nat_abs (coeff k (parts_from k i z fs) m) ≤ length fs * (b * c)
    unfolding parts_from coeff
    parts_bounded i [] d = omega arith
    parts_bounded i (f ∷ fs) d =
        let own = part k i z f in
        let rest = parts_from k (suc i) z fs in
        let ih : nat_abs (coeff k rest m) ≤ length fs * (b * c) = parts_bounded (suc i) fs (λ g h. d g (there h)) in
        let one : nat_abs (coeff k own m) ≤ nat_abs (k.power z i) * c = part_bounded i z lz f (d f here) m in
        let most : nat_abs (k.power z i) * c ≤ b * c = mul-le-mul_right c (a i) in
        let sum : nat_abs (coeff k own m +ℤ coeff k rest m) ≤ nat_abs (coeff k own m) + nat_abs (coeff k rest m) = abs_sum (coeff k own m) (coeff k rest m) in
        rw (coeff_append k l.order own rest m) (omega arith)

    pub derivative_bounded : (fs : List (Poly M)) → ((f : Poly M) → f ∈ fs → Distinct k w c f) → nat_abs (coeff k (derivative k fs z) m) ≤ length fs * (b * c)
    unfolding derivative
    derivative_bounded fs d = parts_bounded 0 fs d

-- ---- records of which no two are alike give equations without repeats
equation_apart : (rs : List Record) (i : ℕ) → Unlike rs → Apart (equation rs i)
unfolding equation keep
equation_apart [] i u = tt
equation_apart (q ∷ rs) i u = go (test (eqb q.equation (suc i))) (equation_apart rs i u.1)
  where
    clash : q.equation ≡ suc i → (t : Term Mono) × (t ∈ equation rs i) × (t.1 ≡ q.monomial) → ⊥
    clash e t =
        let s = equation_out rs i t.0 t.1 in
        let numbers : s.by.equation ≡ q.equation = s.numbered ∙ sym e in
        let monomials : s.by.monomial ≡ q.monomial = ap (λ (x : Term Mono). x.1) s.is ∙ t.2 in
        u.0 s.by s.listed (alike_in s.by q numbers monomials)

    go : Tested (eqb q.equation (suc i)) → Apart (equation rs i) → Apart (equation (q ∷ rs) i)
    go (passed p) ih =
        let e : q.equation ≡ suc i = eqb-true q.equation (suc i) p in
        subst Apart (sym (equation_own q rs i e)) ((λ h. clash e (Memᴰ.of_map (λ (x : Term Mono). x.1) (equation rs i) h)), ih)
    go (failed p) ih = subst Apart (sym (equation_other q rs i (eqb-false q.equation (suc i) p))) ih

equation_distinct : (w c : ℕ) (rs : List Record) → Sized w c rs → (i : ℕ) → Distinct plain w c (equation rs i)
equation_distinct w c rs s i = record {
  sized = λ t h. let o = equation_out rs i t h in subst (λ (x : Term Mono). length x.1 ≡ w) o.is (s.long o.by o.listed);
  small = λ t h. let o = equation_out rs i t h in subst (λ (x : Term Mono). nat_abs x.0 ≤ c) o.is (s.limited o.by o.listed);
  apart = equation_apart rs i s.unlike;
}

pub system_distinct : (w c : ℕ) (rs : List Record) → Sized w c rs → (f : Poly Mono) → f ∈ system rs → Distinct plain w c f
unfolding system
system_distinct w c rs s f h =
    let e : (i : ℕ) × (i ∈ below width) × (equation rs i ≡ f) = Memᴰ.of_map (equation rs) (below width) h in
    subst (Distinct plain w c) e.2 (equation_distinct w c rs s e.0)

pub total_bounded : (w c b : ℕ) (rs : List Record) → Sized w c rs → (z m : Mono) → length z ≡ w → AtMost b z
    → nat_abs (coeff plain (derivative plain (system rs) z) m) ≤ width * (b * c)
total_bounded w c b rs s z m lz a =
    subst (λ (n : ℕ). nat_abs (coeff plain (derivative plain (system rs) z) m) ≤ n * (b * c)) (system_length rs)
    (derivative_bounded plain plain_lawful w c b z lz (λ i. at_most_at b z i a) m (system rs) (system_distinct w c rs s))

-- ---- clean records, and the sum over the first of them
module _ (bytes : List ℕ) (clean : CleanTerms bytes) where
  first_in : (t : ℕ) (r : Record) → r ∈ take t (records bytes) → Rightful r
  first_in t r h = clean_in bytes clean r (take_in t (records bytes) h)

  pub clean_sized : (t : ℕ) → Sized width most_coefficient (take t (records bytes))
  clean_sized t = record {
    long = λ r h. (first_in t r h).long;
    limited = λ r h. (first_in t r h).limited;
    unlike = clean_unlike (full_panel width) [] (take t (records bytes)) (clean_take (full_panel width) [] (records bytes) t clean);
  }

  pub clean_exchange : (z m : Mono) (t : ℕ) → summed (take t (records bytes)) z m ≡ coeff plain (derivative plain (system (take t (records bytes))) z) m
  clean_exchange z m t = exchange (take t (records bytes)) z m (λ r h. ((first_in t r h).low, (first_in t r h).high))

  pub sum_bounded : (b : ℕ) (z m : Mono) → length z ≡ width → AtMost b z → (t : ℕ) → nat_abs (summed (take t (records bytes)) z m) ≤ width * (b * most_coefficient)
  sum_bounded b z m lz a t = rw (clean_exchange z m t) (total_bounded width most_coefficient b (take t (records bytes)) (clean_sized t) z m lz a)

  -- with exponents of signals every sum on the way fits a signed 32-bit number
  pub sum_fits : (z m : Mono) → length z ≡ width → AtMost set_exponent z → (t : ℕ) → nat_abs (summed (take t (records bytes)) z m) < 2147483648
  sum_fits z m lz a t = let h = sum_bounded set_exponent z m lz a t in omega arith

  -- the sum over all of them is the total
  pub sum_ends : (z m : Mono) (t : ℕ) → length (records bytes) ≤ t → summed (take t (records bytes)) z m ≡ coeff plain (derivative plain (system (records bytes)) z) m
  sum_ends z m t h = clean_exchange z m t ∙ ap (λ (rs : List Record). coeff plain (derivative plain (system rs) z) m) (take_all t (records bytes) h)

  pub clean_total : (b : ℕ) (z m : Mono) → length z ≡ width → AtMost b z → nat_abs (coeff plain (derivative plain (system (records bytes)) z) m) ≤ width * (b * most_coefficient)
  clean_total b z m lz a = rw (← sum_ends z m (length (records bytes)) (omega arith)) (sum_bounded b z m lz a (length (records bytes)))

  pub total_fits : (z m : Mono) → length z ≡ width → AtMost set_exponent z → nat_abs (coeff plain (derivative plain (system (records bytes)) z) m) < 2147483648
  total_fits z m lz a = let h = clean_total set_exponent z m lz a in omega arith

  -- so a machine number that is the total holds it
  pub total_held : (z m : Mono) → length z ≡ width → AtMost set_exponent z → (x : ℤ) → x ≡ coeff plain (derivative plain (system (records bytes)) z) m
      → to_z w32 (of_z w32 x) ≡ coeff plain (derivative plain (system (records bytes)) z) m
  total_held z m lz a x e = to_z-of_z w32 x (size_fits w32 x (rw e (total_fits z m lz a))) ∙ e

-- ---- a loop that adds the records up in 32 bits, sum so far, and has come to record number t
pub record Adding (bytes : List ℕ) (z m : Mono) (sum : ℤ) (t : ℕ) : Type 0 where
  pub clean : CleanTerms bytes
  pub long : length z ≡ width
  pub small : AtMost set_exponent z
  pub so_far : sum ≡ summed (take t (records bytes)) z m

pub adding_start : (bytes : List ℕ) (z m : Mono) → CleanTerms bytes → length z ≡ width → AtMost set_exponent z → Adding bytes z m (pos 0) 0
unfolding added_up
adding_start bytes z m c l a = record { clean = c; long = l; small = a; so_far = refl }

pub adding_ends : {bytes : List ℕ} {z m : Mono} {sum : ℤ} {t : ℕ} → Adding bytes z m sum t → length bytes / term_bytes ≤ t
    → sum ≡ coeff plain (derivative plain (system (records bytes)) z) m
adding_ends {bytes} {z} {m} {sum} {t} a h = a.so_far ∙ sum_ends bytes a.clean z m t (rw (records_length bytes) h)

module _ {bytes : List ℕ} {z m : Mono} {sum : ℤ} {t : ℕ} (a : Adding bytes z m sum t) (h : t < length bytes / term_bytes) where
  -- the sum with record number t
  next_is : summed (take (t + 1) (records bytes)) z m ≡ summed (take t (records bytes)) z m +ℤ contribution (record_at bytes t) z m
  next_is =
      let r = record_at bytes t in
      added_next plain mono_order (λ x. x) (records bytes) t r z m (rw (records_length bytes) h)
      ∙ ap (λ (q : Record). summed (take t (records bytes)) z m +ℤ contribution q z m) (records_at bytes t r h)

  adding_none : contribution (record_at bytes t) z m ≡ pos 0 → Adding bytes z m sum (t + 1)
  adding_none e = record {
    clean = a.clean;
    long = a.long;
    small = a.small;
    so_far = a.so_far ∙ sym (next_is ∙ ap (λ (y : ℤ). summed (take t (records bytes)) z m +ℤ y) e ∙ +ℤ_idr (summed (take t (records bytes)) z m));
  }

  pub adding_flat : power (record_at bytes t) z ≡ 0 → Adding bytes z m sum (t + 1)
  adding_flat e = adding_none (adds_flat plain mono_order (λ x. x) (record_at bytes t) z m (ap pos e))

  pub adding_miss : (y : Mono) → y ≡ image (record_at bytes t) z → same y m ≡ false → Adding bytes z m sum (t + 1)
  adding_miss y y_is e = adding_none (adds_miss plain mono_order (λ x. x) (record_at bytes t) z m (rw (← y_is) e))

  -- the product and the sum as the machine takes them: k is the record's power, x its coefficient
  module _ (k : ℕ) (k_is : k ≡ power (record_at bytes t) z) where
    limited : k ≤ set_exponent
    limited = rw k_is (at_most_at set_exponent z ((record_at bytes t).equation - 1) a.small)

    pub power_fits : SFits w32 (pos k)
    power_fits = let l = limited in size_fits w32 (pos k) (omega arith)

  module _ (k : ℕ) (x : ℤ) (k_is : k ≡ power (record_at bytes t) z) (x_is : x ≡ (record_at bytes t).coefficient) where
    abbrev product : ℤ
    product = to_z w32 k *ℤ to_z w32 (of_z w32 x)

    million : nat_abs x ≤ most_coefficient
    million = rw x_is (clean_at bytes a.clean t h).limited

    plain_product : product ≡ pos k *ℤ x
    plain_product = let l = limited k k_is in let n = million in rw (to_z_pos w32 k (omega arith), to_z-of_z w32 x (size_fits w32 x (omega arith)))

    pub product_fits : SFits w32 product
    product_fits =
        let size : nat_abs (pos k *ℤ x) ≡ k * nat_abs x = abs_product (pos k) x in
        let most : k * nat_abs x ≤ set_exponent * most_coefficient = mul-le-mul (limited k k_is) million in
        rw plain_product (size_fits w32 (pos k *ℤ x) (omega arith))

    module _ (y : Mono) (y_is : y ≡ image (record_at bytes t) z) (hit : same y m ≡ true) where
      added : sum +ℤ to_z w32 (of_z w32 product) ≡ summed (take (t + 1) (records bytes)) z m
      added =
          let r = record_at bytes t in
          let own = adds_hit plain mono_order (λ x. x) r z m (rw (← y_is) hit) ∙ ap₂ (λ (i : ℕ) (y : ℤ). pos i *ℤ y) (sym k_is) (sym x_is) in
          ap₂ ◌+ℤ◌ a.so_far (to_z-of_z w32 product product_fits ∙ plain_product ∙ sym own) ∙ sym next_is

      pub sum_of_fits : SFits w32 (sum +ℤ to_z w32 (of_z w32 product))
      sum_of_fits = rw added (size_fits w32 (summed (take (t + 1) (records bytes)) z m) (sum_fits bytes a.clean z m a.long a.small (t + 1)))

      pub adding_hit : Adding bytes z m (to_z w32 (of_z w32 (sum +ℤ to_z w32 (of_z w32 product)))) (t + 1)
      adding_hit = record {
        clean = a.clean;
        long = a.long;
        small = a.small;
        so_far = to_z-of_z w32 (sum +ℤ to_z w32 (of_z w32 product)) sum_of_fits ∙ added;
      }
