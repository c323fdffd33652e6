-- The derivative by its rules: that of 1 is zero, that of a variable is its equation, and that of a product follows the product rule. These
-- three fix it. They hold for any lawful kind of monomials, any number of variables and any system. Assumes nothing.
use mathlib.Core.Path.{◌≡◌, refl, sym, ap, ap₂, ◌∙◌, subst}
use mathlib.Core.Bool.{Bool, true, false, cond}
use mathlib.Core.List.Memᴰ
use mathlib.Core.List.{List, [], ◌∷◌, ◌++◌, map-append, append-nil}
use Prim.Native.Nat.{ℕ, zero, suc, ◌+◌, ◌<◌}
use native.Mathlib.Omega.{arith}
use lib.IntN.{ℤ, pos, ◌+ℤ◌, ◌-ℤ◌, ◌*ℤ◌, +ℤ_idl, +ℤ_idr, +ℤ_comm, +ℤ-neg_ℤ_cancel, zero-*ℤ, *ℤ-zero, *ℤ_comm}
use lib.ListN.{get_or}
use Rattle.monomial.specs.Claims.{◌∈◌}
use Rattle.monomial.proofs.Tests.{Tested, passed, failed, test, is→T, is→n_t}
use Rattle.monomial.proofs.Members.{here, there}
use Rattle.wiring.specs.Coefficient.{is_zero}
use Rattle.wiring.specs.Poly.{Kind, Poly, Same, coeff, monos, times}
use Rattle.wiring.specs.Derivative.{part, parts_from, derivative}
use Rattle.wiring.specs.Kinds.{variable, Built, unit, single, product, inverse, Lawful, OfWidth, Derivation}
use Rattle.wiring.proofs.Ints.{mid4, distrib_l, distrib_r, one-*ℤ}
use Rattle.wiring.proofs.Poly.{zero_is, is-zero, coeff_append, weighed, weighed_same}

-- ---- the summand of one variable: its exponent is 0, or it is not
pub data Parted {M : Type 0} (k : Kind M) (i : ℕ) (z : M) (f : Poly M) : Type 0 where
  absent : k.power z i ≡ pos 0 → part k i z f ≡ [] → Parted k i z f
  present : (k.power z i ≡ pos 0 → ⊥) → part k i z f ≡ times k (k.power z i) (k.over z i) f → Parted k i z f

pub parted : {M : Type 0} (k : Kind M) (i : ℕ) (z : M) (f : Poly M) → Parted k i z f
parted k i z f = go (test (is_zero (k.power z i)))
  where
    go : Tested (is_zero (k.power z i)) → Parted k i z f
    go (passed e) = absent (zero_is (k.power z i) (is→T (is_zero (k.power z i)) e)) (rw e)
    go (failed e) = present (λ q. is→n_t (is_zero (k.power z i)) e (is-zero (k.power z i) q)) (rw e)

pub part_flat : {M : Type 0} (k : Kind M) (i : ℕ) (z : M) (f : Poly M) → k.power z i ≡ pos 0 → part k i z f ≡ []
part_flat k i z f e = go (parted k i z f)
  where
    go : Parted k i z f → part k i z f ≡ []
    go (absent q p) = p
    go (present n p) = absurd (n e)

pub part_raised : {M : Type 0} (k : Kind M) (i : ℕ) (z : M) (f : Poly M) → (k.power z i ≡ pos 0 → ⊥) → part k i z f ≡ times k (k.power z i) (k.over z i) f
part_raised k i z f n = go (parted k i z f)
  where
    go : Parted k i z f → part k i z f ≡ times k (k.power z i) (k.over z i) f
    go (absent q p) = absurd (n q)
    go (present m p) = p

pub sized_at : {M : Type 0} (k : Kind M) (w : ℕ) (fs : List (Poly M)) → OfWidth k w fs → (i : ℕ) (m : M) → m ∈ monos (get_or fs i []) → k.width m ≡ w
sized_at k w [] h i m n = absurd (Memᴰ.not-nil n)
sized_at k w (f ∷ fs) h zero m n = h f m here n
sized_at k w (f ∷ fs) h (suc i) m n = sized_at k w fs (λ g x q. h g x (there q)) i m n

module _ {M : Type 0} (k : Kind M) (l : Lawful k) where
  -- ---- the derivative of 1
  parts_one : (w i : ℕ) (fs : List (Poly M)) → parts_from k i (k.one w) fs ≡ []
  unfolding parts_from
  parts_one w i [] = refl
  parts_one w i (f ∷ fs) = ap₂ ◌++◌ (part_flat k i (k.one w) f (l.power_one w i)) (parts_one w (suc i) fs)

  pub one_rule : (w : ℕ) (fs : List (Poly M)) → derivative k fs (k.one w) ≡ []
  unfolding derivative
  one_rule w fs = parts_one w 0 fs

  -- ---- the derivative of a variable
  one_mul : (w : ℕ) (z : M) → k.width z ≡ w → k.mul (k.one w) z ≡ z
  one_mul w z e = l.mul_comm (k.one w) z ∙ ap (λ (n : ℕ). k.mul z (k.one n)) (sym e) ∙ l.mul_one z

  -- 1 times p
  times_one : (w : ℕ) (p : Poly M) → ((m : M) → m ∈ monos p → k.width m ≡ w) → times k (pos 1) (k.one w) p ≡ p
  unfolding times
  times_one w [] h = refl
  times_one w (t ∷ p) h =
      ap₂ ◌∷◌ (ap₂ (λ (c : ℤ) (m : M). (c, m)) (one-*ℤ t.0) (one_mul w t.1 (h t.1 here))) (times_one w p (λ m n. h m (there n)))

  module _ (w i : ℕ) (h : i < w) where
    parts_beyond : (j : ℕ) (fs : List (Poly M)) → i < j → parts_from k j (variable k w i) fs ≡ []
    unfolding parts_from
    parts_beyond j [] b = refl
    parts_beyond j (f ∷ fs) b =
        let n : j ≡ i → ⊥ = λ e. omega arith in
        ap₂ ◌++◌ (part_flat k j (variable k w i) f (l.power_other w i j h n)) (parts_beyond (suc j) fs (omega arith))

    -- the summand of the variable itself
    part_own : (f : Poly M) → ((m : M) → m ∈ monos f → k.width m ≡ w) → part k i (variable k w i) f ≡ f
    part_own f sized =
        let e : k.power (variable k w i) i ≡ pos 1 = l.power_own w i h in
        let n : k.power (variable k w i) i ≡ pos 0 → ⊥ = λ q. let o : pos 1 ≡ pos 0 = sym e ∙ q in let u : ◌≡◌ {A = ℕ} 1 0 = cc in let v : ⊥ = omega arith in absurd v in
        part_raised k i (variable k w i) f n ∙ ap₂ (λ (c : ℤ) (m : M). times k c m f) e (l.over_own w i h) ∙ times_one w f sized

    parts_var : (j d : ℕ) (fs : List (Poly M)) → i ≡ j + d → ((m : M) → m ∈ monos (get_or fs d []) → k.width m ≡ w)
        → parts_from k j (variable k w i) fs ≡ get_or fs d []
    unfolding parts_from
    parts_var j d [] e sized = refl
    parts_var j zero (f ∷ fs) e sized =
        let q : i ≡ j = omega arith in
        ap₂ ◌++◌ (ap (λ (n : ℕ). part k n (variable k w i) f) (sym q) ∙ part_own f sized) (parts_beyond (suc j) fs (omega arith)) ∙ append-nil f
    parts_var j (suc d) (f ∷ fs) e sized =
        let n : j ≡ i → ⊥ = λ q. omega arith in
        ap₂ ◌++◌ (part_flat k j (variable k w i) f (l.power_other w i j h n)) (parts_var (suc j) d fs (omega arith) sized)

  pub variable_rule : (w i : ℕ) (fs : List (Poly M)) → i < w → ((m : M) → m ∈ monos (get_or fs i []) → k.width m ≡ w)
      → derivative k fs (variable k w i) ≡ get_or fs i []
  unfolding derivative
  variable_rule w i fs h sized = parts_var w i h 0 i fs (omega arith) sized

  -- ---- the derivative of a product
  -- the coefficient of m in z times p
  abbrev times_at : M → Poly M → M → ℤ
  times_at z p m = coeff k (times k (pos 1) z p) m

  -- a number comes out of the coefficients of a product, and one product of another is one
  times_scale : (c : ℤ) (z : M) (p : Poly M) (m : M) → coeff k (times k c z p) m ≡ c *ℤ times_at z p m
  unfolding coeff times
  times_scale c z [] m = sym (*ℤ-zero c)
  times_scale c z (t ∷ p) m = both (k.same (k.mul z t.1) m) (coeff k (times k c z p) m) (times_at z p m) (times_scale c z p m)
    where
      both : (b : Bool) (x r : ℤ) → x ≡ c *ℤ r → cond b (c *ℤ t.0 +ℤ x) x ≡ c *ℤ cond b (pos 1 *ℤ t.0 +ℤ r) r
      both true x r e = ap₂ (λ (u v : ℤ). c *ℤ u +ℤ v) (sym (one-*ℤ t.0)) e ∙ sym (distrib_l c (pos 1 *ℤ t.0) r)
      both false x r e = e

  times_times : (z : M) (c : ℤ) (y : M) (p : Poly M) → times k (pos 1) z (times k c y p) ≡ times k c (k.mul z y) p
  unfolding times
  times_times z c y [] = refl
  times_times z c y (t ∷ p) = ap₂ ◌∷◌ (ap₂ (λ (a : ℤ) (m : M). (a, m)) (one-*ℤ (c *ℤ t.0)) (sym (l.mul_assoc z y t.1))) (times_times z c y p)

  -- the summand of one variable, times a monomial: the exponent comes out
  module _ (i : ℕ) (f : Poly M) (m : M) where
    part_at : (u : M) → coeff k (part k i u f) m ≡ k.power u i *ℤ times_at (k.over u i) f m
    unfolding coeff
    part_at u = go (parted k i u f)
      where
        go : Parted k i u f → coeff k (part k i u f) m ≡ k.power u i *ℤ times_at (k.over u i) f m
        go (absent e p) = ap (λ (q : Poly M). coeff k q m) p ∙ sym (ap (λ (c : ℤ). c *ℤ times_at (k.over u i) f m) e ∙ zero-*ℤ (times_at (k.over u i) f m))
        go (present n p) = ap (λ (q : Poly M). coeff k q m) p ∙ times_scale (k.power u i) (k.over u i) f m

    times_part : (z u : M) → times_at z (part k i u f) m ≡ k.power u i *ℤ times_at (k.mul z (k.over u i)) f m
    unfolding coeff times
    times_part z u = go (parted k i u f)
      where
        x : M
        x = k.mul z (k.over u i)

        go : Parted k i u f → times_at z (part k i u f) m ≡ k.power u i *ℤ times_at x f m
        go (absent e p) = ap (λ (q : Poly M). times_at z q m) p ∙ sym (ap (λ (c : ℤ). c *ℤ times_at x f m) e ∙ zero-*ℤ (times_at x f m))
        go (present n p) = ap (λ (q : Poly M). times_at z q m) p ∙ ap (λ (q : Poly M). coeff k q m) (times_times z (k.power u i) (k.over u i) f) ∙ times_scale (k.power u i) x f m

    -- both summands of the product rule are of one monomial, where they are anything
    summand : (z y : M) → k.power y i *ℤ times_at (k.mul z (k.over y i)) f m ≡ k.power y i *ℤ times_at (k.over (k.mul z y) i) f m
    summand z y = go (parted k i y f)
      where
        x : M
        x = k.mul z (k.over y i)

        go : Parted k i y f → k.power y i *ℤ times_at x f m ≡ k.power y i *ℤ times_at (k.over (k.mul z y) i) f m
        go (absent e p) = rw e (zero-*ℤ (times_at x f m) ∙ sym (zero-*ℤ (times_at (k.over (k.mul z y) i) f m)))
        go (present n p) = ap (λ (u : M). k.power y i *ℤ times_at u f m) (l.over_mul z y i n)

    part_rule : (z y : M) → k.width z ≡ k.width y → coeff k (part k i (k.mul z y) f) m ≡ times_at z (part k i y f) m +ℤ times_at y (part k i z f) m
    part_rule z y e =
        let a : ℤ = k.power z i in
        let b : ℤ = k.power y i in
        let x : ℤ = times_at (k.over (k.mul z y) i) f m in
        let whole : coeff k (part k i (k.mul z y) f) m ≡ (a +ℤ b) *ℤ x = part_at (k.mul z y) ∙ ap (λ (c : ℤ). c *ℤ x) (l.power_mul z y i e) in
        let left : times_at z (part k i y f) m ≡ b *ℤ x = times_part z y ∙ summand z y in
        let right : times_at y (part k i z f) m ≡ a *ℤ x = times_part y z ∙ summand y z ∙ ap (λ (u : M). a *ℤ times_at (k.over u i) f m) (l.mul_comm y z) in
        whole ∙ distrib_r a b x ∙ +ℤ_comm (a *ℤ x) (b *ℤ x) ∙ sym (ap₂ ◌+ℤ◌ left right)

  -- products of a sum
  times_sum : (z : M) (p q : Poly M) (m : M) → times_at z (p ++ q) m ≡ times_at z p m +ℤ times_at z q m
  unfolding times
  times_sum z p q m =
      ap (λ (r : Poly M). coeff k r m) (map-append (λ t. (pos 1 *ℤ t.0, k.mul z t.1)) p q)
      ∙ coeff_append k l.order (times k (pos 1) z p) (times k (pos 1) z q) m

  parts_rule : (i : ℕ) (fs : List (Poly M)) (z y m : M) → k.width z ≡ k.width y
      → coeff k (parts_from k i (k.mul z y) fs) m ≡ times_at z (parts_from k i y fs) m +ℤ times_at y (parts_from k i z fs) m
  unfolding parts_from times coeff
  parts_rule i [] z y m e = refl
  parts_rule i (f ∷ fs) z y m e =
      let u : Poly M = part k i y f in
      let v : Poly M = part k i z f in
      let p : Poly M = parts_from k (suc i) y fs in
      let q : Poly M = parts_from k (suc i) z fs in
      coeff_append k l.order (part k i (k.mul z y) f) (parts_from k (suc i) (k.mul z y) fs) m
      ∙ ap₂ ◌+ℤ◌ (part_rule i f m z y e) (parts_rule (suc i) fs z y m e)
      ∙ mid4 (times_at z u m) (times_at y v m) (times_at z p m) (times_at y q m)
      ∙ sym (ap₂ ◌+ℤ◌ (times_sum z u p m) (times_sum y v q m))

  pub product_rule : (fs : List (Poly M)) (z y : M) → k.width z ≡ k.width y
      → Same k (derivative k fs (k.mul z y)) (times k (pos 1) z (derivative k fs y) ++ times k (pos 1) y (derivative k fs z))
  unfolding derivative
  product_rule fs z y e m =
      parts_rule 0 fs z y m e ∙ sym (coeff_append k l.order (times k (pos 1) z (parts_from k 0 y fs)) (times k (pos 1) y (parts_from k 0 z fs)) m)

  pub derivative_rules : (w : ℕ) (fs : List (Poly M)) → OfWidth k w fs → Derivation k w fs (derivative k fs)
  derivative_rules w fs h = record {
    constant = λ m. ap (λ (p : Poly M). coeff k p m) (one_rule w fs);
    variable = λ i b m. ap (λ (p : Poly M). coeff k p m) (variable_rule w i fs b (sized_at k w fs h i));
    product = λ z y e f. product_rule fs z y (e ∙ sym f);
  }

  -- ---- the three rules fix a derivation
  -- equal polynomials have equal products, since a coefficient of the product is a sum over the terms
  times_weighed : (z m : M) (p : Poly M) → times_at z p m ≡ weighed k l.order (λ x. cond (k.same (k.mul z x) m) (pos 1) (pos 0)) p
  unfolding coeff times weighed
  times_weighed z m [] = refl
  times_weighed z m (t ∷ p) = both (k.same (k.mul z t.1) m) (times_at z p m) (times_weighed z m p)
    where
      both : (b : Bool) (x : ℤ) {r : ℤ} → x ≡ r → cond b (pos 1 *ℤ t.0 +ℤ x) x ≡ t.0 *ℤ cond b (pos 1) (pos 0) +ℤ r
      both true x {r} e = ap₂ ◌+ℤ◌ (*ℤ_comm (pos 1) t.0) e
      both false x {r} e = e ∙ sym (ap (λ (u : ℤ). u +ℤ r) (*ℤ-zero t.0) ∙ +ℤ_idl r)

  times_same : (z : M) (p q : Poly M) → Same k p q → (m : M) → times_at z p m ≡ times_at z q m
  times_same z p q e m =
      times_weighed z m p ∙ weighed_same k l.order (λ x. cond (k.same (k.mul z x) m) (pos 1) (pos 0)) p q e ∙ sym (times_weighed z m q)

  built_width : {w : ℕ} {z : M} → Built k w z → k.width z ≡ w
  built_width {w} (unit e) = ap k.width (sym e) ∙ l.width_one w
  built_width {w} (single i h e) = ap k.width (sym e) ∙ l.width_variable w i h
  built_width (product {x} {y} p q e) = ap k.width (sym e) ∙ l.width_mul x y (built_width p ∙ sym (built_width q)) ∙ built_width p
  built_width (inverse p h e) = h

  module _ {w : ℕ} {fs : List (Poly M)} {D : M → Poly M} (r : Derivation k w fs D) where
    product_at : (z y m : M) → k.width z ≡ w → k.width y ≡ w → coeff k (D (k.mul z y)) m ≡ times_at z (D y) m +ℤ times_at y (D z) m
    product_at z y m e f = r.product z y e f m ∙ coeff_append k l.order (times k (pos 1) z (D y)) (times k (pos 1) y (D z)) m

    -- 1 times a derivative is the derivative
    one_times : (y m : M) → k.width y ≡ w → times_at (k.one w) (D y) m ≡ coeff k (D y) m
    unfolding coeff times
    one_times y m e =
        let whole : coeff k (D y) m ≡ times_at (k.one w) (D y) m +ℤ times_at y (D (k.one w)) m =
        ap (λ (z : M). coeff k (D z) m) (sym (one_mul w y e)) ∙ product_at (k.one w) y m (l.width_one w) e in
        sym (whole ∙ ap (λ (c : ℤ). times_at (k.one w) (D y) m +ℤ c) (times_same y (D (k.one w)) [] r.constant m) ∙ +ℤ_idr (times_at (k.one w) (D y) m))

    -- and so is a product with the inverse, once with the monomial
    undone : (x y m : M) → k.width y ≡ w → k.mul x y ≡ k.one w → times_at y (times k (pos 1) x (D y)) m ≡ coeff k (D y) m
    undone x y m e q =
        ap (λ (p : Poly M). coeff k p m) (times_times y (pos 1) x (D y))
        ∙ ap (λ (z : M). times_at z (D y) m) (l.mul_comm y x ∙ q) ∙ one_times y m e

  module _ {w : ℕ} {fs : List (Poly M)} {D E : M → Poly M} (r : Derivation k w fs D) (q : Derivation k w fs E) where
    abbrev Alike : M → Type 0
    Alike z = Same k (D z) (E z)

    product_alike : (z y : M) → k.width z ≡ w → k.width y ≡ w → Alike z → Alike y → Alike (k.mul z y)
    product_alike z y e f s t m = product_at r z y m e f ∙ ap₂ ◌+ℤ◌ (times_same z (D y) (E y) t m) (times_same y (D z) (E z) s m) ∙ sym (product_at q z y m e f)

    -- both give the inverse the same, since the product, 1, has no derivative
    inverse_alike : (x y : M) → k.width x ≡ w → k.width y ≡ w → k.mul x y ≡ k.one w → Alike x → Alike y
    inverse_alike x y e f o s m = sym (undone r x y m f o) ∙ times_same y (times k (pos 1) x (D y)) (times k (pos 1) x (E y)) alike m ∙ undone q x y m f o
      where
        nothing : (n : M) → coeff k (D (k.mul x y)) n ≡ coeff k (E (k.mul x y)) n
        nothing = subst Alike (sym o) (λ n. r.constant n ∙ sym (q.constant n))

        alike : (n : M) → times_at x (D y) n ≡ times_at x (E y) n
        alike n =
            let c : ℤ = times_at y (D x) n in
            let sums : times_at x (D y) n +ℤ c ≡ times_at x (E y) n +ℤ c =
            sym (product_at r x y n e f) ∙ nothing n ∙ product_at q x y n e f ∙ ap (λ (d : ℤ). times_at x (E y) n +ℤ d) (sym (times_same y (D x) (E x) s n)) in
            sym (+ℤ-neg_ℤ_cancel (times_at x (D y) n) c) ∙ ap (λ (d : ℤ). d -ℤ c) sums ∙ +ℤ-neg_ℤ_cancel (times_at x (E y) n) c

    alike_built : {z : M} → Built k w z → Alike z
    alike_built (unit e) = subst Alike e (λ m. r.constant m ∙ sym (q.constant m))
    alike_built (single i h e) = subst Alike e (λ m. r.variable i h m ∙ sym (q.variable i h m))
    alike_built (product {x} {y} a b e) = subst Alike e (product_alike x y (built_width a) (built_width b) (alike_built a) (alike_built b))
    alike_built (inverse {x} {y} a h e) = inverse_alike x y (built_width a) h e (alike_built a)

    pub rules_fix : (z : M) → k.width z ≡ w → Same k (D z) (E z)
    rules_fix z h = alike_built (subst (λ (n : ℕ). Built k n z) h (l.built z))
