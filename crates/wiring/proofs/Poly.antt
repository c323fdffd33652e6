-- Coefficients of polynomials that are lists of terms, over any kind of monomials. Assumes nothing.
use mathlib.Core.Path.{◌≡◌, refl, sym, ap, ap₂, ◌∙◌, subst}
use mathlib.Core.Logic.{◌⊎◌, inl, inr, ⊎_elim}
use mathlib.Core.Bool.{Bool, true, false, not, cond}
use mathlib.Core.List.Memᴰ
use mathlib.Core.List.{List, [], ◌∷◌, ◌++◌, map}
use Prim.Native.Nat.{zero, suc}
use lib.Dec.{T, T_not, not_T}
use lib.IntN.{ℤ, pos, negsuc, ◌+ℤ◌, ◌*ℤ◌, zero-*ℤ, +ℤ_idl, +ℤ_idr, +ℤ_assoc}
use Rattle.monomial.specs.Lists.{any, keep, arrange_by}
use Rattle.monomial.specs.Claims.{◌∈◌, Ascending, Order}
use Rattle.monomial.proofs.Tests.{Tested, passed, failed, test, is→T, is→n_t, n_t→is, T→is}
use Rattle.monomial.proofs.Members.{here, there, keep_in, keep_out}
use Rattle.monomial.proofs.order.Ascending.{head_first, tail_asc, arrange_asc, arrange_in, arrange_out, among_in, among_out}
use Rattle.wiring.specs.Coefficient.{is_zero}
use Rattle.wiring.specs.Poly.{Kind, Term, Poly, Same, coeff, monos, times, support}
use Rattle.wiring.proofs.Ints.{distrib_r, +ℤ_left_comm}

pub zero_is : (z : ℤ) → T (is_zero z) → z ≡ pos 0
unfolding is_zero
zero_is (pos zero) t = refl
zero_is (pos (suc n)) t = absurd t
zero_is (negsuc n) t = absurd t

pub is-zero : (z : ℤ) → z ≡ pos 0 → T (is_zero z)
unfolding is_zero
is-zero z e = subst (λ w. T (is_zero w)) (sym e) tt

-- a polynomial that lists each monomial of a list with a coefficient of its own
abbrev pub graph : {M : Type 0} → (M → ℤ) → List M → Poly M
graph g l = map (λ m. (g m, m)) l

-- a polynomial with its monomials read as those of another kind
abbrev pub carry : {M N : Type 0} → (M → N) → Poly M → Poly N
carry h p = map (λ t. (t.0, h t.1)) p

-- ---- the monomials of a sum, and of a product with a monomial
pub monos_append : {M : Type 0} (p q : Poly M) (m : M) → m ∈ monos (p ++ q) → (m ∈ monos p) ⊎ (m ∈ monos q)
monos_append [] q m h = inr h
monos_append (t ∷ p) q m h = ⊎_elim (λ e. inl (Memᴰ.head e)) (λ k. ⊎_elim (λ j. inl (there j)) (λ j. inr j) (monos_append p q m k)) (Memᴰ.cases_cons h)

pub record Scaled {M : Type 0} (k : Kind M) (z : M) (p : Poly M) (m : M) : Type 0 where
  pub term : Term M
  pub listed : term ∈ p
  pub is : k.mul z term.1 ≡ m

pub times_out : {M : Type 0} (k : Kind M) (c : ℤ) (z : M) (p : Poly M) (m : M) → m ∈ monos (times k c z p) → Scaled k z p m
unfolding times
times_out k c z [] m h = absurd (Memᴰ.not-nil h)
times_out k c z (t ∷ p) m h = ⊎_elim (λ e. record { term = t; listed = here; is = sym e }) (λ n. later (times_out k c z p m n)) (Memᴰ.cases_cons h)
  where
    later : Scaled k z p m → Scaled k z (t ∷ p) m
    later s = record { term = s.term; listed = there s.listed; is = s.is }

module _ {M : Type 0} (k : Kind M) (o : Order k.same k.before) where
  -- ---- term by term
  -- the coefficient of the first term's monomial, and of another
  pub coeff_hit : (t : Term M) (p : Poly M) (m : M) → t.1 ≡ m → coeff k (t ∷ p) m ≡ t.0 +ℤ coeff k p m
  unfolding coeff
  coeff_hit t p m e = rw (T→is (k.same t.1 m) (subst (λ z. T (k.same t.1 z)) e (o.same_refl t.1)))

  pub coeff_miss : (t : Term M) (p : Poly M) (m : M) → (t.1 ≡ m → ⊥) → coeff k (t ∷ p) m ≡ coeff k p m
  unfolding coeff
  coeff_miss t p m n = rw (n_t→is (k.same t.1 m) (λ s. n (o.same_eq t.1 m s)))

  pub coeff_append : (p q : Poly M) (m : M) → coeff k (p ++ q) m ≡ coeff k p m +ℤ coeff k q m
  unfolding coeff
  coeff_append [] q m = sym (+ℤ_idl (coeff k q m))
  coeff_append (t ∷ p) q m =
      both (k.same t.1 m) (ap (λ z. t.0 +ℤ z) (coeff_append p q m) ∙ sym (+ℤ_assoc t.0 (coeff k p m) (coeff k q m))) (coeff_append p q m)
    where
      both : (b : Bool) → t.0 +ℤ coeff k (p ++ q) m ≡ t.0 +ℤ coeff k p m +ℤ coeff k q m → coeff k (p ++ q) m ≡ coeff k p m +ℤ coeff k q m
          → cond b (t.0 +ℤ coeff k (p ++ q) m) (coeff k (p ++ q) m) ≡ cond b (t.0 +ℤ coeff k p m) (coeff k p m) +ℤ coeff k q m
      both true e f = e
      both false e f = f

  -- a monomial with a coefficient other than 0 is one of the terms'
  pub coeff_listed : (p : Poly M) (m : M) → (coeff k p m ≡ pos 0 → ⊥) → m ∈ monos p
  unfolding coeff
  coeff_listed [] m n = absurd (n refl)
  coeff_listed (t ∷ p) m n = go (test (k.same t.1 m)) (coeff_listed p m)
    where
      go : Tested (k.same t.1 m) → ((coeff k p m ≡ pos 0 → ⊥) → m ∈ monos p) → m ∈ monos (t ∷ p)
      go (passed e) ih = Memᴰ.head (sym (o.same_eq t.1 m (is→T (k.same t.1 m) e)))
      go (failed e) ih = there (ih (λ q. n (rw e q)))

  -- and one that is none of the terms' has coefficient 0
  pub coeff_absent : (p : Poly M) (m : M) → (m ∈ monos p → ⊥) → coeff k p m ≡ pos 0
  unfolding coeff
  coeff_absent [] m n = refl
  coeff_absent (t ∷ p) m n = coeff_miss t p m (λ e. n (Memᴰ.head (sym e))) ∙ coeff_absent p m (λ h. n (there h))

  -- ---- the support
  module _ (p : Poly M) where
    abbrev counts : M → Bool
    counts m = not (is_zero (coeff k p m))

    pub support_asc : Ascending k.before (support k p)
    unfolding support
    support_asc = arrange_asc o (keep counts (monos p))

    pub support_in : (m : M) → (coeff k p m ≡ pos 0 → ⊥) → m ∈ support k p
    unfolding support
    support_in m n = arrange_in o (keep counts (monos p)) (keep_in counts (monos p) (coeff_listed p m n) (not_T (is_zero (coeff k p m)) (λ t. n (zero_is (coeff k p m) t))))

    pub support_out : (m : M) → m ∈ support k p → (m ∈ monos p) × (coeff k p m ≡ pos 0 → ⊥)
    unfolding support
    support_out m h =
        let f : (m ∈ monos p) × T (counts m) = keep_out counts (monos p) (arrange_out o (keep counts (monos p)) h) in
        (f.0, λ e. T_not (is_zero (coeff k p m)) f.1 (is-zero (coeff k p m) e))

    -- outside the support the coefficient is 0
    pub support_zero : (m : M) → (m ∈ support k p → ⊥) → coeff k p m ≡ pos 0
    support_zero m n = go (test (is_zero (coeff k p m)))
      where
        go : Tested (is_zero (coeff k p m)) → coeff k p m ≡ pos 0
        go (passed e) = zero_is (coeff k p m) (is→T (is_zero (coeff k p m)) e)
        go (failed e) = absurd (n (support_in m (λ z. is→n_t (is_zero (coeff k p m)) e (is-zero (coeff k p m) z))))

  -- ---- an ascending list with coefficients
  pub graph_out : (g : M → ℤ) (l : List M) (m : M) → (m ∈ l → ⊥) → coeff k (graph g l) m ≡ pos 0
  unfolding coeff
  graph_out g [] m n = refl
  graph_out g (x ∷ l) m n = coeff_miss (g x, x) (graph g l) m (λ e. n (Memᴰ.head (sym e))) ∙ graph_out g l m (λ h. n (there h))

  pub graph_in : (g : M → ℤ) (l : List M) (m : M) → Ascending k.before l → m ∈ l → coeff k (graph g l) m ≡ g m
  graph_in g [] m a h = absurd (Memᴰ.not-nil h)
  graph_in g (x ∷ l) m a h = ⊎_elim at_head (λ n. later n (graph_in g l m (tail_asc a) n)) (Memᴰ.cases_cons h)
    where
      -- the head stands before every later entry, so it is none of them
      apart : (y : M) → y ∈ l → x ≡ y → ⊥
      apart y n e = o.irrefl x (subst (λ z. T (k.before x z)) (sym e) (head_first a y n))

      at_head : m ≡ x → coeff k (graph g (x ∷ l)) m ≡ g m
      at_head e = coeff_hit (g x, x) (graph g l) m (sym e) ∙ ap₂ ◌+ℤ◌ (ap g (sym e)) (graph_out g l m (λ n. apart m n (sym e))) ∙ +ℤ_idr (g m)

      later : m ∈ l → coeff k (graph g l) m ≡ g m → coeff k (graph g (x ∷ l)) m ≡ g m
      later n ih = coeff_miss (g x, x) (graph g l) m (apart m n) ∙ ih

  -- so the support with its coefficients is the polynomial
  pub graph_support : (p : Poly M) → Same k (graph (coeff k p) (support k p)) p
  graph_support p m = go (test (any (k.same m) (support k p)))
    where
      go : Tested (any (k.same m) (support k p)) → coeff k (graph (coeff k p) (support k p)) m ≡ coeff k p m
      go (passed e) = graph_in (coeff k p) (support k p) m (support_asc p) (among_out o m (support k p) (is→T (any (k.same m) (support k p)) e))
      go (failed e) =
          let n : m ∈ support k p → ⊥ = λ h. is→n_t (any (k.same m) (support k p)) e (among_in o h) in
          graph_out (coeff k p) (support k p) m n ∙ sym (support_zero p m n)

  -- ---- a sum over the terms, each coefficient times a weight of its monomial, is the same for equal polynomials
  unfoldable pub weighed : (M → ℤ) → Poly M → ℤ
  weighed g [] = pos 0
  weighed g (t ∷ p) = t.0 *ℤ g t.1 +ℤ weighed g p

  unfoldable sum_over : (M → ℤ) → List M → ℤ
  sum_over h [] = pos 0
  sum_over h (x ∷ l) = h x +ℤ sum_over h l

  sum_alike : (h j : M → ℤ) (l : List M) → ((x : M) → x ∈ l → h x ≡ j x) → sum_over h l ≡ sum_over j l
  unfolding sum_over
  sum_alike h j [] e = refl
  sum_alike h j (x ∷ l) e = ap₂ ◌+ℤ◌ (e x here) (sum_alike h j l (λ y n. e y (there n)))

  sum_zero : (l : List M) → sum_over (λ x. pos 0) l ≡ pos 0
  unfolding sum_over
  sum_zero [] = refl
  sum_zero (x ∷ l) = +ℤ_idl (sum_over (λ y. pos 0) l) ∙ sum_zero l

  module _ (g : M → ℤ) where
    abbrev share : Poly M → M → ℤ
    share p m = coeff k p m *ℤ g m

    -- one more term adds its own share, where its monomial stands
    sum_next : (t : Term M) (p : Poly M) (l : List M) → Ascending k.before l → t.1 ∈ l → sum_over (share (t ∷ p)) l ≡ t.0 *ℤ g t.1 +ℤ sum_over (share p) l
    unfolding sum_over
    sum_next t p [] a h = absurd (Memᴰ.not-nil h)
    sum_next t p (x ∷ l) a h = ⊎_elim at_head (λ n. later n (sum_next t p l (tail_asc a) n)) (Memᴰ.cases_cons h)
      where
        apart : (y : M) → y ∈ l → x ≡ y → ⊥
        apart y n e = o.irrefl x (subst (λ z. T (k.before x z)) (sym e) (head_first a y n))

        at_head : t.1 ≡ x → share (t ∷ p) x +ℤ sum_over (share (t ∷ p)) l ≡ t.0 *ℤ g t.1 +ℤ (share p x +ℤ sum_over (share p) l)
        at_head e =
            let own : share (t ∷ p) x ≡ t.0 *ℤ g t.1 +ℤ share p x =
            ap (λ c. c *ℤ g x) (coeff_hit t p x e) ∙ distrib_r t.0 (coeff k p x) (g x) ∙ ap (λ (y : M). t.0 *ℤ g y +ℤ share p x) (sym e) in
            let rest : sum_over (share (t ∷ p)) l ≡ sum_over (share p) l =
            sum_alike (share (t ∷ p)) (share p) l (λ y n. ap (λ c. c *ℤ g y) (coeff_miss t p y (λ q. apart y n (sym e ∙ q)))) in
            ap₂ ◌+ℤ◌ own rest ∙ +ℤ_assoc (t.0 *ℤ g t.1) (share p x) (sum_over (share p) l)

        later : t.1 ∈ l → sum_over (share (t ∷ p)) l ≡ t.0 *ℤ g t.1 +ℤ sum_over (share p) l
            → share (t ∷ p) x +ℤ sum_over (share (t ∷ p)) l ≡ t.0 *ℤ g t.1 +ℤ (share p x +ℤ sum_over (share p) l)
        later n ih =
            let own : share (t ∷ p) x ≡ share p x = ap (λ c. c *ℤ g x) (coeff_miss t p x (λ e. apart t.1 n (sym e))) in
            ap₂ ◌+ℤ◌ own ih ∙ +ℤ_left_comm (share p x) (t.0 *ℤ g t.1) (sum_over (share p) l)

    weighed_sum : (p : Poly M) (l : List M) → Ascending k.before l → ((m : M) → m ∈ monos p → m ∈ l) → weighed g p ≡ sum_over (share p) l
    unfolding weighed coeff
    weighed_sum [] l a h = sym (sum_alike (λ m. pos 0 *ℤ g m) (λ m. pos 0) l (λ m n. zero-*ℤ (g m)) ∙ sum_zero l)
    weighed_sum (t ∷ p) l a h = ap (λ r. t.0 *ℤ g t.1 +ℤ r) (weighed_sum p l a (λ m n. h m (there n))) ∙ sym (sum_next t p l a (h t.1 here))

    pub weighed_same : (p q : Poly M) → Same k p q → weighed g p ≡ weighed g q
    weighed_same p q e =
        let l : List M = arrange_by k.same k.before (monos p ++ monos q) in
        let in_p : (m : M) → m ∈ monos p → m ∈ l = λ m n. arrange_in o (monos p ++ monos q) (Memᴰ.append_left (monos q) n) in
        let in_q : (m : M) → m ∈ monos q → m ∈ l = λ m n. arrange_in o (monos p ++ monos q) (Memᴰ.append_right (monos p) n) in
        let asc : Ascending k.before l = arrange_asc o (monos p ++ monos q) in
        weighed_sum p l asc in_p ∙ sum_alike (share p) (share q) l (λ m n. ap (λ c. c *ℤ g m) (e m)) ∙ sym (weighed_sum q l asc in_q)
