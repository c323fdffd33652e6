-- The wiring list, for any kind of monomials, any list v of signals and any derivation d whose monomials are all in V2: what each record says,
-- that the records of one left variable are its derivative, and that the list is these rows one after the other. Assumes nothing.
use mathlib.Core.Path.{◌≡◌, refl, sym, ap, ap₂, ◌∙◌, subst}
use mathlib.Core.Logic.{⊎_elim}
use mathlib.Core.Bool.{Bool}
use mathlib.Core.List.Memᴰ
use mathlib.Core.List.{List, [], ◌∷◌, ◌++◌, map, append-nil}
use Prim.Native.Nat.{ℕ, zero, suc, ◌+◌, ◌<◌, ◌≤◌}
use native.Mathlib.Omega.{arith}
use borrow.Author.Tests.{eq-eqb}
use lib.Dec.{T, eqb, eqb→eq}
use lib.IntN.{ℤ}
use lib.ListN.{length, get_or}
use Rattle.monomial.specs.Lists.{gather, below}
use Rattle.monomial.specs.Claims.{◌∈◌, Ascending}
use Rattle.monomial.proofs.Tests.{is→T}
use Rattle.monomial.proofs.Members.{here, there, any_in, keep_all, keep_none, keep_append}
use Rattle.monomial.proofs.Counting.{place_lt, place_passes, at_in, place_le}
use Rattle.wiring.specs.Poly.{Kind, Poly, coeff, support}
use Rattle.wiring.specs.Quadratic.{multiplied, factor, in_v2}
use Rattle.wiring.specs.Wires.{Wire, signal, first_of, second_of, row, rows_from, wiring, Met}
use Rattle.wiring.specs.Kinds.{Lawful}
use Rattle.wiring.specs.Claims.{joined, as_product, Wired, Row, row_of}
use Rattle.wiring.proofs.Poly.{support_asc, support_out, graph, graph_support}
use Rattle.wiring.proofs.quadratic.Laws.{in_v2_in}

-- ---- the pair of a monomial
module _ {M : Type 0} (k : Kind M) (law : Lawful k) (v : List M) (m : M) where
  abbrev beside : M → Bool
  beside b = k.same (k.mul (signal k v (first_of k v m)) b) m

  pub first_lt : T (in_v2 k v m) → first_of k v m < length v
  unfolding in_v2 first_of
  first_lt t = place_lt (factor k v m) v t

  first_factor : T (in_v2 k v m) → T (factor k v m (signal k v (first_of k v m)))
  unfolding in_v2 first_of
  first_factor t = place_passes (factor k v m) v (k.one 0) t

  pub second_lt : T (in_v2 k v m) → second_of k v m < length v
  unfolding second_of factor
  second_lt t = place_lt beside v (first_factor t)

  pub pair_is : T (in_v2 k v m) → k.mul (signal k v (first_of k v m)) (signal k v (second_of k v m)) ≡ m
  unfolding second_of factor
  pair_is t = law.order.same_eq (k.mul (signal k v (first_of k v m)) (signal k v (second_of k v m))) m (place_passes beside v (k.one 0) (first_factor t))

  -- of all pairs of signals with this product it has the smallest a, and then the smallest b
  product_test : (x : M) → x ≡ m → T (k.same x m)
  product_test x e = subst (λ (y : M). T (k.same x y)) e (law.order.same_refl x)

  pub first_least : (a b : ℕ) → b < length v → k.mul (signal k v a) (signal k v b) ≡ m → first_of k v m ≤ a
  unfolding first_of factor
  first_least a b h e =
      place_le (factor k v m) v (k.one 0) a (any_in (λ y. k.same (k.mul (signal k v a) y) m) (at_in v b (k.one 0) h) (product_test (k.mul (signal k v a) (signal k v b)) e))

  pub second_least : (b : ℕ) → k.mul (signal k v (first_of k v m)) (signal k v b) ≡ m → second_of k v m ≤ b
  unfolding second_of
  second_least b e = place_le beside v (k.one 0) b (product_test (k.mul (signal k v (first_of k v m)) (signal k v b)) e)

  -- the pair turned round is one too
  pub first_le_second : T (in_v2 k v m) → first_of k v m ≤ second_of k v m
  first_le_second t =
      let turned : k.mul (signal k v (second_of k v m)) (signal k v (first_of k v m)) ≡ m = law.mul_comm (signal k v (second_of k v m)) (signal k v (first_of k v m)) ∙ pair_is t in
      first_least (second_of k v m) (first_of k v m) (first_lt t) turned

-- ---- what a list of records says of a left variable
abbrev pub wire : {M : Type 0} → Kind M → List M → ℕ → Poly M → M → Wire
wire k v i p m = record { left = i; a = first_of k v m; b = second_of k v m; coefficient = coeff k p m }

module _ {M : Type 0} (k : Kind M) (law : Lawful k) (v : List M) (i : ℕ) (p : Poly M) (met : (m : M) → m ∈ support k p → T (in_v2 k v m)) where
  wire_wired : (m : M) → m ∈ support k p → Wired k v i p (wire k v i p m)
  wire_wired m h =
      let t : T (in_v2 k v m) = met m h in
      let e : joined k v (wire k v i p m) ≡ m = pair_is k law v m t in
      record {
        left_is = refl;
        a_below = first_lt k law v m t;
        b_below = second_lt k law v m t;
        ordered = first_le_second k law v m t;
        least_a = λ a b n q. first_least k law v m a b n (q ∙ e);
        least_b = λ b q. second_least k law v m b (q ∙ e);
        total = ap (coeff k p) (sym e);
        nonzero = (support_out k law.order p m h).1;
      }

  row_joined : (l : List M) → ((m : M) → m ∈ l → T (in_v2 k v m)) → map (joined k v) (map (wire k v i p) l) ≡ l
  row_joined [] t = refl
  row_joined (m ∷ l) t = ap₂ ◌∷◌ (pair_is k law v m (t m here)) (row_joined l (λ x h. t x (there h)))

  row_graph : (l : List M) → ((m : M) → m ∈ l → T (in_v2 k v m)) → multiplied k v (map (as_product k v) (map (wire k v i p) l)) ≡ graph (coeff k p) l
  unfolding multiplied
  row_graph [] t = refl
  row_graph (m ∷ l) t = ap₂ ◌∷◌ (ap (λ (x : M). (coeff k p m, x)) (pair_is k law v m (t m here))) (row_graph l (λ x h. t x (there h)))

  pub row_is : Row k v i p (row k v i p)
  unfolding row
  row_is = record {
    each = λ x h. let w : (m : M) × (m ∈ support k p) × (wire k v i p m ≡ x) = Memᴰ.of_map (wire k v i p) (support k p) h in subst (Wired k v i p) w.2 (wire_wired w.0 w.1);
    monomials = row_joined (support k p) met;
    ascending = subst (Ascending k.before) (sym (row_joined (support k p) met)) (support_asc k law.order p);
    equal = λ m. ap (λ (r : Poly M). coeff k r m) (row_graph (support k p) met) ∙ graph_support k law.order p m;
  }

-- ---- the rows, one after the other
module _ {M : Type 0} (k : Kind M) (v : List M) where
  row_left : (i : ℕ) (p : Poly M) (x : Wire) → x ∈ row k v i p → x.left ≡ i
  unfolding row
  row_left i p x h =
      let f : M → Wire = λ m. record { left = i; a = first_of k v m; b = second_of k v m; coefficient = coeff k p m } in
      let w : (m : M) × (m ∈ support k p) × (f m ≡ x) = Memᴰ.of_map f (support k p) h in
      sym (ap (λ (y : Wire). y.left) w.2)

  -- a row is all kept by its own number, and not at all by another
  row_own : (i : ℕ) (p : Poly M) → row_of i (row k v i p) ≡ row k v i p
  row_own i p = keep_all (λ x. eqb x.left i) (row k v i p) (λ x h. is→T (eqb x.left i) (eq-eqb x.left i (row_left i p x h)))

  row_other : (i j : ℕ) (p : Poly M) → (j ≡ i → ⊥) → row_of i (row k v j p) ≡ []
  row_other i j p n = keep_none (λ x. eqb x.left i) (row k v j p) (λ x h t. n (sym (row_left j p x h) ∙ eqb→eq x.left i t))

  module _ (d : M → Poly M) where
    rows_left : (n : ℕ) (l : List M) (x : Wire) → x ∈ rows_from k v d n l → (n ≤ x.left) × (x.left < n + length l)
    unfolding rows_from
    rows_left n [] x h = absurd (Memᴰ.not-nil h)
    rows_left n (z ∷ l) x h = ⊎_elim own (λ k. later (rows_left (suc n) l x k)) (Memᴰ.append_cases (row k v n (d z)) h)
      where
        own : x ∈ row k v n (d z) → (n ≤ x.left) × (x.left < n + suc (length l))
        own k = let e : x.left ≡ n = row_left n (d z) x k in (omega arith, omega arith)

        later : (suc n ≤ x.left) × (x.left < suc n + length l) → (n ≤ x.left) × (x.left < n + suc (length l))
        later b = (omega (arith, b.0), omega (arith, b.1))

    rows_row : (n j : ℕ) (l : List M) → j < length l → row_of (n + j) (rows_from k v d n l) ≡ row k v (n + j) (d (get_or l j (k.one 0)))
    unfolding rows_from
    rows_row n j [] h = let z : ⊥ = omega arith in absurd z
    rows_row n zero (z ∷ l) h =
        let e : n + 0 ≡ n = omega arith in
        let f : Wire → Bool = λ x. eqb x.left n in
        let none : row_of n (rows_from k v d (suc n) l) ≡ [] = keep_none f (rows_from k v d (suc n) l) (λ x k t. behind x (rows_left (suc n) l x k).0 (eqb→eq x.left n t)) in
        rw e (keep_append f (row k v n (d z)) (rows_from k v d (suc n) l) ∙ ap₂ ◌++◌ (row_own n (d z)) none ∙ append-nil (row k v n (d z)))
      where
        behind : (x : Wire) → suc n ≤ x.left → x.left ≡ n → ⊥
        behind x b e = omega arith
    rows_row n (suc j) (z ∷ l) h =
        let e : n + suc j ≡ suc n + j = omega arith in
        let f : Wire → Bool = λ x. eqb x.left (suc n + j) in
        let other : n ≡ suc n + j → ⊥ = λ q. omega arith in
        rw e (keep_append f (row k v n (d z)) (rows_from k v d (suc n) l) ∙ ap₂ ◌++◌ (row_other (suc n + j) n (d z) other) (rows_row (suc n) j l (omega arith)))

    rows_gather : (n : ℕ) (l : List M) → rows_from k v d n l ≡ gather (λ j. row k v (n + j) (d (get_or l j (k.one 0)))) (below (length l))
    unfolding rows_from gather below
    rows_gather n [] = refl
    rows_gather n (z ∷ l) = ap₂ ◌++◌ own (rows_gather (suc n) l ∙ shift (below (length l)))
      where
        own : row k v n (d z) ≡ row k v (n + 0) (d z)
        own = let e : n ≡ n + 0 = omega arith in ap (λ (i : ℕ). row k v i (d z)) e

        shift : (q : List ℕ) → gather (λ j. row k v (suc n + j) (d (get_or l j (k.one 0)))) q ≡ gather (λ j. row k v (n + j) (d (get_or (z ∷ l) j (k.one 0)))) (map suc q)
        shift [] = refl
        shift (j ∷ q) = let e : suc n + j ≡ n + suc j = omega arith in ap₂ ◌++◌ (ap (λ (i : ℕ). row k v i (d (get_or l j (k.one 0)))) e) (shift q)

    -- by ascending number of the left variable
    pub wiring_rows : wiring k v d ≡ gather (λ i. row k v i (d (signal k v i))) (below (length v))
    unfolding wiring gather
    wiring_rows = rows_gather 0 v ∙ same_rows (below (length v))
      where
        same_rows : (q : List ℕ) → gather (λ j. row k v (0 + j) (d (signal k v j))) q ≡ gather (λ j. row k v j (d (signal k v j))) q
        same_rows [] = refl
        same_rows (j ∷ q) = let e : 0 + j ≡ j = omega arith in ap₂ ◌++◌ (ap (λ (i : ℕ). row k v i (d (signal k v j))) e) (same_rows q)

    pub wiring_left : (x : Wire) → x ∈ wiring k v d → x.left < length v
    unfolding wiring
    wiring_left x h = let b : x.left < 0 + length v = (rows_left 0 v x h).1 in omega arith

    pub wiring_row : (i : ℕ) → i < length v → row_of i (wiring k v d) ≡ row k v i (d (signal k v i))
    unfolding wiring
    wiring_row i h = let e : 0 + i ≡ i = omega arith in subst (λ (j : ℕ). row_of j (rows_from k v d 0 v) ≡ row k v j (d (signal k v i))) e (rows_row 0 i v h)

    pub wiring_is : Lawful k → Met k v d → (i : ℕ) → i < length v → Row k v i (d (signal k v i)) (row_of i (wiring k v d))
    wiring_is law met i h =
        let z : M = signal k v i in
        subst (Row k v i (d z)) (sym (wiring_row i h)) (row_is k law v i (d z) (λ m n. met z m (at_in v i (k.one 0) h) n))

-- ---- a row is fixed by what it says
abbrev made : ℕ → ℕ → ℕ → ℤ → Wire
made l a b c = record { left = l; a = a; b = b; coefficient = c }

same_wire : (x y : Wire) → x.left ≡ y.left → x.a ≡ y.a → x.b ≡ y.b → x.coefficient ≡ y.coefficient → x ≡ y
same_wire x y l a b c = ap₂ (λ (n m : ℕ). made n m x.b x.coefficient) l a ∙ ap₂ (made y.left y.a) b c

module _ {M : Type 0} (k : Kind M) (law : Lawful k) (v : List M) (i : ℕ) (p : Poly M) where
  wired_one : (x : Wire) → Wired k v i p x → x ≡ wire k v i p (joined k v x)
  wired_one x w = same_wire x (wire k v i p m) w.left_is first second w.total
    where
      m : M
      m = joined k v x

      met : T (in_v2 k v m)
      met = in_v2_in k law.order v m (record {
        a = signal k v x.a;
        b = signal k v x.b;
        a_in = at_in v x.a (k.one 0) w.a_below;
        b_in = at_in v x.b (k.one 0) w.b_below;
        is = refl;
      })

      first : x.a ≡ first_of k v m
      first =
          let low : first_of k v m ≤ x.a = first_least k law v m x.a x.b w.b_below refl in
          let high : x.a ≤ first_of k v m = w.least_a (first_of k v m) (second_of k v m) (second_lt k law v m met) (pair_is k law v m met) in
          omega arith

      second : x.b ≡ second_of k v m
      second =
          let low : second_of k v m ≤ x.b = second_least k law v m x.b (ap (λ (a : ℕ). k.mul (signal k v a) (signal k v x.b)) (sym first)) in
          let high : x.b ≤ second_of k v m = w.least_b (second_of k v m) (ap (λ (a : ℕ). k.mul (signal k v a) (signal k v (second_of k v m))) first ∙ pair_is k law v m met) in
          omega arith

  pub row_one : (l : List Wire) → Row k v i p l → l ≡ row k v i p
  unfolding row
  row_one l r = from l r.each ∙ ap (map (wire k v i p)) r.monomials
    where
      from : (q : List Wire) → ((x : Wire) → x ∈ q → Wired k v i p x) → q ≡ map (wire k v i p) (map (joined k v) q)
      from [] h = refl
      from (x ∷ q) h = ap₂ ◌∷◌ (wired_one x (h x here)) (from q (λ y k. h y (there k)))
