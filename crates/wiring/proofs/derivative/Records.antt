-- The derivative of a monomial, record by record: where its monomials come from, and its coefficients as sums over the records in their
-- order. Assumes nothing.
use mathlib.Core.Path.{◌≡◌, refl, sym, ap, ap₂, ◌∙◌, subst}
use mathlib.Core.Bool.{Bool, true, false, cond}
use mathlib.Core.List.Memᴰ
use mathlib.Core.List.{List, [], ◌∷◌, ◌++◌, map, map-map, map-id}
use Prim.Native.Nat.{ℕ, zero, suc, ◌+◌, ◌-◌, ◌<◌, ◌≤◌}
use native.Mathlib.Omega.{arith}
use native.Mathlib.Numerals.{add-one}
use borrow.Author.Tests.{eqb-true, eqb-false, eq-eqb, ltb-true, ltb-false}
use lib.Dec.{eqb, ltb, eqb→eq}
use lib.IntN.{ℤ, pos, ◌+ℤ◌, ◌*ℤ◌, +ℤ_idl, +ℤ_idr, +ℤ_assoc, zero-*ℤ}
use lib.ListN.{length, get_or, set, take, length-map, get_or-eq_default}
use lib.Seq.{take-suc}
use Rattle.monomial.specs.Lists.{keep, below}
use Rattle.monomial.specs.Monomial.{Mono, width}
use Rattle.monomial.specs.Product.{mul}
use Rattle.monomial.specs.Claims.{◌∈◌, Order}
use Rattle.monomial.proofs.Tests.{Tested, passed, failed, test, is→T}
use Rattle.monomial.proofs.Members.{here, there, keep_out, keep_yes, keep_no}
use Rattle.monomial.proofs.Counting.{below_at, below_length}
use Rattle.monomial.proofs.order.Laws.{mono_order}
use Rattle.wiring.specs.Poly.{Kind, Term, Poly, plain, coeff, times, monos}
use Rattle.wiring.specs.Derivative.{derivative, part, parts_from, power, image}
use Rattle.wiring.specs.Terms.{Record, equation, system}
use Rattle.wiring.specs.Claims.{adds, added_up, summed}
use Rattle.wiring.proofs.Ints.{+ℤ_left_comm}
use Rattle.wiring.proofs.Poly.{carry, coeff_append}
use Rattle.wiring.proofs.derivative.Rules.{Parted, absent, present, parted, part_flat, part_raised}
use Rattle.wiring.proofs.derivative.Terms.{derives}

-- ---- the equations by their numbers
-- what f gives for i, i + 1, .., k of them
unfoldable pub span : {A : Type 0} → (ℕ → A) → ℕ → ℕ → List A
span f i zero = []
span f i (suc k) = f i ∷ span f (suc i) k

span_suc : {A : Type 0} (f : ℕ → A) (i k : ℕ) → span (λ j. f (suc j)) i k ≡ span f (suc i) k
unfolding span
span_suc f i zero = refl
span_suc f i (suc k) = ap (◌∷◌ (f (suc i))) (span_suc f (suc i) k)

map_suc : {A : Type 0} (f : ℕ → A) (l : List ℕ) → map f (map suc l) ≡ map (λ j. f (suc j)) l
map_suc f [] = refl
map_suc f (x ∷ l) = ap (◌∷◌ (f (suc x))) (map_suc f l)

pub span_below : {A : Type 0} (f : ℕ → A) (k : ℕ) → map f (below k) ≡ span f 0 k
unfolding span below
span_below f zero = refl
span_below f (suc k) = ap (◌∷◌ (f 0)) (map_suc f (below k) ∙ span_below (λ j. f (suc j)) k ∙ span_suc f 0 k)

-- ---- m comes from a record
pub record Derived (rs : List Record) (z m : Mono) : Type 0 where
  pub by : Record
  pub listed : by ∈ rs
  pub raised : 0 < power by z
  pub is : image by z ≡ m

-- a term of equation number i is a record's
pub record Stated (rs : List Record) (i : ℕ) (t : Term Mono) : Type 0 where
  pub by : Record
  pub listed : by ∈ rs
  pub numbered : by.equation ≡ suc i
  pub is : ◌≡◌ {A = Term Mono} (by.coefficient, by.monomial) t

pub equation_out : (rs : List Record) (i : ℕ) (t : Term Mono) → t ∈ equation rs i → Stated rs i t
unfolding equation
equation_out rs i t h = go (Memᴰ.of_map (λ (r : Record). (r.coefficient, r.monomial)) (keep (λ r. eqb r.equation (suc i)) rs) h)
  where
    go : (r : Record) × (r ∈ keep (λ r. eqb r.equation (suc i)) rs) × (◌≡◌ {A = Term Mono} (r.coefficient, r.monomial) t) → Stated rs i t
    go p =
        let k = keep_out (λ (r : Record). eqb r.equation (suc i)) rs p.1 in
        record { by = p.0; listed = k.0; numbered = eqb→eq p.0.equation (suc i) k.1; is = p.2 }

-- the image from its parts: x is z with one less at the record's variable, y the record's monomial
pub image_made : (r : Record) (z x y : Mono) (i : ℕ) → i ≡ r.equation → x ≡ set z (i - 1) (get_or z (i - 1) 0 - 1) → y ≡ r.monomial → mul x y ≡ image r z
image_made r z x y i e f g = ap₂ mul (f ∙ ap (λ (j : ℕ). set z (j - 1) (get_or z (j - 1) 0 - 1)) e) g

pub panel_equation : (rs : List Record) (i : ℕ) → i < width → get_or (system rs) i [] ≡ equation rs i
unfolding system
panel_equation rs i h = below_at (equation rs) width i [] h

pub system_length : (rs : List Record) → length (system rs) ≡ width
unfolding system
system_length rs = length-map (below width) (equation rs) ∙ below_length width

pub panel_stated : (rs : List Record) (i : ℕ) (t : Term Mono) → t ∈ get_or (system rs) i [] → Stated rs i t
panel_stated rs i t h = go (test (ltb i width))
  where
    go : Tested (ltb i width) → Stated rs i t
    go (passed e) = equation_out rs i t (subst (λ (f : Poly Mono). t ∈ f) (panel_equation rs i (ltb-true i width e)) h)
    go (failed e) =
        let n : length (system rs) ≡ width = system_length rs in
        let k : width ≤ i = ltb-false i width e in
        absurd (Memᴰ.not-nil (subst (λ (f : Poly Mono). t ∈ f) (get_or-eq_default (system rs) [] {n = i} (omega arith)) h))

-- an exponent that is not 0
positive : (e : ℕ) → (pos e ≡ pos 0 → ⊥) → 0 < e
positive zero n = absurd (n refl)
positive (suc e) n = omega arith

pub derived : (rs : List Record) (z m : Mono) → m ∈ monos (derivative plain (system rs) z) → Derived rs z m
derived rs z m h =
    let d = derives plain (system rs) z m h in
    let i = d.number in
    let o = panel_stated rs i d.by.term d.by.listed in
    let v : o.by.equation - 1 ≡ i = omega (arith, o.numbered) in
    record {
      by = o.by;
      listed = o.listed;
      raised = rw v (positive (get_or z i 0) d.by.raised);
      is = ap₂ (λ (j : ℕ) (y : Mono). mul (set z j (get_or z j 0 - 1)) y) v (ap (λ (t : Term Mono). t.1) o.is) ∙ d.by.is;
    }

-- ---- the equations with one record more
pub equation_own : (r : Record) (rs : List Record) (i : ℕ) → r.equation ≡ suc i → equation (r ∷ rs) i ≡ (r.coefficient, r.monomial) ∷ equation rs i
unfolding equation
equation_own r rs i e =
    ap (map (λ (q : Record). (q.coefficient, q.monomial)))
    (keep_yes (λ (q : Record). eqb q.equation (suc i)) r rs (is→T (eqb r.equation (suc i)) (eq-eqb r.equation (suc i) e)))

pub equation_other : (r : Record) (rs : List Record) (i : ℕ) → (r.equation ≡ suc i → ⊥) → equation (r ∷ rs) i ≡ equation rs i
unfolding equation
equation_other r rs i n =
    ap (map (λ (q : Record). (q.coefficient, q.monomial))) (keep_no (λ (q : Record). eqb q.equation (suc i)) r rs (λ t. n (eqb→eq r.equation (suc i) t)))

-- ---- a coefficient as a sum over the records, in their order, for any kind: h makes the records' monomials that kind's
cond_sum : (b : Bool) (x y : ℤ) → cond b (x +ℤ y) y ≡ cond b x (pos 0) +ℤ y
cond_sum true x y = refl
cond_sum false x y = sym (+ℤ_idl y)

module _ {M : Type 0} (k : Kind M) (o : Order k.same k.before) (h : Mono → M) where
  -- the three ways of a record: its variable is not in z, its image is m, its image is another
  pub adds_flat : (r : Record) (z m : M) → k.power z (r.equation - 1) ≡ pos 0 → adds k h r z m ≡ pos 0
  unfolding adds
  adds_flat r z m e = rw (e, zero-*ℤ r.coefficient) (neither (k.same (k.mul (k.over z (r.equation - 1)) (h r.monomial)) m))
    where
      neither : (b : Bool) → cond b (pos 0) (pos 0) ≡ pos 0
      neither true = refl
      neither false = refl

  pub adds_hit : (r : Record) (z m : M) → k.same (k.mul (k.over z (r.equation - 1)) (h r.monomial)) m ≡ true
      → adds k h r z m ≡ k.power z (r.equation - 1) *ℤ r.coefficient
  unfolding adds
  adds_hit r z m e = rw e

  pub adds_miss : (r : Record) (z m : M) → k.same (k.mul (k.over z (r.equation - 1)) (h r.monomial)) m ≡ false → adds k h r z m ≡ pos 0
  unfolding adds
  adds_miss r z m e = rw e

  -- the sum goes on by one record
  added_append : (rs qs : List Record) (z m : M) → added_up k h (rs ++ qs) z m ≡ added_up k h rs z m +ℤ added_up k h qs z m
  unfolding added_up
  added_append [] qs z m = sym (+ℤ_idl (added_up k h qs z m))
  added_append (r ∷ rs) qs z m =
      ap (λ (y : ℤ). adds k h r z m +ℤ y) (added_append rs qs z m) ∙ sym (+ℤ_assoc (adds k h r z m) (added_up k h rs z m) (added_up k h qs z m))

  pub added_next : (rs : List Record) (t : ℕ) (d : Record) (z m : M) → t < length rs
      → added_up k h (take (t + 1) rs) z m ≡ added_up k h (take t rs) z m +ℤ adds k h (get_or rs t d) z m
  unfolding added_up
  added_next rs t d z m b =
      rw (add-one t, take-suc rs t d b)
      (added_append (take t rs) (get_or rs t d ∷ []) z m ∙ ap (λ (y : ℤ). added_up k h (take t rs) z m +ℤ y) (+ℤ_idr (adds k h (get_or rs t d) z m)))

  -- ---- one record more
  -- equation number i with its monomials of this kind, and the summands of the variables i, i + 1, .., n of them
  abbrev read : List Record → ℕ → Poly M
  read rs i = carry h (equation rs i)

  abbrev parts : List Record → M → ℕ → ℕ → Poly M
  parts rs z i n = parts_from k i z (span (read rs) i n)

  span_others : (r : Record) (rs : List Record) (i n : ℕ) → r.equation ≤ i → span (read (r ∷ rs)) i n ≡ span (read rs) i n
  unfolding span
  span_others r rs i zero b = refl
  span_others r rs i (suc n) b = rw (equation_other r rs i (λ e. omega arith), span_others r rs (suc i) n (omega arith))

  part_more : (r : Record) (f : Poly M) (z m : M) (i : ℕ) → r.equation ≡ suc i
      → coeff k (part k i z ((r.coefficient, h r.monomial) ∷ f)) m ≡ adds k h r z m +ℤ coeff k (part k i z f) m
  unfolding coeff times adds
  part_more r f z m i b = go (parted k i z f)
    where
      g : Poly M
      g = (r.coefficient, h r.monomial) ∷ f

      j : r.equation - 1 ≡ i
      j = omega arith

      go : Parted k i z f → coeff k (part k i z g) m ≡ adds k h r z m +ℤ coeff k (part k i z f) m
      go (absent e p) = rw (part_flat k i z g e, p, adds_flat r z m (ap (k.power z) j ∙ e))
      go (present n p) =
          rw (part_raised k i z g n, p, j)
          (cond_sum (k.same (k.mul (k.over z i) (h r.monomial)) m) (k.power z i *ℤ r.coefficient) (coeff k (times k (k.power z i) (k.over z i) f) m))

  -- a number more in one of two summands
  more_first : (p q r : Poly M) (m : M) (c : ℤ) → coeff k p m ≡ c +ℤ coeff k q m → coeff k (p ++ r) m ≡ c +ℤ coeff k (q ++ r) m
  more_first p q r m c e =
      coeff_append k o p r m ∙ ap (λ (y : ℤ). y +ℤ coeff k r m) e ∙ +ℤ_assoc c (coeff k q m) (coeff k r m)
      ∙ ap (λ (y : ℤ). c +ℤ y) (sym (coeff_append k o q r m))

  more_second : (p q r : Poly M) (m : M) (c : ℤ) → coeff k q m ≡ c +ℤ coeff k r m → coeff k (p ++ q) m ≡ c +ℤ coeff k (p ++ r) m
  more_second p q r m c e =
      coeff_append k o p q m ∙ ap (λ (y : ℤ). coeff k p m +ℤ y) e ∙ +ℤ_left_comm (coeff k p m) c (coeff k r m)
      ∙ ap (λ (y : ℤ). c +ℤ y) (sym (coeff_append k o p r m))

  parts_more : (r : Record) (rs : List Record) (z m : M) (i n : ℕ) → i < r.equation → r.equation ≤ i + n
      → coeff k (parts (r ∷ rs) z i n) m ≡ adds k h r z m +ℤ coeff k (parts rs z i n) m
  unfolding parts_from span
  parts_more r rs z m i zero a b = let x : ⊥ = omega arith in absurd x
  parts_more r rs z m i (suc n) a b = go (test (eqb r.equation (suc i))) (λ g. parts_more r rs z m (suc i) n g (omega arith))
    where
      go : Tested (eqb r.equation (suc i))
          → (suc i < r.equation → coeff k (parts (r ∷ rs) z (suc i) n) m ≡ adds k h r z m +ℤ coeff k (parts rs z (suc i) n) m)
          → coeff k (parts (r ∷ rs) z i (suc n)) m ≡ adds k h r z m +ℤ coeff k (parts rs z i (suc n)) m
      go (passed p) ih =
          let e : r.equation ≡ suc i = eqb-true r.equation (suc i) p in
          rw (equation_own r rs i e, span_others r rs (suc i) n (omega arith))
          (more_first (part k i z ((r.coefficient, h r.monomial) ∷ read rs i)) (part k i z (read rs i)) (parts rs z (suc i) n) m
          (adds k h r z m) (part_more r (read rs i) z m i e))
      go (failed p) ih =
          let d : r.equation ≡ suc i → ⊥ = eqb-false r.equation (suc i) p in
          rw (equation_other r rs i d)
          (more_second (part k i z (read rs i)) (parts (r ∷ rs) z (suc i) n) (parts rs z (suc i) n) m (adds k h r z m) (ih (omega arith)))

  part_none : (i : ℕ) (z : M) → part k i z [] ≡ []
  unfolding times
  part_none i z = go (parted k i z [])
    where
      go : Parted k i z [] → part k i z [] ≡ []
      go (absent e p) = p
      go (present n p) = p

  parts_none : (z : M) (i n : ℕ) → parts [] z i n ≡ []
  unfolding parts_from span equation keep
  parts_none z i zero = refl
  parts_none z i (suc n) = rw (part_none i z) (parts_none z (suc i) n)

  -- the records may be gone through in their own order: what they add is the coefficient
  pub adds_up : (rs : List Record) (z m : M) → ((r : Record) → r ∈ rs → (1 ≤ r.equation) × (r.equation ≤ width))
      → added_up k h rs z m ≡ coeff k (derivative k (map (carry h) (system rs)) z) m
  unfolding added_up coeff derivative system
  adds_up rs z m b = go rs b ∙ sym (ap (λ (fs : List (Poly M)). coeff k (parts_from k 0 z fs) m) (map-map (carry h) (equation rs) (below width) ∙ span_below (read rs) width))
    where
      go : (qs : List Record) → ((r : Record) → r ∈ qs → (1 ≤ r.equation) × (r.equation ≤ width)) → added_up k h qs z m ≡ coeff k (parts qs z 0 width) m
      go [] b = rw (parts_none z 0 width)
      go (r ∷ qs) b =
          ap (λ (y : ℤ). adds k h r z m +ℤ y) (go qs (λ q n. b q (there n)))
          ∙ sym (parts_more r qs z m 0 width (b r here).0 (let high : r.equation ≤ width = (b r here).1 in omega arith))

-- ---- of plain monomials
abbrev pub contribution : Record → Mono → Mono → ℤ
contribution = adds plain (λ m. m)

carry_same : (fs : List (Poly Mono)) → map (carry (λ m. m)) fs ≡ fs
carry_same [] = refl
carry_same (f ∷ fs) = ap₂ ◌∷◌ (map-id f) (carry_same fs)

pub exchange : (rs : List Record) (z m : Mono) → ((r : Record) → r ∈ rs → (1 ≤ r.equation) × (r.equation ≤ width))
    → summed rs z m ≡ coeff plain (derivative plain (system rs) z) m
exchange rs z m b = adds_up plain mono_order (λ m. m) rs z m b ∙ ap (λ (fs : List (Poly Mono)). coeff plain (derivative plain fs z) m) (carry_same (system rs))
