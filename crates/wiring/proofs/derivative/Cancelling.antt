-- Where no total of a derivative is 0. Two records give one monomial to the derivative of z only where they are alike or cross; so where none cross
-- and no two are alike, each monomial that a record gives comes from that record alone, with a coefficient. Assumes nothing.
use mathlib.Core.Path.{◌≡◌, refl, sym, ap, ap₂, ◌∙◌, subst}
use mathlib.Core.Logic.{⊎_elim}
use mathlib.Core.Bool.{false}
use mathlib.Core.List.Memᴰ
use mathlib.Core.List.{List, [], ◌∷◌}
use Prim.Native.Nat.{ℕ, zero, suc, ◌+◌, ◌*◌, ◌-◌, ◌/◌, ◌<◌, ◌≤◌}
use native.Mathlib.Nat.{mul-le-mul}
use native.Mathlib.Omega.{arith}
use borrow.Author.Tests.{eq-eqb, eqb-true, eqb-false, ltb-true, ltb-false}
use lib.Dec.{T, eqb, ltb, eqb→eq}
use lib.IntN.{ℤ, pos, negsuc, nat_abs, ◌+ℤ◌, ◌*ℤ◌, +ℤ_idl, +ℤ_idr}
use lib.ListN.{length, get_or}
use Rattle.monomial.specs.Monomial.{Mono, one, vars, constants, width}
use Rattle.monomial.specs.Order.{same}
use Rattle.monomial.specs.Product.{mul, FitsBytes}
use Rattle.monomial.specs.Claims.{◌∈◌}
use Rattle.monomial.proofs.Tests.{Tested, passed, failed, test, is→T, is→n_t, n_t→is, T→is}
use Rattle.monomial.proofs.Members.{here, there}
use Rattle.monomial.proofs.Counting.{at_in, below_in}
use Rattle.monomial.proofs.Variables.{vars_length, constants_fit}
use Rattle.monomial.proofs.order.Laws.{mono_order}
use Rattle.monomial.proofs.product.Laws.{at_most_mul, at_most_weaken}
use Rattle.wiring.specs.Panel.{term_bytes, term_exponent}
use Rattle.wiring.specs.Sockets.{full_panel}
use Rattle.wiring.specs.Coefficient.{is_zero}
use Rattle.wiring.specs.Poly.{Kind, plain, coeff}
use Rattle.wiring.specs.Derivative.{derivative, power, image, crosses, Uncancelled}
use Rattle.wiring.specs.Terms.{Record, record_at, records, system, alike, CleanTerms}
use Rattle.wiring.specs.Kinds.{variable, Lawful}
use Rattle.wiring.specs.Claims.{adds, added_up, Unlike}
use Rattle.wiring.proofs.Ints.{abs_product}
use Rattle.wiring.proofs.Poly.{zero_is}
use Rattle.wiring.proofs.kinds.Plain.{plain_lawful}
use Rattle.wiring.proofs.terms.Laws.{alike_in, alike_out, Rightful, clean_in, clean_right, clean_unlike, fields_out, records_out}
use Rattle.wiring.proofs.terms.Exact.{coefficient_exact}
use Rattle.wiring.proofs.derivative.Records.{contribution, exchange, adds_flat, adds_hit, adds_miss}

-- ---- two quotients of one monomial, for any lawful kind
module _ {M : Type 0} (k : Kind M) (l : Lawful k) where
  -- a product of two products, with the middle factors exchanged
  mul_mid : (a b c d : M) → k.mul (k.mul a b) (k.mul c d) ≡ k.mul (k.mul a c) (k.mul b d)
  mul_mid a b c d =
      let middle : k.mul b (k.mul c d) ≡ k.mul c (k.mul b d) = sym (l.mul_assoc b c d) ∙ ap (λ (x : M). k.mul x d) (l.mul_comm b c) ∙ l.mul_assoc c b d in
      l.mul_assoc a b (k.mul c d) ∙ ap (k.mul a) middle ∙ sym (l.mul_assoc a c (k.mul b d))

  module _ (w : ℕ) (z : M) (long : k.width z ≡ w) where
    -- what division by a variable takes away, that variable gives back
    pub over_back : (i : ℕ) → i < w → (k.power z i ≡ pos 0 → ⊥) → k.mul (k.over z i) (variable k w i) ≡ z
    over_back i h n =
        let x = variable k w i in
        let own : k.power x i ≡ pos 0 → ⊥ = λ e. let b : ◌≡◌ {A = ℕ} 1 0 = ap nat_abs (sym (l.power_own w i h) ∙ e) in omega arith in
        l.mul_comm (k.over z i) x ∙ l.over_mul x z i n ∙ ap (λ (y : M). k.over y i) (l.mul_comm x z) ∙ sym (l.over_mul z x i own)
        ∙ ap (k.mul z) (l.over_own w i h) ∙ ap (λ (v : ℕ). k.mul z (k.one v)) (sym long) ∙ l.mul_one z

    -- z by one variable times a, and z by another times b, are one: then a times the other variable is b times the first
    pub over_crossed : (i j : ℕ) (a b : M) → i < w → j < w → k.width a ≡ w → k.width b ≡ w → (k.power z i ≡ pos 0 → ⊥) → (k.power z j ≡ pos 0 → ⊥)
        → k.mul (k.over z i) a ≡ k.mul (k.over z j) b → k.mul a (variable k w j) ≡ k.mul b (variable k w i)
    over_crossed i j a b hi hj la lb ni nj e =
        let x = variable k w i in
        let y = variable k w j in
        let wide : (c v : M) → k.width c ≡ w → k.width v ≡ w → k.width z ≡ k.width (k.mul c v) = λ c v p q. long ∙ sym (l.width_mul c v (p ∙ sym q) ∙ p) in
        let first : k.mul z (k.mul a y) ≡ k.mul (k.mul (k.over z i) a) (k.mul x y) =
        ap (λ (u : M). k.mul u (k.mul a y)) (sym (over_back i hi ni)) ∙ mul_mid (k.over z i) x a y in
        let second : k.mul z (k.mul b x) ≡ k.mul (k.mul (k.over z j) b) (k.mul y x) =
        ap (λ (u : M). k.mul u (k.mul b x)) (sym (over_back j hj nj)) ∙ mul_mid (k.over z j) y b x in
        l.mul_cancel z (k.mul a y) (k.mul b x) (wide a y la (l.width_variable w j hj)) (wide b x lb (l.width_variable w i hi))
        (first ∙ ap₂ k.mul e (l.mul_comm x y) ∙ sym second)

-- ---- records that cross
-- variable number e, from 1
abbrev pub named : ℕ → Mono
named e = get_or (constants width) e (one width)

named_is : (e : ℕ) → 1 ≤ e → named e ≡ variable plain width (e - 1)
named_is zero h = let x : ⊥ = omega arith in absurd x
named_is (suc e) h = let p : suc e - 1 ≡ e = omega arith in rw p

-- records of one equation do not cross; of two equations the products say it
pub crosses_alone : (r q : Record) → r.equation ≡ q.equation → crosses r q ≡ false
unfolding crosses
crosses_alone r q e = rw (eq-eqb r.equation q.equation e)

pub crosses_says : (r q : Record) → (r.equation ≡ q.equation → ⊥)
    → crosses r q ≡ same (mul r.monomial (named q.equation)) (mul q.monomial (named r.equation))
unfolding crosses
crosses_says r q n = rw (n_t→is (eqb r.equation q.equation) (λ t. n (eqb→eq r.equation q.equation t)))

crosses_out : (r q : Record) → T (crosses r q)
    → (r.equation ≡ q.equation → ⊥) × (mul r.monomial (named q.equation) ≡ mul q.monomial (named r.equation))
crosses_out r q t =
    let x = mul r.monomial (named q.equation) in
    let y = mul q.monomial (named r.equation) in
    let apart : r.equation ≡ q.equation → ⊥ = λ e. is→n_t (crosses r q) (crosses_alone r q e) t in
    (apart, mono_order.same_eq x y (subst T (crosses_says r q apart) t))

crosses_in : (r q : Record) → (r.equation ≡ q.equation → ⊥)
    → mul r.monomial (named q.equation) ≡ mul q.monomial (named r.equation) → T (crosses r q)
crosses_in r q n e =
    let x = mul r.monomial (named q.equation) in
    subst T (sym (crosses_says r q n)) (subst (λ (y : Mono). T (same x y)) e (mono_order.same_refl x))

pub crosses_flip : (r q : Record) → T (crosses r q) → T (crosses q r)
crosses_flip r q t = let o = crosses_out r q t in crosses_in q r (λ e. o.0 (sym e)) (sym o.1)

-- a product from its parts, and it fits bytes: a record's exponents are small, and a variable's are at most 1
pub crossing_made : (r : Record) (x y : Mono) (i e : ℕ) → x ≡ r.monomial → y ≡ named i → i ≡ e → mul x y ≡ mul r.monomial (named e)
crossing_made r x y i e f g h = ap₂ mul f (g ∙ ap named h)

pub crossing_fits : (r : Record) (e : ℕ) → Rightful r → e ≤ width → FitsBytes (mul r.monomial (named e))
crossing_fits r e h b =
    let counted : length (vars width) ≡ width = vars_length width in
    let small = (constants_fit 1 width (omega arith) (named e) (at_in (constants width) e (one width) (omega arith))).1 in
    at_most_weaken (mul r.monomial (named e)) (omega arith) (at_most_mul term_exponent 1 r.monomial (named e) h.small small)

-- ---- records with one image
raised : (e : ℕ) → 0 < e → pos e ≡ pos 0 → ⊥
raised e h q = let x : e ≡ 0 = ap nat_abs q in omega arith

module _ (z : Mono) (long : length z ≡ width) (r q : Record) (a : Rightful r) (b : Rightful q) where
  -- two records that give one monomial are alike, or cross
  pub one_image : 0 < power r z → 0 < power q z → image r z ≡ image q z → (T (crosses r q) → ⊥) → T (alike r q)
  one_image hr hq met n = go (test (eqb r.equation q.equation))
    where
      i : ℕ
      i = r.equation - 1

      j : ℕ
      j = q.equation - 1

      go : Tested (eqb r.equation q.equation) → T (alike r q)
      go (passed p) =
          let e : r.equation ≡ q.equation = eqb-true r.equation q.equation p in
          let quotient = plain.over z j in
          let wide : length quotient ≡ width = plain_lawful.width_over z j ∙ long in
          let products : mul quotient r.monomial ≡ mul quotient q.monomial = ap (λ (n : ℕ). mul (plain.over z (n - 1)) r.monomial) (sym e) ∙ met in
          alike_in r q e (plain_lawful.mul_cancel quotient r.monomial q.monomial (wide ∙ sym a.long) (wide ∙ sym b.long) products)
      go (failed p) =
          let low = a.low in
          let high = a.high in
          let low' = b.low in
          let high' = b.high in
          let crossed : mul r.monomial (variable plain width j) ≡ mul q.monomial (variable plain width i) =
          over_crossed plain plain_lawful width z long i j r.monomial q.monomial (omega arith) (omega arith) a.long b.long
          (raised (power r z) hr) (raised (power q z) hq) met in
          absurd (n (crosses_in r q (eqb-false r.equation q.equation p)
          (ap (mul r.monomial) (named_is q.equation low') ∙ crossed ∙ ap (mul q.monomial) (sym (named_is r.equation low)))))

  -- so one that is neither like q nor crosses it adds nothing to q's
  adds_nothing : 0 < power q z → (T (crosses r q) → ⊥) → (T (alike r q) → ⊥) → contribution r z (image q z) ≡ pos 0
  adds_nothing hq n d = go (test (ltb 0 (power r z))) (test (same (image r z) (image q z)))
    where
      go : Tested (ltb 0 (power r z)) → Tested (same (image r z) (image q z)) → contribution r z (image q z) ≡ pos 0
      go (failed p) s = let flat : power r z ≡ 0 = omega (arith, ltb-false 0 (power r z) p) in adds_flat plain mono_order (λ m. m) r z (image q z) (ap pos flat)
      go (passed p) (failed s) = adds_miss plain mono_order (λ m. m) r z (image q z) s
      go (passed p) (passed s) =
          let met : image r z ≡ image q z = mono_order.same_eq (image r z) (image q z) (is→T (same (image r z) (image q z)) s) in
          absurd (d (one_image (ltb-true 0 (power r z) p) hq met n))

-- ---- a sum to which one record adds, for any kind
alike_flip : (r q : Record) → T (alike r q) → T (alike q r)
alike_flip r q t = let o = alike_out r q t in alike_in q r (sym o.0) (sym o.1)

module _ {M : Type 0} (k : Kind M) (h : Mono → M) (z m : M) where
  none_adds : (rs : List Record) → ((q : Record) → q ∈ rs → adds k h q z m ≡ pos 0) → added_up k h rs z m ≡ pos 0
  unfolding added_up
  none_adds [] n = refl
  none_adds (q ∷ rs) n = ap₂ ◌+ℤ◌ (n q here) (none_adds rs (λ p i. n p (there i)))

  -- where no two are alike, and none but those like r adds anything, the sum is what r adds
  pub one_adds : (r : Record) (rs : List Record) → r ∈ rs → Unlike rs → ((q : Record) → q ∈ rs → (T (alike q r) → ⊥) → adds k h q z m ≡ pos 0)
      → added_up k h rs z m ≡ adds k h r z m
  unfolding added_up
  one_adds r [] i u n = absurd (Memᴰ.not-nil i)
  one_adds r (q ∷ rs) i u n = ⊎_elim first (λ j. later j (one_adds r rs j u.1 (λ p l. n p (there l)))) (Memᴰ.cases_cons i)
    where
      first : r ≡ q → adds k h q z m +ℤ added_up k h rs z m ≡ adds k h r z m
      first e =
          let rest : added_up k h rs z m ≡ pos 0 = none_adds rs (λ p j. n p (there j) (λ t. u.0 p j (subst (λ (x : Record). T (alike p x)) e t))) in
          ap₂ ◌+ℤ◌ (ap (λ (x : Record). adds k h x z m) (sym e)) rest ∙ +ℤ_idr (adds k h r z m)

      later : r ∈ rs → added_up k h rs z m ≡ adds k h r z m → adds k h q z m +ℤ added_up k h rs z m ≡ adds k h r z m
      later j ih = ap₂ ◌+ℤ◌ (n q here (λ t. u.0 r j (alike_flip q r t))) ih ∙ +ℤ_idl (adds k h r z m)

-- ---- totals of records of which no two cross
abbrev pub Uncrossed : List Record → Type 0
Uncrossed rs = (r q : Record) → r ∈ rs → q ∈ rs → T (crosses r q) → ⊥

-- each image has what its one record adds: the exponent times the coefficient
pub total_alone : (rs : List Record) → ((r : Record) → r ∈ rs → Rightful r) → Unlike rs → Uncrossed rs → (z : Mono) → length z ≡ width
    → (r : Record) → r ∈ rs → 0 < power r z → coeff plain (derivative plain (system rs) z) (image r z) ≡ pos (power r z) *ℤ r.coefficient
total_alone rs right unlike uncrossed z long r i h =
    let m = image r z in
    let own = adds_hit plain mono_order (λ x. x) r z m (T→is (same m m) (mono_order.same_refl m)) in
    sym (exchange rs z m (λ q j. ((right q j).low, (right q j).high)))
    ∙ one_adds plain (λ x. x) z m r rs i unlike (λ q j n. adds_nothing z long q r (right q j) (right r i) h (uncrossed q r j i) n)
    ∙ own

-- neither factor is 0
counts : (n : ℕ) (c : ℤ) → 0 < n → (c ≡ pos 0 → ⊥) → is_zero (pos n *ℤ c) ≡ false
counts n c h d = n_t→is (is_zero (pos n *ℤ c)) clash
  where
    some : (x : ℤ) → (x ≡ pos 0 → ⊥) → 1 ≤ nat_abs x
    some (pos zero) f = absurd (f refl)
    some (pos (suc y)) f = omega arith
    some (negsuc y) f = omega arith

    clash : T (is_zero (pos n *ℤ c)) → ⊥
    clash t =
        let none : nat_abs (pos n *ℤ c) ≡ 0 = ap nat_abs (zero_is (pos n *ℤ c) t) in
        let size : nat_abs (pos n *ℤ c) ≡ n * nat_abs c = abs_product (pos n) c in
        let least : 1 * 1 ≤ n * nat_abs c = mul-le-mul h (some c d) in
        omega arith

pub uncancelled : (bytes : List ℕ) → CleanTerms bytes → Uncrossed (records bytes) → Uncancelled bytes
unfolding records
uncancelled bytes clean apart z t long b h =
    let rs = records bytes in
    let r = record_at bytes t in
    let listed : r ∈ rs = Memᴰ.map (record_at bytes) (below_in (length bytes / term_bytes) t b) in
    let fields = fields_out (full_panel width) r (clean_right (full_panel width) [] rs clean r listed) in
    let nonzero = ((coefficient_exact r.coefficient).0 fields.coefficient).0 in
    let total = total_alone rs (clean_in bytes clean) (clean_unlike (full_panel width) [] rs clean) apart z long r listed h in
    ap is_zero total ∙ counts (power r z) r.coefficient h nonzero

-- ---- two loops that look for records that cross: none before number t crosses one before it, and number t crosses none before number u
pub record Uncrossing (bytes : List ℕ) (t u : ℕ) : Type 0 where
  pub within : u ≤ t
  pub earlier : (i j : ℕ) → i < t → j < i → crosses (record_at bytes i) (record_at bytes j) ≡ false
  pub own : (j : ℕ) → j < u → crosses (record_at bytes t) (record_at bytes j) ≡ false

pub uncrossing_start : (bytes : List ℕ) → Uncrossing bytes 0 0
uncrossing_start bytes = record { within = omega arith; earlier = λ i j h k. absurd (omega arith); own = λ j h. absurd (omega arith) }

module _ {bytes : List ℕ} {t u : ℕ} (v : Uncrossing bytes t u) where
  -- the inner loop goes on
  pub uncrossing_on : u < t → crosses (record_at bytes t) (record_at bytes u) ≡ false → Uncrossing bytes t (u + 1)
  uncrossing_on h e = record { within = omega arith; earlier = v.earlier; own = λ j b. go j b (test (eqb j u)) }
    where
      go : (j : ℕ) → j < u + 1 → Tested (eqb j u) → crosses (record_at bytes t) (record_at bytes j) ≡ false
      go j b (passed p) = rw (eqb-true j u p) e
      go j b (failed p) = let n = eqb-false j u p in v.own j (omega arith)

  -- it has ended, and the outer one goes on
  pub uncrossing_next : t ≤ u → Uncrossing bytes (t + 1) 0
  uncrossing_next h = record { within = omega arith; earlier = λ i j b k. go i j b k (test (eqb i t)); own = λ j b. absurd (omega arith) }
    where
      go : (i j : ℕ) → i < t + 1 → j < i → Tested (eqb i t) → crosses (record_at bytes i) (record_at bytes j) ≡ false
      go i j b k (passed p) = let e : i ≡ t = eqb-true i t p in rw e (v.own j (omega arith))
      go i j b k (failed p) = let n = eqb-false i t p in v.earlier i j (omega arith) k

  -- and both have: no two records cross, whichever comes first
  pub uncrossing_ends : length bytes / term_bytes ≤ t → Uncrossed (records bytes)
  uncrossing_ends h r q i j s = go (test (ltb n m)) (test (ltb m n))
    where
      m : ℕ
      m = (records_out bytes r i).number

      n : ℕ
      n = (records_out bytes q j).number

      met : T (crosses (record_at bytes m) (record_at bytes n))
      met = rw ((records_out bytes r i).is, (records_out bytes q j).is) s

      go : Tested (ltb n m) → Tested (ltb m n) → ⊥
      go (passed p) o =
          let b = (records_out bytes r i).counted in
          is→n_t (crosses (record_at bytes m) (record_at bytes n)) (v.earlier m n (omega arith) (ltb-true n m p)) met
      go (failed p) (passed o) =
          let b = (records_out bytes q j).counted in
          is→n_t (crosses (record_at bytes n) (record_at bytes m)) (v.earlier n m (omega arith) (ltb-true m n o)) (crosses_flip (record_at bytes m) (record_at bytes n) met)
      go (failed p) (failed o) =
          let low : m ≤ n = ltb-false n m p in
          let high : n ≤ m = ltb-false m n o in
          let one : m ≡ n = omega arith in
          let equations = ap (λ (x : ℕ). (record_at bytes x).equation) one in
          is→n_t (crosses (record_at bytes m) (record_at bytes n)) (crosses_alone (record_at bytes m) (record_at bytes n) equations) met
