-- Term records as a list, what clean ones hold, and the loops that judge them. Assumes nothing.
use Rattle.std.specs.Prelude.{Result, Ok, Err, ⊤}
use Rattle.wiring.specs.declared.terms.Fault.{Fault}
use mathlib.Core.Path.{◌≡◌, refl, sym, ap, ◌∙◌, subst}
use mathlib.Core.Logic.{⊎_elim}
use mathlib.Core.Bool.{Bool, true, false, not}
use mathlib.Core.List.Memᴰ
use mathlib.Core.List.{List, [], ◌∷◌, ◌++◌}
use Prim.Native.Nat.{ℕ, zero, suc, ◌+◌, ◌*◌, ◌-◌, ◌/◌, ◌<◌, ◌≤◌}
use native.Mathlib.Omega.{arith}
use native.Mathlib.Numerals.{add-one}
use borrow.Author.Tests.{le-leb, eq-eqb, ltb-true, ltb-false}
use lib.Dec.{T, leb, eqb, ltb, leb→le, le→leb, eqb→eq, T_not}
use lib.IntN.{nat_abs}
use lib.ListN.{length, get_or, take, drop, length-map, length-take, length-drop, drop_of_length-le, get_or-eq_default}
use lib.Seq.{length-take-le, take-suc, drop-cons, drop-drop, get_or-drop, get_or-take}
use Rattle.std.specs.Bool.{MatchBool}
use Rattle.std.specs.List.{AllWithin, HoldsAt, range_with_len}
use Rattle.std.proofs.lemmas.List.FromFn.{get_or-range_with_len}
use Rattle.monomial.specs.Lists.{any, all, below}
use Rattle.monomial.specs.Monomial.{Mono, width}
use Rattle.monomial.specs.Order.{same}
use Rattle.monomial.specs.Product.{AtMost}
use Rattle.monomial.specs.Claims.{◌∈◌}
use Rattle.monomial.proofs.Tests.{Tested, passed, failed, test, T→is, is→T, n_t→is, is→n_t, and_l, and_r, and_i}
use Rattle.monomial.proofs.Members.{here, any_in, all_out}
use Rattle.monomial.proofs.order.Laws.{mono_order}
use Rattle.monomial.proofs.Counting.{below_in, below_out, below_length, below_at, at_in}
use Rattle.wiring.specs.Panel.{term_bytes, most_coefficient, term_exponent}
use Rattle.wiring.specs.Sockets.{full_panel, marked}
use Rattle.wiring.specs.declared.panel.Panel.{Panel}
use Rattle.wiring.specs.Coefficient.{is_zero}
use Rattle.wiring.specs.Terms.{Record, record_at, records, exponents_right, coefficient_right, term_right, alike, fault_from, fault, CleanFor, CleanTerms}
use Rattle.wiring.specs.declared.terms.Fault.TheVariants.{Wrong, Repeated}
use Rattle.wiring.specs.Claims.{Unlike}
use Rattle.wiring.proofs.sockets.Laws.{unmarked}

-- ---- the records of the bytes
pub records_length : (bytes : List ℕ) → length (records bytes) ≡ length bytes / term_bytes
unfolding records
records_length bytes = length-map (below (length bytes / term_bytes)) (record_at bytes) ∙ below_length (length bytes / term_bytes)

pub records_at : (bytes : List ℕ) (t : ℕ) (d : Record) → t < length bytes / term_bytes → get_or (records bytes) t d ≡ record_at bytes t
unfolding records
records_at bytes t d h = below_at (record_at bytes) (length bytes / term_bytes) t d h

-- a record by its number
pub record Numbered (bytes : List ℕ) (r : Record) : Type 0 where
  pub number : ℕ
  pub counted : number < length bytes / term_bytes
  pub is : record_at bytes number ≡ r

pub records_out : (bytes : List ℕ) (r : Record) → r ∈ records bytes → Numbered bytes r
unfolding records
records_out bytes r h =
    let p : (t : ℕ) × (t ∈ below (length bytes / term_bytes)) × (record_at bytes t ≡ r) = Memᴰ.of_map (record_at bytes) (below (length bytes / term_bytes)) h in
    record { number = p.0; counted = below_out (length bytes / term_bytes) p.0 p.1; is = p.2 }

-- ---- records with the same equation and exponents
pub alike_in : (r q : Record) → r.equation ≡ q.equation → r.monomial ≡ q.monomial → T (alike r q)
alike_in r q e m =
    and_i (eqb r.equation q.equation) (same r.monomial q.monomial) (is→T (eqb r.equation q.equation) (eq-eqb r.equation q.equation e))
    (subst (λ (x : Mono). T (same r.monomial x)) m (mono_order.same_refl r.monomial))

pub alike_out : (r q : Record) → T (alike r q) → (r.equation ≡ q.equation) × (r.monomial ≡ q.monomial)
alike_out r q t = (
  eqb→eq r.equation q.equation (and_l (eqb r.equation q.equation) (same r.monomial q.monomial) t),
  mono_order.same_eq r.monomial q.monomial (and_r (eqb r.equation q.equation) (same r.monomial q.monomial) t),
)

-- ---- clean records
pub wrong_clean : {C : Type 0} {p : ℕ} → ◌≡◌ {A = Result ⊤ Fault} (Err (Wrong p)) (Ok tt) → C
wrong_clean e = let z : ◌≡◌ {A = ℕ} 0 1 = cc in let y : ⊥ = omega arith in absurd y

pub repeated_clean : {C : Type 0} {p : ℕ} → ◌≡◌ {A = Result ⊤ Fault} (Err (Repeated p)) (Ok tt) → C
repeated_clean e = let z : ◌≡◌ {A = ℕ} 0 1 = cc in let y : ⊥ = omega arith in absurd y

-- the first of clean records keeps its rule and repeats none that was seen, and those behind it are clean where it has been seen
pub record Leading (panel : Panel) (seen : List Record) (r : Record) (rs : List Record) : Type 0 where
  pub right : T (term_right panel r)
  pub new : T (any (alike r) seen) → ⊥
  pub rest : fault_from panel (seen ++ (r ∷ [])) rs ≡ Ok tt

pub clean_leads : (panel : Panel) (seen : List Record) (r : Record) (rs : List Record) → fault_from panel seen (r ∷ rs) ≡ Ok tt → Leading panel seen r rs
unfolding fault_from
clean_leads panel seen r rs e = go (test (term_right panel r)) (test (any (alike r) seen))
  where
    go : Tested (term_right panel r) → Tested (any (alike r) seen) → Leading panel seen r rs
    go (failed p) q = wrong_clean (rw p at e)
    go (passed p) (passed q) = repeated_clean (rw (p, q) at e)
    go (passed p) (failed q) = record { right = is→T (term_right panel r) p; new = is→n_t (any (alike r) seen) q; rest = rw (p, q) at e }

pub clean_cons : (panel : Panel) (seen : List Record) (r : Record) (rs : List Record) → Leading panel seen r rs → fault_from panel seen (r ∷ rs) ≡ Ok tt
unfolding fault_from
clean_cons panel seen r rs l = rw (T→is (term_right panel r) l.right, n_t→is (any (alike r) seen) l.new) l.rest

pub clean_none : (panel : Panel) (seen : List Record) → fault_from panel seen [] ≡ Ok tt
unfolding fault_from
clean_none panel seen = refl

-- each keeps its rule
pub clean_right : (panel : Panel) (seen rs : List Record) → fault_from panel seen rs ≡ Ok tt → (r : Record) → r ∈ rs → T (term_right panel r)
clean_right panel seen [] e r h = absurd (Memᴰ.not-nil h)
clean_right panel seen (q ∷ rs) e r h =
    let l = clean_leads panel seen q rs e in
    ⊎_elim (λ i. subst (λ x. T (term_right panel x)) (sym i) l.right) (λ k. clean_right panel (seen ++ (q ∷ [])) rs l.rest r k) (Memᴰ.cases_cons h)

-- and is like none that was seen
pub clean_new : (panel : Panel) (seen rs : List Record) → fault_from panel seen rs ≡ Ok tt → (q r : Record) → q ∈ seen → r ∈ rs → T (alike r q) → ⊥
clean_new panel seen [] e q r s h t = Memᴰ.not-nil h
clean_new panel seen (p ∷ rs) e q r s h t =
    let l = clean_leads panel seen p rs e in
    ⊎_elim (λ i. l.new (any_in (alike p) s (subst (λ x. T (alike x q)) i t)))
    (λ k. clean_new panel (seen ++ (p ∷ [])) rs l.rest q r (Memᴰ.append_left (p ∷ []) s) k t)
    (Memᴰ.cases_cons h)

pub clean_unlike : (panel : Panel) (seen rs : List Record) → fault_from panel seen rs ≡ Ok tt → Unlike rs
clean_unlike panel seen [] e = tt
clean_unlike panel seen (q ∷ rs) e =
    let l = clean_leads panel seen q rs e in
    (λ r h. clean_new panel (seen ++ (q ∷ [])) rs l.rest q r (Memᴰ.append_right seen here) h, clean_unlike panel (seen ++ (q ∷ [])) rs l.rest)

pub clean_take : (panel : Panel) (seen rs : List Record) (t : ℕ) → fault_from panel seen rs ≡ Ok tt → fault_from panel seen (take t rs) ≡ Ok tt
unfolding fault_from
clean_take panel seen [] zero e = refl
clean_take panel seen [] (suc t) e = refl
clean_take panel seen (r ∷ rs) zero e = refl
clean_take panel seen (r ∷ rs) (suc t) e =
    let l = clean_leads panel seen r rs e in
    clean_cons panel seen r (take t rs) (record { right = l.right; new = l.new; rest = clean_take panel (seen ++ (r ∷ [])) rs t l.rest })

-- ---- exponents at most `most`, and zero from place n on
pub record Fit (most n e i : ℕ) : Type 0 where
  pub small : e ≤ most
  pub zero : n ≤ i → e ≡ 0

all_at : {A : Type 0} (f : A → Bool) (l : List A) (d : A) → ((i : ℕ) → i < length l → T (f (get_or l i d))) → T (all f l)
unfolding all
all_at f [] d h = tt
all_at f (x ∷ l) d h = and_i (f x) (all f l) (h 0 (omega arith)) (all_at f l d (λ i k. h (suc i) (omega arith)))

pub exponents_in : (most n : ℕ) (m : Mono) → ((i : ℕ) → i < length m → Fit most n (get_or m i 0) i) → T (exponents_right most n m)
unfolding exponents_right
exponents_in most n m h = and_i (all (λ e. leb e most) m) (all (eqb 0) (drop n m)) small zeros
  where
    small : T (all (λ e. leb e most) m)
    small = all_at (λ e. leb e most) m 0 (λ i k. le→leb (get_or m i 0) most (h i k).small)

    beyond : (i : ℕ) → i < length (drop n m) → T (eqb 0 (get_or (drop n m) i 0))
    beyond i k =
        let l : length (drop n m) ≡ length m - n = length-drop n m in
        let e : get_or m (n + i) 0 ≡ 0 = (h (n + i) (omega arith)).zero (omega arith) in
        rw (get_or-drop n m i 0, e) tt

    zeros : T (all (eqb 0) (drop n m))
    zeros = all_at (eqb 0) (drop n m) 0 beyond

pub exponents_out : (most n : ℕ) (m : Mono) → T (exponents_right most n m) → (i : ℕ) → i < length m → Fit most n (get_or m i 0) i
unfolding exponents_right
exponents_out most n m t i h = record {
  small = leb→le (get_or m i 0) most (all_out (λ e. leb e most) (and_l (all (λ e. leb e most) m) (all (eqb 0) (drop n m)) t) (at_in m i 0 h));
  zero = λ k.
      let l : length (drop n m) ≡ length m - n = length-drop n m in
      let p : n + (i - n) ≡ i = omega arith in
      let z : 0 ≡ get_or (drop n m) (i - n) 0 = eqb→eq 0 (get_or (drop n m) (i - n) 0)
      (all_out (eqb 0) (and_r (all (λ e. leb e most) m) (all (eqb 0) (drop n m)) t) (at_in (drop n m) (i - n) 0 (omega arith))) in
      sym (rw (get_or-drop n m (i - n) 0, p) at z);
}

-- a place behind the last exponent reads as 0
pub exponents_everywhere : (most n : ℕ) (m : Mono) → T (exponents_right most n m) → (i : ℕ) → Fit most n (get_or m i 0) i
exponents_everywhere most n m t i = go (test (ltb i (length m)))
  where
    go : Tested (ltb i (length m)) → Fit most n (get_or m i 0) i
    go (passed e) = exponents_out most n m t i (ltb-true i (length m) e)
    go (failed e) = let z : get_or m i 0 ≡ 0 = get_or-eq_default m 0 {n = i} (ltb-false i (length m) e) in record { small = omega arith; zero = λ h. z }

-- a chain that asks about each of them
abbrev pub FitAt : ℕ → ℕ → Mono → ℕ → Type 0
FitAt most n m i = Fit most n (get_or m i 0) i

pub exponents_asked : (most n : ℕ) (m : Mono) → length m ≡ width → (r : Bool)
    → MatchBool r (AllWithin (FitAt most n m) (range_with_len 0 width) 0 width) ((k : ℕ) × (k < width) × HoldsAt (λ i. FitAt most n m i → ⊥) (range_with_len 0 width) k)
    → r ≡ exponents_right most n m
exponents_asked most n m l true h =
    sym (T→is (exponents_right most n m) (exponents_in most n m (λ i k. subst (FitAt most n m) (get_or-range_with_len 0 width i 0 (omega arith) ∙ omega arith) (h i 0 (omega arith) (omega arith)))))
exponents_asked most n m l false h =
    let k = h.0 in
    let at : get_or (range_with_len 0 width) k 0 ≡ k = get_or-range_with_len 0 width k 0 h.1 ∙ omega arith in
    sym (n_t→is (exponents_right most n m) (λ t. h.2 0 (subst (FitAt most n m) (sym at) (exponents_everywhere most n m t k))))

-- ---- the rule of a record, field by field
pub record Fields (panel : Panel) (r : Record) : Type 0 where
  pub low : 1 ≤ r.equation
  pub high : r.equation ≤ panel.n
  pub unfed : marked panel.marks (r.equation - 1) ≡ false
  pub blank : r.blank ≡ 0
  pub exponents : T (exponents_right term_exponent panel.n r.monomial)
  pub coefficient : T (coefficient_right r.coefficient)

pub fields_out : (panel : Panel) (r : Record) → T (term_right panel r) → Fields panel r
unfolding term_right
fields_out panel r t = record {
  low = leb→le 1 r.equation (search (and_l, and_r, t));
  high = leb→le r.equation panel.n (search (and_l, and_r, t));
  unfed = n_t→is (marked panel.marks (r.equation - 1)) (T_not (marked panel.marks (r.equation - 1)) (search (and_l, and_r, t)));
  blank = eqb→eq r.blank 0 (search (and_l, and_r, t));
  exponents = search (and_l, and_r, t);
  coefficient = search (and_l, and_r, t);
}

pub fields_in : (panel : Panel) (r : Record) → Fields panel r → T (term_right panel r)
unfolding term_right
fields_in panel r f =
    rw (
      le-leb 1 r.equation f.low,
      le-leb r.equation panel.n f.high,
      f.unfed,
      eq-eqb r.blank 0 f.blank,
      T→is (exponents_right term_exponent panel.n r.monomial) f.exponents,
    ) f.coefficient

-- what a record that keeps it holds
pub record Rightful (r : Record) : Type 0 where
  pub low : 1 ≤ r.equation
  pub high : r.equation ≤ width
  pub long : length r.monomial ≡ width
  pub small : AtMost term_exponent r.monomial
  pub limited : nat_abs r.coefficient ≤ most_coefficient

pub all_small : (b : ℕ) (m : Mono) → T (all (λ e. leb e b) m) → AtMost b m
unfolding all
all_small b [] t = tt
all_small b (e ∷ m) t = (leb→le e b (and_l (leb e b) (all (λ x. leb x b) m) t), all_small b m (and_r (leb e b) (all (λ x. leb x b) m) t))

pub right_holds : (r : Record) → length r.monomial ≡ width → T (term_right (full_panel width) r) → Rightful r
unfolding exponents_right coefficient_right
right_holds r l t =
    let f = fields_out (full_panel width) r t in
    record {
      low = f.low;
      high = f.high;
      long = l;
      small = all_small term_exponent r.monomial (and_l (all (λ e. leb e term_exponent) r.monomial) (all (eqb 0) (drop width r.monomial)) f.exponents);
      limited = leb→le (nat_abs r.coefficient) most_coefficient (and_r (not (is_zero r.coefficient)) (leb (nat_abs r.coefficient) most_coefficient) f.coefficient);
    }

-- a record that stands wholly in the bytes has six exponents
pub record_long : (bytes : List ℕ) (t : ℕ) → t < length bytes / term_bytes → length (record_at bytes t).monomial ≡ width
record_long bytes t h = simp (length-take, length-drop) (omega arith)

pub clean_in : (bytes : List ℕ) → CleanTerms bytes → (r : Record) → r ∈ records bytes → Rightful r
clean_in bytes c r h =
    let i = records_out bytes r h in
    right_holds r (subst (λ (x : Record). length x.monomial ≡ width) i.is (record_long bytes i.number i.counted)) (clean_right (full_panel width) [] (records bytes) c r h)

pub clean_at : (bytes : List ℕ) → CleanTerms bytes → (t : ℕ) → t < length bytes / term_bytes → Rightful (record_at bytes t)
unfolding records
clean_at bytes c t h = clean_in bytes c (record_at bytes t) (Memᴰ.map (record_at bytes) (below_in (length bytes / term_bytes) t h))

-- ---- records that are clean for a panel are clean for one with more variables and fewer marks
all_drop : {A : Type 0} (f : A → Bool) (i : ℕ) (l : List A) → T (all f l) → T (all f (drop i l))
unfolding all
all_drop f zero l t = t
all_drop f (suc i) [] t = t
all_drop f (suc i) (x ∷ l) t = all_drop f i l (and_r (f x) (all f l) t)

-- more variables leave fewer exponents that must be 0
exponents_widen : (most n b : ℕ) (m : Mono) → n ≤ b → T (exponents_right most n m) → T (exponents_right most b m)
unfolding exponents_right
exponents_widen most n b m h t =
    let e : n + (b - n) ≡ b = omega arith in
    let beyond : T (all (eqb 0) (drop (b - n) (drop n m))) = all_drop (eqb 0) (b - n) (drop n m) (and_r (all (λ x. leb x most) m) (all (eqb 0) (drop n m)) t) in
    let zeros : T (all (eqb 0) (drop b m)) = rw (drop-drop (b - n) n m, e) at beyond in
    and_i (all (λ x. leb x most) m) (all (eqb 0) (drop b m)) (and_l (all (λ x. leb x most) m) (all (eqb 0) (drop n m)) t) zeros

module _ (panel wide : Panel) (more : panel.n ≤ wide.n) (fewer : (i : ℕ) → marked panel.marks i ≡ false → marked wide.marks i ≡ false) where
  right_widens : (r : Record) → T (term_right panel r) → T (term_right wide r)
  right_widens r t =
      let f = fields_out panel r t in
      let high = f.high in
      fields_in wide r (record {
        low = f.low;
        high = omega arith;
        unfed = fewer (r.equation - 1) f.unfed;
        blank = f.blank;
        exponents = exponents_widen term_exponent panel.n wide.n r.monomial more f.exponents;
        coefficient = f.coefficient;
      })

  pub clean_widens : (rs : List Record) → fault panel rs ≡ Ok tt → fault wide rs ≡ Ok tt
  clean_widens rs e = widen [] rs e
    where
      widen : (seen rs : List Record) → fault_from panel seen rs ≡ Ok tt → fault_from wide seen rs ≡ Ok tt
      widen seen [] e = clean_none wide seen
      widen seen (r ∷ rs) e =
          let l = clean_leads panel seen r rs e in
          clean_cons wide seen r rs (record { right = right_widens r l.right; new = l.new; rest = widen (seen ++ (r ∷ [])) rs l.rest })

-- records that are clean for a panel are clean for one of as many variables, or of more, without marks
pub clean_for : (panel : Panel) (b : ℕ) (bytes : List ℕ) → panel.n ≤ b → fault panel (records bytes) ≡ Ok tt → CleanFor b bytes
clean_for panel b bytes h = clean_widens panel (full_panel b) h (λ i e. unmarked i) (records bytes)

-- ---- a loop that judges the records, and has come to number t: what is left says what the whole says
pub record Judging (panel : Panel) (rs : List Record) (t : ℕ) : Type 0 where
  pub within : t ≤ length rs
  pub rest : fault_from panel (take t rs) (drop t rs) ≡ fault panel rs

pub judging_start : (panel : Panel) (rs : List Record) → Judging panel rs 0
judging_start panel rs = record { within = omega arith; rest = refl }

module _ (d : Record) {panel : Panel} {rs : List Record} {t : ℕ} (j : Judging panel rs t) (h : t < length rs) where
  seen : length (take t rs) ≡ t
  seen = length-take-le t rs (omega arith)

  pub judging_wrong : term_right panel (get_or rs t d) ≡ false → Err (Wrong (t + 1)) ≡ fault panel rs
  unfolding fault_from
  judging_wrong e = rw (add-one t) (rw (drop-cons rs t d h, e, seen) at j.rest)

  pub judging_repeated : term_right panel (get_or rs t d) ≡ true → any (alike (get_or rs t d)) (take t rs) ≡ true → Err (Repeated (t + 1)) ≡ fault panel rs
  unfolding fault_from
  judging_repeated e f = rw (add-one t) (rw (drop-cons rs t d h, e, f, seen) at j.rest)

  pub judging_on : term_right panel (get_or rs t d) ≡ true → any (alike (get_or rs t d)) (take t rs) ≡ false → Judging panel rs (t + 1)
  unfolding fault_from
  judging_on e f = record { within = omega arith; rest = rw (add-one t, take-suc rs t d h) (rw (drop-cons rs t d h, e, f) at j.rest) }

pub judging_ends : {panel : Panel} {rs : List Record} {t : ℕ} → Judging panel rs t → length rs ≤ t → Ok tt ≡ fault panel rs
unfolding fault_from
judging_ends {panel} {rs} {t} j h = rw (drop_of_length-le rs h) at j.rest

-- the same at the bytes
module _ (bytes : List ℕ) {panel : Panel} {t : ℕ} (j : Judging panel (records bytes) t) (h : t < length bytes / term_bytes) where
  is : get_or (records bytes) t (record_at bytes t) ≡ record_at bytes t
  is = records_at bytes t (record_at bytes t) h

  inside : t < length (records bytes)
  inside = rw (records_length bytes) h

  pub records_wrong : term_right panel (record_at bytes t) ≡ false → Err (Wrong (t + 1)) ≡ fault panel (records bytes)
  records_wrong e = judging_wrong (record_at bytes t) j inside (ap (term_right panel) is ∙ e)

  pub records_repeated : term_right panel (record_at bytes t) ≡ true → any (alike (record_at bytes t)) (take t (records bytes)) ≡ true → Err (Repeated (t + 1)) ≡ fault panel (records bytes)
  records_repeated e f = judging_repeated (record_at bytes t) j inside (ap (term_right panel) is ∙ e) (ap (λ (r : Record). any (alike r) (take t (records bytes))) is ∙ f)

  pub records_on : term_right panel (record_at bytes t) ≡ true → any (alike (record_at bytes t)) (take t (records bytes)) ≡ false → Judging panel (records bytes) (t + 1)
  records_on e f = judging_on (record_at bytes t) j inside (ap (term_right panel) is ∙ e) (ap (λ (r : Record). any (alike r) (take t (records bytes))) is ∙ f)

-- ---- the records before number t
module _ (bytes : List ℕ) (t : ℕ) (h : term_bytes * t + term_bytes ≤ length bytes) where
  pub earlier_length : length (take t (records bytes)) ≡ t
  earlier_length = length-take-le t (records bytes) (omega (arith, records_length bytes))

  pub earlier_at : (u : ℕ) (d : Record) → u < t → get_or (take t (records bytes)) u d ≡ record_at bytes u
  earlier_at u d k = get_or-take t (records bytes) u d k ∙ records_at bytes u d (omega arith)
