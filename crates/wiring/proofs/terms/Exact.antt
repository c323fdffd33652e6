-- When each refusal of the term records is said, exactly: every rule in plain equations and inequalities, and which record decides.
-- Assumes nothing.
use Rattle.std.specs.Prelude.{Result, Ok, Err, ⊤}
use Rattle.wiring.specs.declared.terms.Fault.{Fault}
use mathlib.Core.Path.{◌≡◌, refl, sym, ap, ◌∙◌, subst}
use mathlib.Core.Logic.{◌↔◌}
use mathlib.Core.Bool.{true, not, ◌&&◌}
use mathlib.Core.List.{List}
use Prim.Native.Nat.{ℕ, zero, suc, ◌+◌, ◌%◌, ◌≤◌, ◌<◌}
use native.Mathlib.Omega.{arith}
use native.Mathlib.Numerals.{add-one}
use borrow.Author.Tests.{le-leb, eq-eqb, eqb-true, eqb-false}
use lib.Dec.{T, eqb, leb, eqb→eq, leb→le, le→leb, T_not, not_T}
use lib.IntN.{ℤ, pos, nat_abs}
use lib.ListN.{length, get_or, take}
use lib.Seq.{length-take-le, get_or-take}
use Rattle.monomial.specs.Lists.{any, place}
use Rattle.monomial.proofs.Tests.{Tested, passed, failed, test, T→is, is→T, n_t→is, is→n_t, and_l, and_r, and_i}
use Rattle.monomial.proofs.Members.{any_in}
use Rattle.monomial.proofs.Counting.{place_lt, place_passes, at_in}
use Rattle.wiring.specs.Panel.{term_bytes, terms_bytes, most_coefficient, term_exponent}
use Rattle.wiring.specs.declared.panel.Panel.{Panel}
use Rattle.wiring.specs.Coefficient.{is_zero}
use Rattle.wiring.specs.Terms.{Record, length_right, coefficient_right, term_right, alike, fault}
use Rattle.wiring.specs.declared.terms.Fault.TheVariants.{Wrong, Repeated}
use Rattle.wiring.specs.Claims.{Measured, Keeps, Alike, Fine, Breaks, Repeats, Flawless}
use Rattle.wiring.proofs.Poly.{zero_is, is-zero}
use Rattle.wiring.proofs.terms.Laws.{wrong_clean, repeated_clean, exponents_in, exponents_everywhere, Fields, fields_in, fields_out, alike_in, alike_out, Judging, judging_start, judging_wrong, judging_repeated, judging_on, judging_ends}

-- ---- the length
pub length_exact : (bytes : List ℕ) → (length_right bytes ≡ true) ↔ Measured bytes
unfolding length_right
length_exact bytes = (out, λ m. rw (eq-eqb (length bytes % term_bytes) 0 m.divided, le-leb (length bytes) terms_bytes m.limited))
  where
    out : (eqb (length bytes % term_bytes) 0 && leb (length bytes) terms_bytes) ≡ true → Measured bytes
    out e =
        let t = is→T (eqb (length bytes % term_bytes) 0 && leb (length bytes) terms_bytes) e in
        record {
          divided = eqb→eq (length bytes % term_bytes) 0 (and_l (eqb (length bytes % term_bytes) 0) (leb (length bytes) terms_bytes) t);
          limited = leb→le (length bytes) terms_bytes (and_r (eqb (length bytes % term_bytes) 0) (leb (length bytes) terms_bytes) t);
        }

-- ---- a record's rule, field by field
pub coefficient_exact : (c : ℤ) → T (coefficient_right c) ↔ ((c ≡ pos 0 → ⊥) × (nat_abs c ≤ most_coefficient))
unfolding coefficient_right
coefficient_exact c = (
  (λ t. ((λ e. T_not (is_zero c) (and_l (not (is_zero c)) (leb (nat_abs c) most_coefficient) t) (is-zero c e)), leb→le (nat_abs c) most_coefficient (and_r (not (is_zero c)) (leb (nat_abs c) most_coefficient) t))),
  (λ h. and_i (not (is_zero c)) (leb (nat_abs c) most_coefficient) (not_T (is_zero c) (λ t. h.0 (zero_is c t))) (le→leb (nat_abs c) most_coefficient h.1)),
)

keeps_out : (panel : Panel) (r : Record) → Fields panel r → Keeps panel r
keeps_out panel r f =
    let fit = exponents_everywhere term_exponent panel.n r.monomial f.exponents in
    let range = (coefficient_exact r.coefficient).0 f.coefficient in
    record { low = f.low; high = f.high; unfed = f.unfed; blank = f.blank; small = λ i. (fit i).small; beyond = λ i h. (fit i).zero h; nonzero = range.0; limited = range.1 }

keeps_in : (panel : Panel) (r : Record) → Keeps panel r → Fields panel r
keeps_in panel r k = record {
  low = k.low;
  high = k.high;
  unfed = k.unfed;
  blank = k.blank;
  exponents = exponents_in term_exponent panel.n r.monomial (λ i h. record { small = k.small i; zero = k.beyond i });
  coefficient = (coefficient_exact r.coefficient).1 (k.nonzero, k.limited);
}

pub term_exact : (panel : Panel) (r : Record) → (term_right panel r ≡ true) ↔ Keeps panel r
term_exact panel r = ((λ e. keeps_out panel r (fields_out panel r (is→T (term_right panel r) e))), (λ k. T→is (term_right panel r) (fields_in panel r (keeps_in panel r k))))

-- ---- the three answers are apart, and each tells its place
wrong_repeated : {C : Type 0} {p q : ℕ} → ◌≡◌ {A = Result ⊤ Fault} (Err (Wrong p)) (Err (Repeated q)) → C
wrong_repeated e = let z : ◌≡◌ {A = ℕ} 0 1 = cc in let y : ⊥ = omega arith in absurd y

wrong_same : {p q : ℕ} → ◌≡◌ {A = Result ⊤ Fault} (Err (Wrong p)) (Err (Wrong q)) → p ≡ q
wrong_same e = cc

repeated_same : {p q : ℕ} → ◌≡◌ {A = Result ⊤ Fault} (Err (Repeated p)) (Err (Repeated q)) → p ≡ q
repeated_same e = cc

-- ---- which record decides. Records are numbered from 0; d stands for a record beyond the last, of which nothing is said
module _ (panel : Panel) (rs : List Record) (d : Record) where
  abbrev at : ℕ → Record
  at i = get_or rs i d

  -- ---- the tests
  repeated_out : (i : ℕ) → i ≤ length rs → T (any (alike (at i)) (take i rs)) → (j : ℕ) × (j < i) × Alike panel rs d i j
  repeated_out i h t =
      let l : length (take i rs) ≡ i = length-take-le i rs h in
      let j = place (alike (at i)) (take i rs) in
      let less : j < length (take i rs) = place_lt (alike (at i)) (take i rs) t in
      let like = place_passes (alike (at i)) (take i rs) d t in
      let k : j < i = omega arith in
      let own = alike_out (at i) (at j) (subst (λ (r : Record). T (alike (at i) r)) (get_or-take i rs j d k) like) in
      (j, k, record { equations = own.0; monomials = own.1 })

  repeated_in : (i j : ℕ) → j < i → i ≤ length rs → Alike panel rs d i j → T (any (alike (at i)) (take i rs))
  repeated_in i j k h a =
      let l : length (take i rs) ≡ i = length-take-le i rs h in
      let like = subst (λ (r : Record). T (alike (at i) r)) (sym (get_or-take i rs j d k)) (alike_in (at i) (at j) a.equations a.monomials) in
      any_in (alike (at i)) (at_in (take i rs) j d (omega arith)) like

  -- ---- the loop comes to record i where those before it are fine
  judged : (i : ℕ) → i ≤ length rs → ((j : ℕ) → j < i → Fine panel rs d j) → Judging panel rs i
  judged zero h f = judging_start panel rs
  judged (suc i) h f =
      let own = f i (omega arith) in
      let new = n_t→is (any (alike (at i)) (take i rs)) (λ t. let e = repeated_out i (omega arith) t in own.new e.0 e.1 e.2) in
      subst (Judging panel rs) (add-one i) (judging_on d (judged i (omega arith) (λ j k. f j (omega arith))) (omega arith) ((term_exact panel (at i)).1 own.keeps) new)

  wrong_says : (p : ℕ) → Breaks panel rs d p → fault panel rs ≡ Err (Wrong p)
  wrong_says p b =
      let i = b.number in
      let bad = n_t→is (term_right panel (at i)) (λ t. b.wrong ((term_exact panel (at i)).0 (T→is (term_right panel (at i)) t))) in
      let c = b.counted in
      sym (judging_wrong d (judged i (omega arith) b.before) c bad) ∙ ap {B = Result ⊤ Fault} (λ (k : ℕ). Err (Wrong k)) (add-one i ∙ sym b.place)

  repeated_says : (p : ℕ) → Repeats panel rs d p → fault panel rs ≡ Err (Repeated p)
  repeated_says p b =
      let i = b.number in
      let c = b.counted in
      let seen = T→is (any (alike (at i)) (take i rs)) (repeated_in i b.earlier b.sooner (omega arith) b.same) in
      sym (judging_repeated d (judged i (omega arith) b.before) c ((term_exact panel (at i)).1 b.keeps) seen) ∙ ap {B = Result ⊤ Fault} (λ (k : ℕ). Err (Repeated k)) (add-one i ∙ sym b.place)

  clean_says : Flawless panel rs d → fault panel rs ≡ Ok tt
  clean_says f =
      let all = judged (length rs) (omega arith) (λ j k. record { keeps = f.keeps j k; new = λ i h. f.apart j i h k }) in
      sym (judging_ends all (omega arith))

  -- ---- one of the three is so
  data Verdict : Type 0 where
    flawless : Flawless panel rs d → Verdict
    breaks : (p : ℕ) → Breaks panel rs d p → Verdict
    repeats : (p : ℕ) → Repeats panel rs d p → Verdict

  verdict_from : (left i : ℕ) → i + left ≡ length rs → ((j : ℕ) → j < i → Fine panel rs d j) → Verdict
  verdict_from zero i e f = flawless (record { keeps = λ j k. (f j (omega arith)).keeps; apart = λ j h k l. (f j (omega arith)).new h k })
  verdict_from (suc left) i e f = go (test (term_right panel (at i))) (test (any (alike (at i)) (take i rs))) (verdict_from left (suc i) (omega arith))
    where
      go : Tested (term_right panel (at i)) → Tested (any (alike (at i)) (take i rs)) → (((j : ℕ) → j < suc i → Fine panel rs d j) → Verdict) → Verdict
      go (failed p) q ih =
          let wrong : Keeps panel (at i) → ⊥ = λ k. is→n_t (term_right panel (at i)) p (is→T (term_right panel (at i)) ((term_exact panel (at i)).1 k)) in
          breaks (suc i) (record { number = i; counted = omega arith; place = refl; wrong = wrong; before = f })
      go (passed p) (passed q) ih =
          let r = repeated_out i (omega arith) (is→T (any (alike (at i)) (take i rs)) q) in
          repeats (suc i) (record { number = i; counted = omega arith; place = refl; keeps = (term_exact panel (at i)).0 p; earlier = r.0; sooner = r.1; same = r.2; before = f })
      go (passed p) (failed q) ih = ih (λ j h. pick j h (test (eqb j i)))
        where
          own : Fine panel rs d i
          own = record { keeps = (term_exact panel (at i)).0 p; new = λ j h a. is→n_t (any (alike (at i)) (take i rs)) q (repeated_in i j h (omega arith) a) }

          pick : (j : ℕ) → j < suc i → Tested (eqb j i) → Fine panel rs d j
          pick j h (passed w) = subst (Fine panel rs d) (sym (eqb-true j i w)) own
          pick j h (failed w) = let x : j ≡ i → ⊥ = eqb-false j i w in f j (omega arith)

  verdict : Verdict
  verdict = verdict_from (length rs) 0 (omega arith) (λ j h. absurd (omega arith))

  -- ---- each answer is given exactly where its condition holds
  pub wrong_exact : (p : ℕ) → (fault panel rs ≡ Err (Wrong p)) ↔ Breaks panel rs d p
  wrong_exact p = (out verdict, wrong_says p)
    where
      out : Verdict → fault panel rs ≡ Err (Wrong p) → Breaks panel rs d p
      out (flawless f) e = wrong_clean (sym e ∙ clean_says f)
      out (breaks q b) e = subst (Breaks panel rs d) (wrong_same (sym (wrong_says q b) ∙ e)) b
      out (repeats q b) e = wrong_repeated (sym e ∙ repeated_says q b)

  pub repeated_exact : (p : ℕ) → (fault panel rs ≡ Err (Repeated p)) ↔ Repeats panel rs d p
  repeated_exact p = (out verdict, repeated_says p)
    where
      out : Verdict → fault panel rs ≡ Err (Repeated p) → Repeats panel rs d p
      out (flawless f) e = repeated_clean (sym e ∙ clean_says f)
      out (breaks q b) e = wrong_repeated (sym (wrong_says q b) ∙ e)
      out (repeats q b) e = subst (Repeats panel rs d) (repeated_same (sym (repeated_says q b) ∙ e)) b

  pub clean_exact : (fault panel rs ≡ Ok tt) ↔ Flawless panel rs d
  clean_exact = (out verdict, clean_says)
    where
      out : Verdict → fault panel rs ≡ Ok tt → Flawless panel rs d
      out (flawless f) e = f
      out (breaks q b) e = wrong_clean (sym (wrong_says q b) ∙ e)
      out (repeats q b) e = repeated_clean (sym (repeated_says q b) ∙ e)
