-- How long the wiring list can be: at most one record for each term of the derivatives. Assumes nothing.
use mathlib.Core.Path.{◌≡◌, refl, sym, ap, ◌∙◌}
use mathlib.Core.Bool.{Bool, true, false, not, cond}
use mathlib.Core.List.{List, [], ◌∷◌, ◌++◌, map}
use Prim.Native.Nat.{ℕ, zero, suc, ◌+◌, ◌*◌, ◌<◌, ◌≤◌}
use native.Mathlib.Nat.{mul-le-mul_left, mul-le-mul_right, le_of_eq}
use native.Mathlib.Omega.{arith}
use borrow.Author.Tests.{eqb-true}
use lib.Dec.{T, T_not, not_T, eqb, ltb, eqb→eq, ltb→lt}
use lib.IntN.{pos, ◌*ℤ◌}
use lib.ListN.{length, get_or, take, drop, length-map, length-append, take-append-drop}
use Rattle.monomial.specs.Lists.{keep, arrange_by, below}
use Rattle.monomial.specs.Monomial.{Mono, one, vars, constants, width}
use Rattle.monomial.specs.Claims.{◌∈◌, Ascending}
use Rattle.monomial.proofs.Tests.{cond_cases, Tested, passed, failed, test}
use Rattle.monomial.proofs.Members.{keep_none, keep_no, keep_append, keep_length, fill_at}
use Rattle.monomial.proofs.Counting.{below_asc}
use Rattle.monomial.proofs.order.Ascending.{head_first, tail_asc, arrange_length}
use Rattle.monomial.proofs.Variables.{vars_one}
use Rattle.wiring.specs.Panel.{cards, most_terms, most_wires}
use Rattle.wiring.specs.Coefficient.{is_zero}
use Rattle.wiring.specs.Poly.{Kind, Term, Poly, plain, coeff, monos, support, times}
use Rattle.wiring.specs.Derivative.{part, parts_from, derivative}
use Rattle.wiring.specs.Quadratic.{members}
use Rattle.wiring.specs.Signals.{signals}
use Rattle.wiring.specs.Terms.{Record, equation, system}
use Rattle.wiring.specs.Wires.{Wire, row, rows_from, wiring}
use Rattle.wiring.proofs.derivative.Rules.{Parted, absent, present, parted}
use Rattle.wiring.proofs.Poly.{zero_is, is-zero}
use Rattle.wiring.proofs.wires.Laws.{wire}

-- the terms of a system
unfoldable pub term_count : {M : Type 0} → List (Poly M) → ℕ
term_count [] = 0
term_count (f ∷ fs) = length f + term_count fs

-- z has variable number i in it, and those of a list that do: only they have terms from equation i
abbrev raised : {M : Type 0} → Kind M → ℕ → M → Bool
raised k i z = not (is_zero (k.power z i))

abbrev pub hits : {M : Type 0} → Kind M → ℕ → List M → List M
hits k i l = keep (raised k i) l

module _ {M : Type 0} (k : Kind M) where
  row_length : (v : List M) (i : ℕ) (p : Poly M) → length (row k v i p) ≤ length p
  unfolding row support
  row_length v i p =
      let f : M → Bool = λ m. not (is_zero (coeff k p m)) in
      let e : length (map (wire k v i p) (support k p)) ≡ length (support k p) = length-map (support k p) (wire k v i p) in
      let h : length (arrange_by k.same k.before (keep f (monos p))) ≤ length (keep f (monos p)) = arrange_length k.same k.before (keep f (monos p)) in
      let q : length (keep f (monos p)) ≤ length (monos p) = keep_length f (monos p) in
      let l : length (monos p) ≡ length p = length-map p (λ (t : Term M). t.1) in
      omega arith

  -- the terms of the derivatives of a list of monomials by equations from number i on
  unfoldable lengths : List (Poly M) → ℕ → List M → ℕ
  lengths fs i [] = 0
  lengths fs i (z ∷ l) = length (parts_from k i z fs) + lengths fs i l

  rows_length : (fs : List (Poly M)) (v : List M) (i : ℕ) (l : List M) → length (rows_from k v (derivative k fs) i l) ≤ lengths fs 0 l
  unfolding rows_from lengths derivative
  rows_length fs v i [] = omega arith
  rows_length fs v i (z ∷ l) =
      let rest : List Wire = rows_from k v (derivative k fs) (suc i) l in
      let ih : length rest ≤ lengths fs 0 l = rows_length fs v (suc i) l in
      let r : List Wire = row k v i (derivative k fs z) in
      let e : length (r ++ rest) ≡ length r + length rest = length-append r rest in
      let h : length r ≤ length (derivative k fs z) = row_length v i (derivative k fs z) in
      omega arith

  part_none : (i : ℕ) (z : M) (f : Poly M) → (T (raised k i z) → ⊥) → length (part k i z f) ≡ 0
  part_none i z f n = go (parted k i z f)
    where
      go : Parted k i z f → length (part k i z f) ≡ 0
      go (absent e p) = ap length p
      go (present m p) = absurd (n (not_T (is_zero (k.power z i)) (λ t. m (zero_is (k.power z i) t))))

  part_length : (i : ℕ) (z : M) (f : Poly M) → length (part k i z f) ≤ length f
  unfolding times
  part_length i z f = go (parted k i z f)
    where
      go : Parted k i z f → length (part k i z f) ≤ length f
      go (absent e p) = rw p (omega arith)
      go (present n p) = rw p (le_of_eq (length-map f (λ t. (k.power z i *ℤ t.0, k.mul (k.over z i) t.1))))

  lengths_next : (f : Poly M) (fs : List (Poly M)) (i : ℕ) (l : List M) → lengths (f ∷ fs) i l ≤ length (hits k i l) * length f + lengths fs (suc i) l
  unfolding lengths parts_from keep
  lengths_next f fs i [] = omega arith
  lengths_next f fs i (z ∷ l) =
      let ih : lengths (f ∷ fs) i l ≤ length (hits k i l) * length f + lengths fs (suc i) l = lengths_next f fs i l in
      let a : Poly M = part k i z f in
      let b : Poly M = parts_from k (suc i) z fs in
      let e : length (a ++ b) ≡ length a + length b = length-append a b in
      cond_cases (λ (r : List M). length (a ++ b) + lengths (f ∷ fs) i l ≤ length r * length f + (length b + lengths fs (suc i) l))
      (raised k i z) (z ∷ hits k i l) (hits k i l)
      (λ t. let h : length a ≤ length f = part_length i z f in omega arith)
      (λ n. let h : length a ≡ 0 = part_none i z f n in omega arith)

  lengths_none : (i : ℕ) (l : List M) → lengths [] i l ≡ 0
  unfolding lengths parts_from
  lengths_none i [] = refl
  lengths_none i (z ∷ l) = let ih : lengths [] i l ≡ 0 = lengths_none i l in omega arith

  lengths_bound : (c : ℕ) (fs : List (Poly M)) (i : ℕ) (l : List M) → ((j : ℕ) → length (hits k j l) ≤ c) → lengths fs i l ≤ c * term_count fs
  unfolding term_count
  lengths_bound c [] i l h = let e : lengths [] i l ≡ 0 = lengths_none i l in omega arith
  lengths_bound c (f ∷ fs) i l h =
      let n : lengths (f ∷ fs) i l ≤ length (hits k i l) * length f + lengths fs (suc i) l = lengths_next f fs i l in
      let q : length (hits k i l) * length f ≤ c * length f = mul-le-mul_right (length f) (h i) in
      let ih : lengths fs (suc i) l ≤ c * term_count fs = lengths_bound c fs (suc i) l h in
      omega arith

  -- each variable is in at most one of 1 and the variables, and in as many new monomials as there are at the most
  hits_take : (j n : ℕ) (l : List M) → length (hits k j (take n l)) ≤ length (hits k j l)
  hits_take j n l =
      let e : hits k j l ≡ hits k j (take n l) ++ hits k j (drop n l) = ap (hits k j) (sym (take-append-drop n l)) ∙ keep_append (raised k j) (take n l) (drop n l) in
      let h : length (hits k j l) ≡ length (hits k j (take n l)) + length (hits k j (drop n l)) = ap length e ∙ length-append (hits k j (take n l)) (hits k j (drop n l)) in
      omega arith

  hits_members : (w n : ℕ) (s : List M) (j : ℕ) → length (hits k j (k.one w ∷ k.vars w)) ≤ 1 → length (hits k j (members k w n s)) ≤ suc (length s)
  hits_members w n s j d =
      let front : List M = take (suc n) (k.one w ∷ k.vars w) in
      let a : length (hits k j (front ++ s)) ≡ length (hits k j front) + length (hits k j s) =
      ap length (keep_append (raised k j) front s) ∙ length-append (hits k j front) (hits k j s) in
      let b : length (hits k j front) ≤ length (hits k j (k.one w ∷ k.vars w)) = hits_take j (suc n) (k.one w ∷ k.vars w) in
      let e : length (hits k j s) ≤ length s = keep_length (raised k j) s in
      omega arith

  -- one record for each term of the system, and one more for each new monomial
  pub members_length : (w n : ℕ) (fs : List (Poly M)) (s : List M) → ((j : ℕ) → length (hits k j (k.one w ∷ k.vars w)) ≤ 1)
      → length (wiring k (members k w n s) (derivative k fs)) ≤ suc (length s) * term_count fs
  unfolding wiring
  members_length w n fs s d =
      let v : List M = members k w n s in
      let a : length (rows_from k v (derivative k fs) 0 v) ≤ lengths fs 0 v = rows_length fs v 0 v in
      let b : lengths fs 0 v ≤ suc (length s) * term_count fs = lengths_bound (suc (length s)) fs 0 v (λ j. hits_members w n s j (d j)) in
      omega arith

-- ---- the panel's kind
one_missed : (w j : ℕ) → T (raised plain j (one w)) → ⊥
one_missed w j t = T_not (is_zero (pos (get_or (one w) j 0))) t (is-zero (pos (get_or (one w) j 0)) (ap pos (fill_at 0 w j)))

raised_above : (j : ℕ) (x : Mono) → T (raised plain j x) → 0 < get_or x j 0
raised_above j x t = go (get_or x j 0) refl
  where
    go : (e : ℕ) → get_or x j 0 ≡ e → 0 < get_or x j 0
    go zero q = absurd (T_not (is_zero (pos (get_or x j 0))) t (is-zero (pos (get_or x j 0)) (ap pos q)))
    go (suc e) q = omega arith

pub hits_constants : (w j : ℕ) → length (hits plain j (constants w)) ≤ 1
hits_constants w j = rw (keep_no (raised plain j) (one w) (vars w) (one_missed w j)) (vars_one w j (raised plain j) (raised_above j))

pub wiring_length : (w n : ℕ) (fs : List (Poly Mono)) (s : List Mono) → length (wiring plain (signals w n s) (derivative plain fs)) ≤ suc (length s) * term_count fs
unfolding signals
wiring_length w n fs s = members_length plain w n fs s (hits_constants w)

-- a record is in one equation at the most
own_count : (e : ℕ) (l : List ℕ) → Ascending ltb l → length (keep (λ i. eqb e (suc i)) l) ≤ 1
unfolding keep
own_count e [] a = omega arith
own_count e (i ∷ l) a = go (test (eqb e (suc i))) (own_count e l (tail_asc a))
  where
    behind : e ≡ suc i → (j : ℕ) → j ∈ l → T (eqb e (suc j)) → ⊥
    behind q j h t = let b : i < j = ltb→lt i j (head_first a j h) in let k : e ≡ suc j = eqb→eq e (suc j) t in omega arith

    go : Tested (eqb e (suc i)) → length (keep (λ i. eqb e (suc i)) l) ≤ 1 → length (keep (λ i. eqb e (suc i)) (i ∷ l)) ≤ 1
    go (passed q) ih = rw (q, keep_none (λ i. eqb e (suc i)) l (behind (eqb-true e (suc i) q))) (omega arith)
    go (failed q) ih = rw q ih

equation_next : (r : Record) (rs : List Record) (i : ℕ) → length (equation (r ∷ rs) i) ≡ cond (eqb r.equation (suc i)) 1 0 + length (equation rs i)
unfolding equation keep
equation_next r rs i = go (test (eqb r.equation (suc i)))
  where
    go : Tested (eqb r.equation (suc i)) → length (equation (r ∷ rs) i) ≡ cond (eqb r.equation (suc i)) 1 0 + length (equation rs i)
    go (passed e) = rw e (omega arith)
    go (failed e) = rw e (omega arith)

system_next : (r : Record) (rs : List Record) (l : List ℕ)
    → term_count (map (equation (r ∷ rs)) l) ≡ length (keep (λ i. eqb r.equation (suc i)) l) + term_count (map (equation rs) l)
unfolding term_count keep
system_next r rs [] = omega arith
system_next r rs (i ∷ l) =
    let f : ℕ → Bool = λ j. eqb r.equation (suc j) in
    let ih : term_count (map (equation (r ∷ rs)) l) ≡ length (keep f l) + term_count (map (equation rs) l) = system_next r rs l in
    let e : length (equation (r ∷ rs) i) ≡ cond (f i) 1 0 + length (equation rs i) = equation_next r rs i in
    let k : length (cond (f i) (i ∷ keep f l) (keep f l)) ≡ cond (f i) 1 0 + length (keep f l) = counted (f i) i (keep f l) in
    omega arith
  where
    counted : (b : Bool) (x : ℕ) (q : List ℕ) → length (cond b (x ∷ q) q) ≡ cond b 1 0 + length q
    counted true x q = omega arith
    counted false x q = omega arith

terms_none : (l : List ℕ) → term_count (map (equation []) l) ≡ 0
unfolding term_count equation keep
terms_none [] = refl
terms_none (i ∷ l) = let ih : term_count (map (equation []) l) ≡ 0 = terms_none l in omega arith

terms-of : (l : List ℕ) → Ascending ltb l → (rs : List Record) → term_count (map (equation rs) l) ≤ length rs
terms-of l a [] = le_of_eq (terms_none l)
terms-of l a (r ∷ rs) =
    let ih : term_count (map (equation rs) l) ≤ length rs = terms-of l a rs in
    let e = system_next r rs l in
    let k = own_count r.equation l a in
    omega arith

pub system_terms : (rs : List Record) → term_count (system rs) ≤ length rs
unfolding system
system_terms rs = terms-of (below width) (below_asc width) rs

pub wiring_records : (n : ℕ) (rs : List Record) (s : List Mono) → length (wiring plain (signals width n s) (derivative plain (system rs))) ≤ suc (length s) * length rs
wiring_records n rs s =
    let a : length (wiring plain (signals width n s) (derivative plain (system rs))) ≤ suc (length s) * term_count (system rs) = wiring_length width n (system rs) s in
    let b : suc (length s) * term_count (system rs) ≤ suc (length s) * length rs = mul-le-mul_left (suc (length s)) (system_terms rs) in
    omega arith

-- with 32 records and six monomials
pub wiring_most : (n : ℕ) (rs : List Record) (s : List Mono) → length rs ≤ most_terms → length s ≤ cards
    → length (wiring plain (signals width n s) (derivative plain (system rs))) ≤ most_wires
wiring_most n rs s h k =
    let a : length (wiring plain (signals width n s) (derivative plain (system rs))) ≤ suc (length s) * length rs = wiring_records n rs s in
    let b : suc (length s) * length rs ≤ suc cards * length rs = mul-le-mul_right (length rs) (omega arith) in
    omega arith
