-- Two loops over the signals, one inside the other, that look for the pair of smallest a, then smallest b, whose product is m. The inner one
-- looks for the quotient of m, where a divides it, and begins at a: with a smaller b the pair would have been found before. Assumes nothing.
use mathlib.Core.Path.{◌≡◌, sym, ap, ◌∙◌, subst}
use mathlib.Core.Bool.{Bool, true, false}
use mathlib.Core.List.{List, []}
use Prim.Native.Nat.{ℕ, zero, suc, ◌+◌, ◌<◌, ◌≤◌}
use native.Mathlib.Omega.{arith}
use native.Mathlib.Numerals.{add-one}
use lib.Dec.{T}
use lib.ListN.{length, get_or}
use Rattle.monomial.specs.Lists.{place}
use Rattle.monomial.specs.Monomial.{Mono}
use Rattle.monomial.specs.Order.{same}
use Rattle.monomial.specs.Product.{mul}
use Rattle.monomial.specs.Quotient.{quo, divides}
use Rattle.monomial.specs.Claims.{◌∈◌}
use Rattle.monomial.proofs.Tests.{is→T, is→n_t, n_t→is, T→is, Tested, passed, failed, test}
use Rattle.monomial.proofs.Members.{any_in, any_out, Passing}
use Rattle.monomial.proofs.Counting.{at_in, place_lt, place_any, place_least}
use Rattle.monomial.proofs.Loops.{Placing, placing_start, placing_found, placing_on, placing_ends}
use Rattle.monomial.proofs.order.Laws.{mono_order}
use Rattle.monomial.proofs.product.Laws.{mul_comm}
use Rattle.monomial.proofs.quotient.Laws.{quo_mul, factor_divides, mul_quo}
use Rattle.wiring.specs.Poly.{plain}
use Rattle.wiring.specs.Quadratic.{factor, in_v2}
use Rattle.wiring.specs.Wires.{first_of, second_of}

-- a loop may begin at i where nothing before it passes
pub placing_from : {A : Type 0} (f : A → Bool) (d : A) (l : List A) (i : ℕ) → i ≤ length l → ((j : ℕ) → j < i → T (f (get_or l j d)) → ⊥) → Placing f l i
placing_from f d l zero h n = placing_start f l
placing_from f d l (suc i) h n =
    subst (Placing f l) (add-one i)
    (placing_on f d (placing_from f d l i (omega arith) (λ j k. n j (omega arith))) (omega arith) (n_t→is (f (get_or l i d)) (n i (omega arith))))

module _ (v : List Mono) (m : Mono) where
  -- y is the other factor of m beside x
  abbrev pub beside : Mono → Mono → Bool
  beside x y = same (mul x y) m

  -- the outer loop has come to a
  abbrev pub PairRow : ℕ → Type 0
  PairRow a = Placing (factor plain v m) v a

  beside_factor : (x y : Mono) (j : ℕ) → j < length v → T (beside x (get_or v j [])) → T (factor plain v m x)
  unfolding factor
  beside_factor x y j h t = any_in (beside x) (at_in v j [] h) t

  -- where x divides m, the other factor is the quotient
  pub beside_quotient : (x y : Mono) → length x ≡ length y → T (divides x m) → same y (quo m x) ≡ beside x y
  beside_quotient x y l d = go (test (beside x y))
    where
      go : Tested (beside x y) → same y (quo m x) ≡ beside x y
      go (passed e) =
          let product : mul x y ≡ m = mono_order.same_eq (mul x y) m (is→T (beside x y) e) in
          let other : y ≡ quo m x = sym (quo_mul x y l) ∙ ap (λ (p : Mono). quo p x) product in
          T→is (same y (quo m x)) (subst (λ (q : Mono). T (same y q)) other (mono_order.same_refl y)) ∙ sym e
      go (failed e) =
          n_t→is (same y (quo m x))
          (λ t. is→n_t (beside x y) e (subst (λ (p : Mono). T (same p m)) (sym (ap (mul x) (mono_order.same_eq y (quo m x) t) ∙ mul_quo x m d)) (mono_order.same_refl m)))
          ∙ sym e

  module _ (a : ℕ) (h : a < length v) (o : PairRow a) where
    -- a signal that does not divide m is in no pair
    pub row_skips : ((y : Mono) → y ∈ v → length (get_or v a []) ≡ length y) → divides (get_or v a []) m ≡ false → PairRow (a + 1)
    unfolding factor
    row_skips long e =
        placing_on (factor plain v m) [] o h (n_t→is (factor plain v m (get_or v a [])) (λ t.
        let p : Passing (beside (get_or v a [])) v = any_out (beside (get_or v a [])) v t in
        let product : mul (get_or v a []) p.entry ≡ m = mono_order.same_eq (mul (get_or v a []) p.entry) m p.passes in
        is→n_t (divides (get_or v a []) m) e (subst (λ (q : Mono). T (divides (get_or v a []) q)) product (factor_divides (get_or v a []) p.entry (long p.entry p.member)))))

    -- a pair of a and an earlier b would be one of b and a
    earlier : (j : ℕ) → j < a → T (beside (get_or v a []) (get_or v j [])) → ⊥
    earlier j k t =
        let turned : T (beside (get_or v j []) (get_or v a [])) = subst (λ (p : Mono). T (same p m)) (mul_comm (get_or v a []) (get_or v j [])) t in
        let r = o.rest in
        place_least (factor plain v m) v [] j (omega arith) (beside_factor (get_or v j []) (get_or v a []) a h turned)

    pub row_start : Placing (beside (get_or v a [])) v a
    row_start = placing_from (beside (get_or v a [])) [] v a (omega arith) earlier

    -- the inner loop ends without a pair
    pub row_ends : (b : ℕ) → Placing (beside (get_or v a [])) v b → length v ≤ b → PairRow (a + 1)
    unfolding factor
    row_ends b i k =
        let e : place (beside (get_or v a [])) v ≡ length v = placing_ends (beside (get_or v a [])) i k in
        placing_on (factor plain v m) [] o h
        (n_t→is (factor plain v m (get_or v a [])) (λ t. let l : place (beside (get_or v a [])) v < length v = place_lt (beside (get_or v a [])) v t in omega arith))

    -- or finds one
    module _ (b : ℕ) (k : b < length v) (i : Placing (beside (get_or v a [])) v b) (t : beside (get_or v a []) (get_or v b []) ≡ true) where
      pub pair_first : a ≡ first_of plain v m
      unfolding first_of
      pair_first =
          placing_found (factor plain v m) [] o h
          (T→is (factor plain v m (get_or v a [])) (beside_factor (get_or v a []) (get_or v b []) b k (is→T (beside (get_or v a []) (get_or v b [])) t)))

      pub pair_second : b ≡ second_of plain v m
      unfolding second_of
      pair_second =
          placing_found (beside (get_or v a [])) [] i k t
          ∙ ap (λ (n : ℕ). place (λ y. same (mul (get_or v n []) y) m) v) pair_first

      pub pair_in : T (in_v2 plain v m)
      unfolding in_v2 first_of
      pair_in = place_any (factor plain v m) v (let e = pair_first in omega arith)

  -- a product in V2 is found before the outer loop ends
  pub pair_there : (a : ℕ) → PairRow a → length v ≤ a → T (in_v2 plain v m) → ⊥
  unfolding in_v2
  pair_there a o h t =
      let e : place (factor plain v m) v ≡ length v = placing_ends (factor plain v m) o h in
      let l : place (factor plain v m) v < length v = place_lt (factor plain v m) v t in
      omega arith
