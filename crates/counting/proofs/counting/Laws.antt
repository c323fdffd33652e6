-- Multiples by members of V: m is q times a member of V exactly where q divides m and the quotient is in V. Assumes nothing.
use mathlib.Core.Path.{◌≡◌, sym, ap, ◌∙◌, subst}
use mathlib.Core.Bool.{false}
use mathlib.Core.List.{List}
use lib.Dec.{T}
use lib.ListN.{length}
use Rattle.monomial.specs.Lists.{any}
use Rattle.monomial.specs.Monomial.{Mono, width}
use Rattle.monomial.specs.Order.{same}
use Rattle.monomial.specs.Product.{mul}
use Rattle.monomial.specs.Quotient.{divides, quo}
use Rattle.monomial.specs.Claims.{◌∈◌}
use Rattle.monomial.proofs.Tests.{n_t→is, same_test}
use Rattle.monomial.proofs.Members.{Passing, any_in, any_out}
use Rattle.monomial.proofs.order.Laws.{mono_order}
use Rattle.monomial.proofs.order.Ascending.{among_in, among_out}
use Rattle.monomial.proofs.product.Laws.{mul_comm}
use Rattle.monomial.proofs.quotient.Laws.{quo_mul, mul_quo, factor_divides}
use Rattle.wiring.specs.Claims.{Wide}
use Rattle.counting.specs.Counting.{shares}

module _ (v : List Mono) (wide : Wide v) (q m : Mono) (long : length q ≡ width) where
  -- the member of V, and what it makes with q
  pub record Shared : Type 0 where
    pub by : Mono
    pub in_v : by ∈ v
    pub is : mul by q ≡ m

  pub share_out : T (shares v q m) → Shared
  unfolding shares
  share_out t =
      let p : Passing (λ x. same (mul x q) m) v = any_out (λ x. same (mul x q) m) v t in
      record { by = p.entry; in_v = p.member; is = mono_order.same_eq (mul p.entry q) m p.passes }

  pub share_in : (x : Mono) → x ∈ v → mul x q ≡ m → T (shares v q m)
  unfolding shares
  share_in x h e = any_in (λ y. same (mul y q) m) h (subst (λ (z : Mono). T (same (mul x q) z)) e (mono_order.same_refl (mul x q)))

  -- q divides its multiples, and the quotient is the member
  pub share_divides : T (shares v q m) → T (divides q m)
  share_divides t =
      let s : Shared = share_out t in
      let e : mul q s.by ≡ m = mul_comm q s.by ∙ s.is in
      subst (λ (z : Mono). T (divides q z)) e (factor_divides q s.by (long ∙ sym (wide s.by s.in_v)))

  pub share_none : divides q m ≡ false → false ≡ shares v q m
  share_none e = sym (n_t→is (shares v q m) (λ t. subst T e (share_divides t)))

  pub share_quotient : T (divides q m) → any (same (quo m q)) v ≡ shares v q m
  share_quotient d = same_test (any (same (quo m q)) v) (shares v q m) into back
    where
      into : T (any (same (quo m q)) v) → T (shares v q m)
      into t = share_in (quo m q) (among_out mono_order (quo m q) v t) (mul_comm (quo m q) q ∙ mul_quo q m d)

      back : T (shares v q m) → T (any (same (quo m q)) v)
      back t =
          let s : Shared = share_out t in
          let x : Mono = s.by in
          let e : quo m q ≡ x = ap (λ (z : Mono). quo z q) (sym (mul_comm q x ∙ s.is)) ∙ quo_mul q x (long ∙ sym (wide x s.in_v)) in
          subst (λ (z : Mono). T (any (same z) v)) (sym e) (among_in mono_order s.in_v)
