-- V and V2 by division: m is in V when it is low or new, and in V2 when it is low or a new factor leaves it a member of V. Assumes nothing.
use mathlib.Core.Path.{◌≡◌, sym, ap, subst, ◌∙◌}
use mathlib.Core.Logic.{◌⊎◌, ⊎_elim}
use mathlib.Core.Bool.{Bool, true, false, ◌&&◌, ◌||◌}
use mathlib.Core.List.{List}
use Prim.Native.Nat.{ℕ}
use lib.Dec.{T}
use lib.ListN.{length}
use Rattle.monomial.specs.Lists.{any}
use Rattle.monomial.specs.Monomial.{Mono, width}
use Rattle.monomial.specs.Order.{same}
use Rattle.monomial.specs.Product.{mul}
use Rattle.monomial.specs.Quotient.{quo, divides}
use Rattle.monomial.specs.Degree.{low}
use Rattle.monomial.specs.Claims.{◌∈◌}
use Rattle.monomial.proofs.Tests.{and_l, and_r, and_i, or_l, or_r, or_e, same_test}
use Rattle.monomial.proofs.Members.{Passing, any_in, any_out}
use Rattle.monomial.proofs.order.Laws.{mono_order}
use Rattle.monomial.proofs.order.Ascending.{among_in, among_out}
use Rattle.monomial.proofs.product.Laws.{mul_comm}
use Rattle.monomial.proofs.quotient.Laws.{quo_mul, mul_quo, factor_divides}
use Rattle.monomial.proofs.degree.Laws.{low_is, is_low, low_among, LowProduct, low_product, product_low}
use Rattle.wiring.specs.Poly.{plain}
use Rattle.wiring.specs.Quadratic.{in_v2}
use Rattle.wiring.specs.Signals.{signals}
use Rattle.wiring.specs.Claims.{Wide, base}
use Rattle.wiring.proofs.signals.Laws.{base_in, set-in, signals_cases, signals_wide}
use Rattle.wiring.proofs.quadratic.Laws.{Factors, in_v2_in, in_v2_out}

module _ (n : ℕ) (s : List Mono) where
  -- ---- V: 1 and the variables are low, the others are new
  pub signal_among : (m : Mono) → length m ≡ width → any (same m) (signals width n s) ≡ (low n 2 m || any (same m) s)
  signal_among m l = same_test (any (same m) (signals width n s)) (low n 2 m || any (same m) s) out (λ t. into (or_e (low n 2 m) (any (same m) s) t))
    where
      out : T (any (same m) (signals width n s)) → T (low n 2 m || any (same m) s)
      out t =
          ⊎_elim
          (λ h. or_l (low n 2 m) (any (same m) s) (subst T (low_among n width m l) (among_in mono_order h)))
          (λ h. or_r (low n 2 m) (any (same m) s) (among_in mono_order h))
          (signals_cases n s (among_out mono_order m (signals width n s) t))

      into : T (low n 2 m) ⊎ T (any (same m) s) → T (any (same m) (signals width n s))
      into c =
          among_in mono_order
          (⊎_elim (λ t. base_in n s (among_out mono_order m (base n) (subst T (sym (low_among n width m l)) t))) (λ t. set-in n s (among_out mono_order m s t)) c)

  -- low, or else new or nothing
  pub signal_low : (m : Mono) → length m ≡ width → low n 2 m ≡ true → true ≡ any (same m) (signals width n s)
  signal_low m l e = sym (signal_among m l ∙ ap (λ (b : Bool). b || any (same m) s) e)

  pub signal_else : (m : Mono) → length m ≡ width → low n 2 m ≡ false → any (same m) s ≡ any (same m) (signals width n s)
  signal_else m l e = sym (signal_among m l ∙ ap (λ (b : Bool). b || any (same m) s) e)

  -- ---- V2
  -- z divides m, and what it leaves is a member of V
  abbrev pub leaves : Mono → Mono → Bool
  leaves m z = divides z m && any (same (quo m z)) (signals width n s)

  -- z divides m, and q, which it leaves, is looked for; or z does not
  pub leaves_says : (m z q : Mono) (r : Bool) → divides z m ≡ true → q ≡ quo m z → r ≡ any (same q) (signals width n s) → leaves m z ≡ r
  leaves_says m z q r d e f = ap (λ (b : Bool). b && any (same (quo m z)) (signals width n s)) d ∙ ap (λ (x : Mono). any (same x) (signals width n s)) (sym e) ∙ sym f

  pub leaves_not : (m z : Mono) → divides z m ≡ false → leaves m z ≡ false
  leaves_not m z d = ap (λ (b : Bool). b && any (same (quo m z)) (signals width n s)) d

  leaves_out : (m z : Mono) → T (leaves m z) → T (divides z m) × (quo m z ∈ signals width n s)
  leaves_out m z t =
      let found = any (same (quo m z)) (signals width n s) in
      (and_l (divides z m) found t, among_out mono_order (quo m z) (signals width n s) (and_r (divides z m) found t))

  -- a factor of a product leaves the other one
  factor_leaves : (a b : Mono) → length a ≡ length b → b ∈ signals width n s → T (leaves (mul a b) a)
  factor_leaves a b l h =
      let other : T (any (same (quo (mul a b) a)) (signals width n s)) = among_in mono_order (subst (λ (x : Mono). x ∈ signals width n s) (sym (quo_mul a b l)) h) in
      and_i (divides a (mul a b)) (any (same (quo (mul a b) a)) (signals width n s)) (factor_divides a b l) other

  -- a product of two members is low, where both are 1 or variables, or has a new factor; and a member that m divided by a new one leaves makes a product
  pub square_divided : (m : Mono) → Wide s → length m ≡ width → in_v2 plain (signals width n s) m ≡ (low n 3 m || any (leaves m) s)
  square_divided m wide l =
      same_test (in_v2 plain v m) (low n 3 m || any (leaves m) s) (λ t. out (in_v2_out plain mono_order v m t)) (λ t. into (or_e (low n 3 m) (any (leaves m) s) t))
    where
      v : List Mono
      v = signals width n s

      -- a new factor
      new : (a b : Mono) → a ∈ s → b ∈ v → mul a b ≡ m → T (low n 3 m || any (leaves m) s)
      new a b h k e =
          let alike : length a ≡ length b = wide a h ∙ sym (signals_wide n s wide b k) in
          or_r (low n 3 m) (any (leaves m) s) (any_in (leaves m) h (subst (λ (x : Mono). T (leaves x a)) e (factor_leaves a b alike k)))

      -- no new factor
      old : (a b : Mono) → a ∈ base n → b ∈ base n → mul a b ≡ m → T (low n 3 m || any (leaves m) s)
      old a b h k e =
          let p = product_low n width a b h k in
          or_l (low n 3 m) (any (leaves m) s) (subst (λ (x : Mono). T (low n 3 x)) e (is_low n 3 (mul a b) p.0 p.1))

      out : Factors plain mono_order v m → T (low n 3 m || any (leaves m) s)
      out f =
          ⊎_elim
          (λ h. ⊎_elim (λ k. old f.a f.b h k f.is) (λ k. new f.b f.a k f.a_in (mul_comm f.b f.a ∙ f.is)) (signals_cases n s f.b_in))
          (λ h. new f.a f.b h f.b_in f.is)
          (signals_cases n s f.a_in)

      low_factors : LowProduct n width m → Factors plain mono_order v m
      low_factors p = record { a = p.left; b = p.right; a_in = base_in n s p.left-in; b_in = base_in n s p.right_in; is = p.product }

      new_factors : Passing (leaves m) s → Factors plain mono_order v m
      new_factors p =
          let z = p.entry in
          let k = leaves_out m z p.passes in
          record { a = z; b = quo m z; a_in = set-in n s p.member; b_in = k.1; is = mul_quo z m k.0 }

      into : T (low n 3 m) ⊎ T (any (leaves m) s) → T (in_v2 plain v m)
      into c =
          in_v2_in plain mono_order v m
          (⊎_elim (λ t. let k = low_is n 3 m t in low_factors (low_product n width m l k.0 k.1)) (λ t. new_factors (any_out (leaves m) s t)) c)

  -- low, or else a multiple of a new factor or nothing
  pub square_low : (m : Mono) → Wide s → length m ≡ width → low n 3 m ≡ true → true ≡ in_v2 plain (signals width n s) m
  square_low m wide l e = sym (square_divided m wide l ∙ ap (λ (b : Bool). b || any (leaves m) s) e)

  pub square_else : (m : Mono) → Wide s → length m ≡ width → low n 3 m ≡ false → any (leaves m) s ≡ in_v2 plain (signals width n s) m
  square_else m wide l e = sym (square_divided m wide l ∙ ap (λ (b : Bool). b || any (leaves m) s) e)
