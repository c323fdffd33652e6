-- Rules that heed no unused variable: document 01's, any such rules with the cheap pairs first, and any such rules closed by counting, since a variable
-- beyond xn is no monomial that holds none of them and divides none. Assumes nothing.
use mathlib.Core.Path.{◌≡◌, refl, sym, ap₂, ◌∙◌, subst}
use mathlib.Core.Logic.{⊎_elim}
use mathlib.Core.Bool.{Bool, not}
use mathlib.Core.List.Memᴰ
use mathlib.Core.List.{List, ◌++◌}
use Prim.Native.Nat.{ℕ, suc, ◌≤◌}
use native.Mathlib.Omega.{arith}
use lib.Dec.{T}
use lib.ListN.{length}
use Rattle.monomial.specs.Lists.{any}
use Rattle.monomial.specs.Monomial.{Mono, constants, width}
use Rattle.monomial.specs.Order.{same}
use Rattle.monomial.specs.Product.{mul}
use Rattle.monomial.specs.Quotient.{divides}
use Rattle.monomial.specs.Divisors.{pairs}
use Rattle.monomial.specs.Claims.{◌∈◌, ◌⊆◌, IsPair, Within}
use Rattle.monomial.proofs.Tests.{same_test}
use Rattle.monomial.proofs.Members.{keep_same, take_in, take_more}
use Rattle.monomial.proofs.order.Laws.{mono_order}
use Rattle.monomial.proofs.order.Ascending.{among_in, among_out}
use Rattle.monomial.proofs.product.Laws.{mul_comm}
use Rattle.monomial.proofs.quotient.Laws.{factor_divides}
use Rattle.monomial.proofs.divisors.Pairs.{pairs_out}
use Rattle.monomial.proofs.Within.{within_divides}
use Rattle.wiring.specs.Signals.{signals}
use Rattle.wiring.proofs.signals.Laws.{base_in, set-in, signals_cases, signals_divisors}
use Rattle.counting.proofs.Largest.{closes_divisors}
use Rattle.lister.specs.Cheap.{added, cheap, cheap_first}
use Rattle.walk.specs.Walk.{Rules, allowing, cheaply, counted}
use Rattle.walk.specs.Claims.{Heedless}
use Rattle.walk.proofs.Sound.{empty_proper, within_base}

-- ---- document 01's rules with a test of its own for new monomials
pub allowing_heedless : (may : Mono → Bool) (n b : ℕ) → Heedless (allowing may) n b
allowing_heedless may n b = record {
  proper = empty_proper n;
  wide = λ x i. absurd (Memᴰ.not-nil i);
  closing = λ room s ns q w i x. refl;
  trying = λ s m q w i x. refl;
}

-- ---- closed by counting
pub counted_heedless : (r : Rules) (n b : ℕ) → n ≤ b → Heedless r n b → Heedless (counted r) n b
counted_heedless r n b more h = record {
  proper = h.proper;
  wide = h.wide;
  closing = λ room s ns q w i x. closes_divisors r.may room (signals width n s) (signals width b s) ns (λ m k. signals_divisors n b more s m (i m k));
  trying = h.trying;
}

-- ---- V of more variables: more is in it, but nothing more that holds none of them
module _ (n b : ℕ) (more : n ≤ b) (s : List Mono) where
  pub signals_more : signals width n s ⊆ signals width b s
  signals_more x h = ⊎_elim (λ j. base_in b s (take_more (suc n) (suc b) (constants width) (omega arith) j)) (λ j. set-in b s j) (signals_cases n s h)

  pub signals_fewer : (x : Mono) → x ∈ signals width b s → Within n x → x ∈ signals width n s
  signals_fewer x h w = ⊎_elim (λ j. base_in n s (within_base n x (take_in (suc b) (constants width) j) w)) (λ j. set-in n s j) (signals_cases b s h)

  pub signal_same : (x : Mono) → Within n x → any (same x) (signals width n s) ≡ any (same x) (signals width b s)
  signal_same x w =
      same_test (any (same x) (signals width n s)) (any (same x) (signals width b s))
      (λ t. among_in mono_order (signals_more x (among_out mono_order x (signals width n s) t)))
      (λ t. among_in mono_order (signals_fewer x (among_out mono_order x (signals width b s) t) w))

pub factor_within : (n : ℕ) (m x y : Mono) → Within n m → length x ≡ length y → mul x y ≡ m → Within n x
factor_within n m x y w l e = within_divides n x m (subst (λ (z : Mono). T (divides x z)) e (factor_divides x y l)) w

-- the factors of a pair hold no variable that the product does not
pub factors_within : (n : ℕ) (m : Mono) (p : Mono × Mono) → Within n m → p ∈ pairs m → Within n p.0 × Within n p.1
factors_within n m p w h =
    let two : IsPair p m = pairs_out p m h in
    let long : length p.0 ≡ length p.1 = two.left ∙ sym two.right in
    (factor_within n m p.0 p.1 w long two.product, factor_within n m p.1 p.0 w (sym long) (mul_comm p.1 p.0 ∙ two.product))

-- ---- cheap pairs first
module _ (n b : ℕ) (more : n ≤ b) (s : List Mono) (m : Mono) (w : Within n m) where
  cheap_same : (p : Mono × Mono) → p ∈ pairs m → cheap (signals width n s) p ≡ cheap (signals width b s) p
  unfolding cheap added
  cheap_same p h =
      let two = factors_within n m p w h in
      rw (signal_same n b more s p.0 two.0, signal_same n b more s p.1 two.1)

  cheap_first_same : cheap_first (signals width n s) m ≡ cheap_first (signals width b s) m
  unfolding cheap_first
  cheap_first_same =
      ap₂ ◌++◌ (keep_same (cheap (signals width n s)) (cheap (signals width b s)) (pairs m) cheap_same)
      (keep_same (λ p. not (cheap (signals width n s) p)) (λ p. not (cheap (signals width b s) p)) (pairs m) (λ p h. rw (cheap_same p h)))

pub cheaply_heedless : (r : Rules) (n b : ℕ) → n ≤ b → Heedless r n b → Heedless (cheaply r) n b
cheaply_heedless r n b more h = record {
  proper = h.proper;
  wide = h.wide;
  closing = h.closing;
  trying = λ s m q w i x. cheap_first_same n b more s m i;
}
