-- Cheap pairs first: a pair is cheap exactly where just one of the two is not in V, or they are one that is not; each factor pair has one place in the
-- order, and the cheap ones ascend by m1, and so do the others. Assumes nothing.
use mathlib.Core.Path.{◌≡◌, refl, ◌∙◌, subst}
use mathlib.Core.Logic.{inl, inr, ◌↔◌}
use mathlib.Core.Bool.{Bool, true, false, cond, not, ◌||◌}
use mathlib.Core.List.Memᴰ
use mathlib.Core.List.{List, map}
use lib.Dec.{T}
use Rattle.monomial.specs.Lists.{any, keep}
use Rattle.monomial.specs.Monomial.{Mono}
use Rattle.monomial.specs.Order.{same, before}
use Rattle.monomial.specs.Divisors.{pairs}
use Rattle.monomial.specs.Claims.{◌∈◌, Ascending, Pair, Rearranged}
use Rattle.monomial.proofs.Tests.{Tested, passed, failed, test, is→T, is→n_t}
use Rattle.monomial.proofs.Rearranged.{first_rearranged}
use Rattle.monomial.proofs.order.Laws.{mono_order}
use Rattle.monomial.proofs.order.Ascending.{among_in, among_out, keep_image_asc}
use Rattle.monomial.proofs.divisors.Pairs.{pairs_asc}
use Rattle.lister.specs.Cheap.{cheap, cheap_first}
use Rattle.lister.specs.Claims.{AddsOne}
use Rattle.lister.proofs.cheap.Laws.{cheap_by}

-- ---- in plain words
module _ (v : List Mono) (p : Pair) where
  has : Mono → Bool
  has m = any (same m) v

  has_in : (m : Mono) → has m ≡ true → m ∈ v
  unfolding has
  has_in m e = among_out mono_order m v (is→T (any (same m) v) e)

  has_not : (m : Mono) → has m ≡ false → m ∈ v → ⊥
  unfolding has
  has_not m e h = is→n_t (any (same m) v) e (among_in mono_order h)

  cheap_is : (x y z : Bool) → has p.0 ≡ x → has p.1 ≡ y → same p.0 p.1 ≡ z → cheap v p ≡ cond (z || x) (not y) y
  unfolding has
  cheap_is = cheap_by v p.0 p.1

  -- two that are one are both in V or both not
  one_out : same p.0 p.1 ≡ true → p.0 ≡ p.1
  one_out e = mono_order.same_eq p.0 p.1 (is→T (same p.0 p.1) e)

  pub cheap_exact : T (cheap v p) ↔ AddsOne v p
  cheap_exact = (λ t. out (test (has p.0)) (test (has p.1)) (test (same p.0 p.1)) t, into (test (has p.0)) (test (has p.1)) (test (same p.0 p.1)))
    where
      -- what the three tests say, where the pair is not cheap
      refuse : (x y z : Bool) → has p.0 ≡ x → has p.1 ≡ y → same p.0 p.1 ≡ z → cond (z || x) (not y) y ≡ false → T (cheap v p) → ⊥
      refuse x y z a b c e = is→n_t (cheap v p) (cheap_is x y z a b c ∙ e)

      grant : (x y z : Bool) → has p.0 ≡ x → has p.1 ≡ y → same p.0 p.1 ≡ z → cond (z || x) (not y) y ≡ true → T (cheap v p)
      grant x y z a b c e = is→T (cheap v p) (cheap_is x y z a b c ∙ e)

      out : Tested (has p.0) → Tested (has p.1) → Tested (same p.0 p.1) → T (cheap v p) → AddsOne v p
      out (passed a) (passed b) (passed c) t = absurd (refuse true true true a b c refl t)
      out (passed a) (passed b) (failed c) t = absurd (refuse true true false a b c refl t)
      out (passed a) (failed b) c t = inl (has_in p.0 a, has_not p.1 b)
      out (failed a) (passed b) c t = inr (inl (has_in p.1 b, has_not p.0 a))
      out (failed a) (failed b) (passed c) t = inr (inr (one_out c, has_not p.0 a))
      out (failed a) (failed b) (failed c) t = absurd (refuse false false false a b c refl t)

      into : Tested (has p.0) → Tested (has p.1) → Tested (same p.0 p.1) → AddsOne v p → T (cheap v p)
      into (passed a) (passed b) c (inl h) = absurd (h.1 (has_in p.1 b))
      into (passed a) (passed b) c (inr (inl h)) = absurd (h.1 (has_in p.0 a))
      into (passed a) (passed b) c (inr (inr h)) = absurd (h.1 (has_in p.0 a))
      into (passed a) (failed b) (passed c) h = grant true false true a b c refl
      into (passed a) (failed b) (failed c) h = grant true false false a b c refl
      into (failed a) (passed b) (failed c) h = grant false true false a b c refl
      into (failed a) (passed b) (passed c) h = absurd (has_not p.0 a (Memᴰ.cast (one_out c) (has_in p.1 b)))
      into (failed a) (failed b) (passed c) h = grant false false true a b c refl
      into (failed a) (failed b) (failed c) (inl h) = absurd (has_not p.0 a h.0)
      into (failed a) (failed b) (failed c) (inr (inl h)) = absurd (has_not p.1 b h.0)
      into (failed a) (failed b) (failed c) (inr (inr h)) = absurd (is→n_t (same p.0 p.1) c (subst (λ (m : Mono). T (same p.0 m)) h.0 (mono_order.same_refl p.0)))

-- ---- each pair once
pub cheap_first_rearranged : (v : List Mono) (m : Mono) → Rearranged (pairs m) (cheap_first v m)
unfolding cheap_first
cheap_first_rearranged v m = first_rearranged (cheap v) (pairs m)

-- ---- each kind by ascending m1
module _ (v : List Mono) (m : Mono) where
  pub cheap_ascend : Ascending before (map (λ (p : Pair). p.0) (keep (cheap v) (pairs m)))
  cheap_ascend = keep_image_asc (λ (p : Pair). p.0) (cheap v) (pairs m) (pairs_asc m)

  pub rest_ascend : Ascending before (map (λ (p : Pair). p.0) (keep (λ p. not (cheap v p)) (pairs m)))
  rest_ascend = keep_image_asc (λ (p : Pair). p.0) (λ p. not (cheap v p)) (pairs m) (pairs_asc m)
