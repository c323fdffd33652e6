-- How many factor pairs a monomial of any width has: half its score, rounded up. The divisors pair up as d and m/d, and at most one is paired with itself.
-- Assumes nothing.
use mathlib.Core.Path.{◌≡◌, sym, subst, ◌∙◌}
use mathlib.Core.Logic.{◌⊎◌, inl, inr}
use mathlib.Core.Bool.{Bool}
use Prim.Native.Nat.{◌+◌, ◌/◌, ◌≤◌}
use native.Mathlib.Omega.{arith}
use lib.Dec.{T, T_not, not_T}
use lib.ListN.{length, length-map}
use Rattle.monomial.specs.Lists.{keep}
use Rattle.monomial.specs.Monomial.{Mono}
use Rattle.monomial.specs.Order.{same, before}
use Rattle.monomial.specs.Quotient.{quo, divides}
use Rattle.monomial.specs.Divisors.{score, divisors, leads, pairs}
use Rattle.monomial.specs.Claims.{◌∈◌, Different, Compared, less, equal, more, split}
use Rattle.monomial.proofs.Members.{keep_out, keep_split, keep_either}
use Rattle.monomial.proofs.Different.{different_keep, ascending_different, turn_length, one_length}
use Rattle.monomial.proofs.order.Laws.{mono_order, not_both, level}
use Rattle.monomial.proofs.quotient.Laws.{quo_divides, quo_quo}
use Rattle.monomial.proofs.divisors.Laws.{divisors_in, divisors_out, divisors_asc, divisors_length, score_positive}
use Rattle.monomial.proofs.divisors.Pairs.{quo_descends}

-- at most one divisor d is m/d: of two, the one with the larger quotient would be the smaller
pub root_once : (c d m : Mono) → T (divides c m) → T (divides d m) → T (same c (quo m c)) → T (same d (quo m d)) → c ≡ d
root_once c d m s t u v = mono_order.same_eq c d (level mono_order c d (apart c d s t (eq c u) (eq d v)) (apart d c t s (eq d v) (eq c u)))
  where
    eq : (x : Mono) → T (same x (quo m x)) → x ≡ quo m x
    eq x = mono_order.same_eq x (quo m x)

    apart : (x y : Mono) → T (divides x m) → T (divides y m) → x ≡ quo m x → y ≡ quo m y → T (before x y) → ⊥
    apart x y h k i j w =
        let r : T (before y (quo m x)) = subst (λ (z : Mono). T (before z (quo m x))) (sym j) (quo_descends x y m h k w) in
        not_both mono_order x y w (subst (λ (z : Mono). T (before y z)) (sym i) r)

-- ---- the divisors of m by how d stands to m/d: behind it, before it, or the same
module _ (m : Mono) where
  abbrev lags : Mono → Bool
  lags d = before (quo m d) d

  abbrev strict : Mono → Bool
  strict d = before d (quo m d)

  abbrev middle : Mono → Bool
  middle d = same d (quo m d)

  different : Different (divisors m)
  different = ascending_different mono_order (divisors m) (divisors_asc m)

  into : (d : Mono) → d ∈ divisors m → quo m d ∈ divisors m
  into d h = divisors_in (quo m d) m (quo_divides d m (divisors_out d m h))

  back : (d : Mono) → d ∈ divisors m → quo m (quo m d) ≡ d
  back d h = quo_quo d m (divisors_out d m h)

  turn : (p q : Mono → Bool) → ((d : Mono) → d ∈ divisors m → T (p d) → T (q (quo m d))) → length (keep p (divisors m)) ≤ length (keep q (divisors m))
  turn p q = turn_length (quo m) p q (divisors m) different into back

  -- what is the second of its pair has a first, and what is strictly the first has a second
  lags_leads : length (keep lags (divisors m)) ≤ length (keep (leads m) (divisors m))
  lags_leads = turn lags (leads m) (λ d h t. not_T (before (quo m (quo m d)) (quo m d)) (rw (back d h) (not_both mono_order (quo m d) d t)))

  strict_lags : length (keep strict (divisors m)) ≤ length (keep lags (divisors m))
  strict_lags = turn strict lags (λ d h t. rw (back d h) t)

  middle_once : length (keep middle (divisors m)) ≤ 1
  middle_once = one_length (keep middle (divisors m)) (different_keep middle (divisors m) different) one
    where
      one : (c d : Mono) → c ∈ keep middle (divisors m) → d ∈ keep middle (divisors m) → c ≡ d
      one c d h k =
          let i = keep_out middle (divisors m) h in
          let j = keep_out middle (divisors m) k in
          root_once c d m (divisors_out c m i.0) (divisors_out d m j.0) i.1 j.1

  leads_either : (d : Mono) → T (leads m d) → T (strict d) ⊎ T (middle d)
  leads_either d l = go (mono_order.total d (quo m d))
    where
      go : Compared same before d (quo m d) → T (strict d) ⊎ T (middle d)
      go (less t) = inl t
      go (equal t) = inr t
      go (more t) = absurd (T_not (before (quo m d) d) l t)

-- as many first factors as second ones, or one more, and together they are the divisors
pub pairs_count : (m : Mono) → length (pairs m) ≡ (score m + 1) / 2
unfolding pairs
pairs_count m =
    let low : length (keep (lags m) (divisors m)) ≤ length (keep (leads m) (divisors m)) = lags_leads m in
    let high : length (keep (leads m) (divisors m)) ≤ length (keep (strict m) (divisors m)) + length (keep (middle m) (divisors m)) =
    keep_either (leads m) (strict m) (middle m) (divisors m) (leads_either m) in
    let all : length (keep (lags m) (divisors m)) + length (keep (leads m) (divisors m)) ≡ length (divisors m) = keep_split (lags m) (divisors m) in
    length-map (keep (leads m) (divisors m)) (split m) ∙ omega (arith, low, high, all, strict_lags m, middle_once m, divisors_length m)

-- at most as many as divisors
pub pairs_few : (m : Mono) → length (pairs m) ≤ score m
pairs_few m = omega (arith, pairs_count m, score_positive m)
