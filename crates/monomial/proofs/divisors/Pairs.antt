-- Factor pairs m1 <= m2 of a monomial of any width, by ascending m1: complete, none twice, an initial run of the divisors.
-- Assumes nothing.
use mathlib.Core.Path.{◌≡◌, refl, sym, ap, ◌∙◌, subst}
use mathlib.Core.Logic.{◌⊎◌, inl, inr}
use mathlib.Core.Bool.{Bool, not, ◌&&◌}
use mathlib.Core.List.Memᴰ
use mathlib.Core.List.{List, [], ◌∷◌, map}
use Prim.Native.Nat.{ℕ, ◌-◌, ◌≤◌, ◌<◌}
use native.Mathlib.Omega.{arith}
use lib.Dec.{T, T_not, not_T, ltb→lt, lt→ltb, eqb→eq, eqb_refl}
use lib.ListN.{length, take}
use Rattle.monomial.specs.Lists.{pairwise, pointwise, dictionary, keep}
use Rattle.monomial.specs.Monomial.{Mono, one}
use Rattle.monomial.specs.Order.{same, before}
use Rattle.monomial.specs.Product.{mul}
use Rattle.monomial.specs.Quotient.{quo, divides}
use Rattle.monomial.specs.Divisors.{divisors, leads, pairs, next}
use Rattle.monomial.specs.Claims.{◌∈◌, Ascending, from, Compared, less, equal, more, Pair, split, IsPair, pairs_from}
use Rattle.monomial.proofs.Tests.{Tested, passed, failed, test, is→T, is→n_t, same_test, and_l, and_r, and_i}
use Rattle.monomial.proofs.Members.{keep_in, keep_out, keep_none, keep_yes, keep_map, keep_both, keep_same}
use Rattle.monomial.proofs.Loops.{pointwise_length}
use Rattle.monomial.proofs.order.Laws.{ℕ-order, mono_order, Ahead, smaller, tied, ahead, ahead_is, le_before, before_le, level}
use Rattle.monomial.proofs.order.Ascending.{keep_asc, once, from_out, run_front}
use Rattle.monomial.proofs.product.Laws.{mul_comm}
use Rattle.monomial.proofs.quotient.Laws.{quo_mul, mul_quo, quo_self, quo_divides, one_divides, divides_length, divides_tail, divides_head, factor_divides}
use Rattle.monomial.proofs.divisors.Laws.{divisors_in, divisors_out, divisors_asc}
use Rattle.monomial.proofs.divisors.Following.{divisors_start, divisors_next, not_before_one}

-- ---- complete: a product is split into its factors
pub pairs_in : (a b : Mono) → length a ≡ length b → (T (before b a) → ⊥) → (a, b) ∈ pairs (mul a b)
unfolding pairs
pairs_in a b e n =
    let m = mul a b in
    let q : quo m a ≡ b = quo_mul a b e in
    let lead : T (leads m a) = not_T (before (quo m a) a) (rw q n) in
    subst (λ (z : Mono). (a, z) ∈ map (split m) (keep (leads m) (divisors m))) q
    (Memᴰ.map (split m) (keep_in (leads m) (divisors m) (divisors_in a m (factor_divides a b e)) lead))

pub pairs_either : (a b : Mono) → length a ≡ length b → ((a, b) ∈ pairs (mul a b)) ⊎ ((b, a) ∈ pairs (mul a b))
pairs_either a b e = go (test (before b a))
  where
    go : Tested (before b a) → ((a, b) ∈ pairs (mul a b)) ⊎ ((b, a) ∈ pairs (mul a b))
    go (passed p) =
        let n : T (before a b) → ⊥ = λ t. mono_order.irrefl a (mono_order.trans a b a t (is→T (before b a) p)) in
        inr (subst (λ m. (b, a) ∈ pairs m) (mul_comm b a) (pairs_in b a (sym e) n))
    go (failed p) = inl (pairs_in a b e (is→n_t (before b a) p))

-- the middle pair of a perfect square
pub pairs_middle : (d : Mono) → (d, d) ∈ pairs (mul d d)
pairs_middle d = pairs_in d d refl (mono_order.irrefl d)

-- ---- sound: two monomials of m's width whose product is m, the first not behind the second
split_splits : (m d : Mono) → T (divides d m) → T (leads m d) → IsPair (split m d) m
split_splits m d t l =
    let e : length d ≡ length m = divides_length d m t in
    record {
      left = e;
      right = pointwise_length ◌-◌ m d (sym e);
      product = mul_quo d m t;
      ordered = T_not (before (quo m d) d) l;
    }

pub pairs_out : (p : Pair) (m : Mono) → p ∈ pairs m → IsPair p m
unfolding pairs
pairs_out p m h =
    let q : (d : Mono) × (d ∈ keep (leads m) (divisors m)) × (split m d ≡ p) = Memᴰ.of_map (split m) (keep (leads m) (divisors m)) h in
    let k = keep_out (leads m) (divisors m) q.1 in
    subst (λ z. IsPair z m) q.2 (split_splits m q.0 (divisors_out q.0 m k.0) k.1)

-- a divisor that leads, and what m leaves it
pub leads_in : (d m : Mono) → T (divides d m) → T (leads m d) → split m d ∈ pairs m
unfolding pairs
leads_in d m t l = Memᴰ.map (split m) (keep_in (leads m) (divisors m) (divisors_in d m t) l)

-- ---- no pair twice: the first factors ascend strictly, and each stands once
firsts_map : (m : Mono) (l : List Mono) → map (λ (p : Pair). p.0) (map (split m) l) ≡ l
firsts_map m [] = refl
firsts_map m (d ∷ l) = ap (◌∷◌ d) (firsts_map m l)

pub pairs_firsts : (m : Mono) → map (λ (p : Pair). p.0) (pairs m) ≡ keep (leads m) (divisors m)
unfolding pairs
pairs_firsts m = firsts_map m (keep (leads m) (divisors m))

pub pairs_asc : (m : Mono) → Ascending before (map (λ (p : Pair). p.0) (pairs m))
pairs_asc m = rw (pairs_firsts m) (keep_asc (leads m) (divisors m) (divisors_asc m))

pub pairs_once : (p : Pair) (m : Mono) → p ∈ pairs m → keep (same p.0) (map (λ (q : Pair). q.0) (pairs m)) ≡ p.0 ∷ []
pairs_once p m h = once mono_order p.0 (map (λ (q : Pair). q.0) (pairs m)) (pairs_asc m) (Memᴰ.map (λ (q : Pair). q.0) h)

-- ---- an initial run: the smaller the divisor, the larger the quotient
pub quo_descends : (c d m : Mono) → T (divides c m) → T (divides d m) → T (before c d) → T (before (quo m d) (quo m c))
unfolding pairwise dictionary pointwise
quo_descends [] [] m s t u = absurd u
quo_descends [] (y ∷ d) [] s t u = absurd t
quo_descends [] (y ∷ d) (e ∷ m) s t u = absurd s
quo_descends (x ∷ c) d [] s t u = absurd s
quo_descends (x ∷ c) [] (e ∷ m) s t u = absurd t
quo_descends (x ∷ c) (y ∷ d) (e ∷ m) s t u =
    ahead_is ℕ-order (e - y) (e - x) (quo m d) (quo m c) (go (ahead ℕ-order x y c d u) (quo_descends c d m (divides_tail x e c m s) (divides_tail y e d m t)))
  where
    go : Ahead ℕ-order x y c d → (T (before c d) → T (before (quo m d) (quo m c))) → Ahead ℕ-order (e - y) (e - x) (quo m d) (quo m c)
    go (smaller h) ih =
        let i : x < y = ltb→lt x y h in
        let j : y ≤ e = divides_head y e d m t in
        smaller (lt→ltb (e - y) (e - x) (omega arith))
    go (tied h k) ih = let i : x ≡ y = eqb→eq x y h in tied (rw i (eqb_refl (e - y))) (ih k)

-- c < d <= m/d < m/c
leads_down : (c d m : Mono) → T (divides c m) → T (divides d m) → T (before c d) → T (leads m d) → T (leads m c)
leads_down c d m s t u l =
    not_T (before (quo m c) c) (λ v.
    let low : T (before d (quo m c)) = le_before mono_order d (quo m d) (quo m c) (T_not (before (quo m d) d) l) (quo_descends c d m s t u) in
    mono_order.irrefl c (mono_order.trans c d c u (mono_order.trans d (quo m c) c low v)))

pub leads_run : (m : Mono) → keep (leads m) (divisors m) ≡ take (length (keep (leads m) (divisors m))) (divisors m)
leads_run m =
    run_front mono_order (leads m) (divisors m) (divisors_asc m) (λ c d h k u. leads_down c d m (divisors_out c m h) (divisors_out d m k) u)

-- ---- the pairs of m from the first factor d on, one at a time
pub pairs_start : (m : Mono) → pairs_from m (one (length m)) ≡ pairs m
unfolding pairs
pairs_start m = rw (divisors_start m)

-- 1 is the first of its pair
pub one_leads : (m : Mono) → T (leads m (one (length m)))
one_leads m =
    not_T (before (quo m (one (length m))) (one (length m))) (λ t.
    let long : length (quo m (one (length m))) ≡ length m = divides_length (quo m (one (length m))) m (quo_divides (one (length m)) m (one_divides m)) in
    not_before_one (quo m (one (length m))) (subst (λ (n : ℕ). T (before (quo m (one (length m))) (one n))) (sym long) t))

-- only of 1 is the last divisor the first of its pair
pub leads_last : (d m : Mono) → (m ≡ one (length m) → ⊥) → T (leads m d) → d ≡ m → ⊥
leads_last d m n l e =
    let k : T (before (one (length m)) m) → ⊥ = rw (quo_self m) at (rw e at (T_not (before (quo m d) d) l)) in
    n (mono_order.same_eq m (one (length m)) (level mono_order m (one (length m)) (not_before_one m) k))

pub pairs_turn : (d m : Mono) → T (divides d m) → (m ≡ one (length m) → ⊥) → T (leads m d) → pairs_from m d ≡ split m d ∷ pairs_from m (next m d)
pairs_turn d m t n l =
    rw (divisors_next d m t (leads_last d m n l)) (ap (map (split m)) (keep_yes (leads m) d (from before (next m d) (divisors m)) l))

pub pairs_end : (d m : Mono) → T (divides d m) → (T (leads m d) → ⊥) → pairs_from m d ≡ []
pairs_end d m t n = ap (map (split m)) (keep_none (leads m) (from before d (divisors m)) none)
  where
    none : (c : Mono) → c ∈ from before d (divisors m) → T (leads m c) → ⊥
    none c h l =
        let k = from_out mono_order d (divisors m) h in
        n (up (mono_order.total d c) k.1 (divisors_out c m k.0) l)
      where
        up : Compared same before d c → (T (before c d) → ⊥) → T (divides c m) → T (leads m c) → T (leads m d)
        up (less u) f s i = leads_down d c m t s u i
        up (equal u) f s i = subst (λ (z : Mono). T (leads m z)) (sym (mono_order.same_eq d c u)) i
        up (more u) f s i = absurd (f u)

-- ---- those of them that pass a test
module _ (m : Mono) (f : Pair → Bool) where
  -- the pairs from a on that pass are the divisors that pass three tests
  abbrev asks : Mono → Mono → Bool
  asks a d = (not (before d a) && leads m d) && f (split m d)

  by_divisors : (a : Mono) → keep f (pairs_from m a) ≡ map (split m) (keep (asks a) (divisors m))
  by_divisors a =
      keep_map f (split m) (keep (leads m) (from before a (divisors m)))
      ∙ ap (λ (l : List Mono). map (split m) (keep (λ d. f (split m d)) l)) (keep_both (leads m) (λ d. not (before d a)) (divisors m))
      ∙ ap (map (split m)) (keep_both (λ d. f (split m d)) (λ d. not (before d a) && leads m d) (divisors m))

  -- from a on and from r on they are the same, where none between passes
  pub none_between : (a r : Mono) → (T (before r a) → ⊥) → ((d : Mono) → T (divides d m) → T (leads m d) → T (f (split m d)) → (T (before d a) → ⊥) → T (before d r) → ⊥)
      → keep f (pairs_from m a) ≡ keep f (pairs_from m r)
  none_between a r up none =
      by_divisors a ∙ ap (map (split m)) (keep_same (asks a) (asks r) (divisors m) same_said) ∙ sym (by_divisors r)
    where
      same_said : (d : Mono) → d ∈ divisors m → asks a d ≡ asks r d
      same_said d h = same_test (asks a d) (asks r d) (down (leads m d) (f (split m d)) (none d (divisors_out d m h))) (back (leads m d) (f (split m d)))
        where
          down : (l g : Bool) → (T l → T g → (T (before d a) → ⊥) → T (before d r) → ⊥) → T ((not (before d a) && l) && g) → T ((not (before d r) && l) && g)
          down l g clash t =
              let x : T (not (before d a) && l) = and_l (not (before d a) && l) g t in
              let lead : T l = and_r (not (before d a)) l x in
              let pass : T g = and_r (not (before d a) && l) g t in
              let from_r : T (before d r) → ⊥ = clash lead pass (T_not (before d a) (and_l (not (before d a)) l x)) in
              and_i (not (before d r) && l) g (and_i (not (before d r)) l (not_T (before d r) from_r) lead) pass

          back : (l g : Bool) → T ((not (before d r) && l) && g) → T ((not (before d a) && l) && g)
          back l g t =
              let x : T (not (before d r) && l) = and_l (not (before d r) && l) g t in
              let from_r : T (before d r) → ⊥ = T_not (before d r) (and_l (not (before d r)) l x) in
              let from_a : T (before d a) → ⊥ = λ u. from_r (before_le mono_order d a r u up) in
              and_i (not (before d a) && l) g (and_i (not (before d a)) l (not_T (before d a) from_a) (and_r (not (before d r)) l x)) (and_r (not (before d r) && l) g t)

  -- none at all
  pub none_later : (a : Mono) → ((d : Mono) → T (divides d m) → T (leads m d) → T (f (split m d)) → (T (before d a) → ⊥) → ⊥) → keep f (pairs_from m a) ≡ []
  none_later a none = by_divisors a ∙ ap (map (split m)) (keep_none (asks a) (divisors m) clash)
    where
      clash : (d : Mono) → d ∈ divisors m → T (asks a d) → ⊥
      clash d h t =
          let x : T (not (before d a) && leads m d) = and_l (not (before d a) && leads m d) (f (split m d)) t in
          none d (divisors_out d m h) (and_r (not (before d a)) (leads m d) x) (and_r (not (before d a) && leads m d) (f (split m d)) t) (T_not (before d a) (and_l (not (before d a)) (leads m d) x))
