-- The subsets that are listed are the smallest quadratic ones, all of them, over Definition 1 itself. Assumes nothing.
use mathlib.Core.Path.{◌≡◌, refl, sym, ap, subst}
use mathlib.Core.Logic.{◌⊎◌, inl, inr, ⊎_elim}
use mathlib.Core.Bool.{Bool}
use mathlib.Core.List.Memᴰ
use mathlib.Core.List.{List, [], ◌∷◌}
use Prim.Native.Nat.{ℕ, ◌^◌, ◌≤◌, min}
use native.Mathlib.Omega.{arith}
use borrow.Author.Tests.{eq-eqb, ltb-true, ltb-false}
use lib.Dec.{T, eqb, ltb, eqb→eq, T_not}
use lib.ListN.{length}
use Rattle.monomial.specs.Lists.{some, keep, arrange_by}
use Rattle.monomial.specs.Monomial.{Mono, width}
use Rattle.monomial.specs.Order.{same, before, before_set}
use Rattle.monomial.specs.Claims.{◌∈◌, ◌⊆◌, Ascending}
use Rattle.monomial.proofs.Tests.{Tested, passed, failed, test, is→T}
use Rattle.monomial.proofs.Members.{here, there, some_none, keep_in, keep_out, keep_swap, keep_length}
use Rattle.monomial.proofs.order.Laws.{mono_order}
use Rattle.monomial.proofs.order.Ascending.{arrange_asc, arrange_out, arrange_length, keep_asc}
use Rattle.wiring.specs.Poly.{Poly, plain}
use Rattle.wiring.specs.Derivative.{derivative}
use Rattle.wiring.specs.Signals.{signals}
use Rattle.wiring.specs.Answers.{missing}
use Rattle.wiring.specs.Claims.{Recordable}
use Rattle.wiring.proofs.quadratic.Definition1.{quadratic_same}
use Rattle.wiring.proofs.signals.Laws.{base_in, set-in, signals_cases}
use Rattle.wiring.proofs.sets.Exact.{recordable_part}
use Rattle.walk.specs.Walk.{Finds}
use Rattle.walk.specs.Claims.{QuadraticList}
use Rattle.walk.proofs.Smallest.{no_gap, gapless, arranged_quadratic}
use Rattle.thin.specs.Subsets.{subsets, is_quadratic}
use Rattle.thin.specs.Thin.{least_size, quadratic_ones, least, thinnest}
use Rattle.thin.specs.Claims.{ThinSet, Thinnest}
use Rattle.thin.proofs.subsets.Laws.{subsets_count}
use Rattle.thin.proofs.subsets.Members.{subset_part, subset_asc, subset_all, subsets_asc}

-- ---- the least size
least_most : (b : ℕ) (l : Finds) (t : List Mono) → t ∈ l → least_size b l ≤ length t
unfolding least_size
least_most b [] t h = absurd (Memᴰ.not-nil h)
least_most b (u ∷ l) t h = go (Memᴰ.cases_cons h) (least_most b l t)
  where
    go : (t ≡ u) ⊎ (t ∈ l) → (t ∈ l → least_size b l ≤ length t) → min (length u) (least_size b l) ≤ length t
    go (inl e) ih = omega (arith, ap length e)
    go (inr k) ih = let i : least_size b l ≤ length t = ih k in omega arith

-- it is the bound, or some set has it
pub record HasLeast (b : ℕ) (l : Finds) : Type 0 where
  pub set : List Mono
  pub member : set ∈ l
  pub size : length set ≡ least_size b l

least_reached : (b : ℕ) (l : Finds) → (least_size b l ≡ b) ⊎ HasLeast b l
unfolding least_size
least_reached b [] = inl refl
least_reached b (u ∷ l) = go (test (ltb (length u) (least_size b l))) (least_reached b l)
  where
    go : Tested (ltb (length u) (least_size b l)) → (least_size b l ≡ b) ⊎ HasLeast b l → (min (length u) (least_size b l) ≡ b) ⊎ HasLeast b (u ∷ l)
    go (passed p) ih = inr (record { set = u; member = here; size = omega (arith, ltb-true (length u) (least_size b l) p) })
    go (failed p) (inl e) = inl (omega (arith, ltb-false (length u) (least_size b l) p))
    go (failed p) (inr r) = inr (record { set = r.set; member = there r.member; size = omega (arith, r.size, ltb-false (length u) (least_size b l) p) })

-- no more are listed than there are subsets
pub thinnest_most : (n : ℕ) (fs : List (Poly Mono)) (s : List Mono) → length (thinnest n fs s) ≤ 2 ^ length s
unfolding thinnest quadratic_ones
thinnest_most n fs s =
    let fit : Finds = keep (is_quadratic n fs) (subsets s) in
    omega (arith, keep_length (λ (x : List Mono). eqb (length x) (least n fs s)) fit, keep_length (is_quadratic n fs) (subsets s), subsets_count s)

module _ (n : ℕ) (fs : List (Poly Mono)) where
  -- ---- the test is Definition 1
  passes : (t : List Mono) → missing n fs t ≡ [] → T (is_quadratic n fs t)
  unfolding some
  passes t e = rw e tt

  meant : (t : List Mono) → T (is_quadratic n fs t) → missing n fs t ≡ []
  meant t h = some_none (missing n fs t) (T_not (some (missing n fs t)) h)

  module _ (s : List Mono) (up : Ascending before s) where
    -- ---- the quadratic subsets
    quadratic_in : (t : List Mono) → Ascending before t → t ⊆ s → missing n fs t ≡ [] → t ∈ quadratic_ones n fs s
    unfolding quadratic_ones
    quadratic_in t a sub e = keep_in (is_quadratic n fs) (subsets s) (subset_all mono_order s t up a sub) (passes t e)

    -- any list of signals of s, by its members in order, each once
    arranged_in : (t : List Mono) → t ⊆ s → QuadraticList n (derivative plain fs) t → arrange_by same before t ∈ quadratic_ones n fs s
    arranged_in t sub q = quadratic_in (arrange_by same before t) (arrange_asc mono_order t) (λ x h. sub x (arrange_out mono_order t h)) (arranged_quadratic n fs t q)

    -- each has at least the least size, and those that have it are listed
    at_least : (t : List Mono) → t ∈ quadratic_ones n fs s → least n fs s ≤ length t
    unfolding least
    at_least t h = least_most (length s) (quadratic_ones n fs s) t h

    listed_in : (t : List Mono) → t ∈ quadratic_ones n fs s → length t ≡ least n fs s → t ∈ thinnest n fs s
    unfolding thinnest
    listed_in t h e = keep_in (λ (x : List Mono). eqb (length x) (least n fs s)) (quadratic_ones n fs s) h (is→T _ (eq-eqb (length t) (least n fs s) e))

    no_thinner : (t : List Mono) → t ⊆ s → QuadraticList n (derivative plain fs) t → least n fs s ≤ length t
    no_thinner t sub q = omega (arith, at_least (arrange_by same before t) (arranged_in t sub q), arrange_length same before t)

    all_listed : (t : List Mono) → t ⊆ s → QuadraticList n (derivative plain fs) t → length t ≡ least n fs s → arrange_by same before t ∈ thinnest n fs s
    all_listed t sub q e =
        let u : List Mono = arrange_by same before t in
        let h : u ∈ quadratic_ones n fs s = arranged_in t sub q in
        listed_in u h (omega (arith, at_least u h, arrange_length same before t))

    -- ---- a listed one
    pub record OfLeast (t : List Mono) : Type 0 where
      pub subset : t ∈ subsets s
      pub none : missing n fs t ≡ []
      pub size : length t ≡ least n fs s

    of_least : (t : List Mono) → t ∈ thinnest n fs s → OfLeast t
    unfolding thinnest quadratic_ones
    of_least t h =
        let a = keep_out (λ (x : List Mono). eqb (length x) (least n fs s)) (keep (is_quadratic n fs) (subsets s)) h in
        let b = keep_out (is_quadratic n fs) (subsets s) a.0 in
        record { subset = b.0; none = meant t b.1; size = eqb→eq (length t) (least n fs s) a.1 }

    listed_asc : Ascending before_set (thinnest n fs s)
    unfolding thinnest quadratic_ones
    listed_asc =
        let test : List Mono → Bool = λ x. eqb (length x) (least n fs s) in
        subst (Ascending before_set) (sym (keep_swap test (is_quadratic n fs) (subsets s)))
        (keep_asc (is_quadratic n fs) (keep test (subsets s)) (subsets_asc mono_order s up test (least n fs s) (λ t p. eqb→eq (length t) (least n fs s) p)))

    -- where s itself is quadratic some are listed
    some_listed : missing n fs s ≡ [] → thinnest n fs s ≡ [] → ⊥
    unfolding least
    some_listed e none = go (least_reached (length s) (quadratic_ones n fs s))
      where
        listed : (t : List Mono) → t ∈ quadratic_ones n fs s → length t ≡ least_size (length s) (quadratic_ones n fs s) → ⊥
        listed t h size = Memᴰ.not-nil (subst (λ (l : Finds). t ∈ l) none (listed_in t h size))

        go : (least_size (length s) (quadratic_ones n fs s) ≡ length s) ⊎ HasLeast (length s) (quadratic_ones n fs s) → ⊥
        go (inl k) = listed s (quadratic_in s up (λ x h. h) e) (sym k)
        go (inr r) = listed r.set r.member r.size

module _ (n : ℕ) (fs : List (Poly Mono)) (s : List Mono) (r : Recordable n s) where
  up : Ascending before s
  up = r.permitted.ascends

  one : (t : List Mono) → t ∈ thinnest n fs s → ThinSet n (derivative plain fs) s (least n fs s) t
  one t h =
      let c = of_least n fs s up t h in
      let part : t ⊆ s = subset_part s t c.subset in
      record { part = part; recordable = recordable_part n s r t (subset_asc s t up c.subset) part; quadratic = gapless n fs t c.none; size = c.size }

  pub thin_smallest : QuadraticList n (derivative plain fs) s → Thinnest n (derivative plain fs) s (least n fs s) (thinnest n fs s)
  thin_smallest q = record {
    none_thinner = no_thinner n fs s up;
    all = all_listed n fs s up;
    each = one;
    ascending = listed_asc n fs s up;
    some = some_listed n fs s up (no_gap n fs s q);
  }

-- the same is said by another derivation that agrees with it on V of the set, and so on V of each of its subsets
module _ (n : ℕ) (d e : Mono → Poly Mono) (s : List Mono) (same_on : (z : Mono) → z ∈ signals width n s → d z ≡ e z) where
  inside : (t : List Mono) → t ⊆ s → (z : Mono) → z ∈ signals width n t → z ∈ signals width n s
  inside t part z h = ⊎_elim (λ b. base_in n s b) (λ k. set-in n s (part z k)) (signals_cases n t h)

  forth : (t : List Mono) → t ⊆ s → QuadraticList n d t → QuadraticList n e t
  forth t part = quadratic_same plain (signals width n t) d e (λ z h. same_on z (inside t part z h))

  pub back : (t : List Mono) → t ⊆ s → QuadraticList n e t → QuadraticList n d t
  back t part = quadratic_same plain (signals width n t) e d (λ z h. sym (same_on z (inside t part z h)))

  pub thinnest_by : (order : ℕ) (l : Finds) → Thinnest n d s order l → Thinnest n e s order l
  thinnest_by order l m = record {
    none_thinner = λ t part q. m.none_thinner t part (back t part q);
    all = λ t part q size. m.all t part (back t part q) size;
    each = λ t h. let x = m.each t h in record { part = x.part; recordable = x.recordable; quadratic = forth t x.part x.quadratic; size = x.size };
    ascending = m.ascending;
    some = m.some;
  }
