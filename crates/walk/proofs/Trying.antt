-- The order in which pairs are tried changes neither finds nor the number of steps: by two orders, each of which tries every pair once, a level takes
-- each step as often, and so finds the same sets in as many steps, and a plan that ends is the same. Assumes nothing.
use mathlib.Core.Path.{◌≡◌, refl, sym, ap, ap₂, ◌∙◌, subst}
use mathlib.Core.Bool.{Bool, true, false, cond}
use mathlib.Core.List.{List, [], ◌∷◌}
use Prim.Native.Nat.{ℕ, zero, suc, ◌+◌, ◌≤◌}
use native.Mathlib.Omega.{arith}
use lib.Dec.{T, leb}
use lib.ListN.{length}
use Rattle.monomial.specs.Lists.{keep}
use Rattle.monomial.specs.Monomial.{Mono, width}
use Rattle.monomial.specs.Order.{same_set}
use Rattle.monomial.specs.Divisors.{pairs}
use Rattle.monomial.specs.Claims.{◌∈◌, ◌⊆◌}
use Rattle.monomial.proofs.Members.{here, keep_out, keep_all, keep_some}
use Rattle.monomial.proofs.Rearranged.{kept_rearranged, kept_even}
use Rattle.monomial.proofs.order.Laws.{set_order}
use Rattle.monomial.proofs.order.Ascending.{sub_length, sub_equal}
use Rattle.wiring.specs.Poly.{Poly}
use Rattle.wiring.specs.Signals.{signals}
use Rattle.wiring.specs.Choice.{chosen}
use Rattle.wiring.specs.Answers.{missing}
use Rattle.walk.specs.Walk.{Finds, Rules, trying, child, pair, opening, Step, found, other, opens, ends, tried, tried_all, after, opened, level, walked}
use Rattle.walk.specs.Plan.{done, none, plan}
use Rattle.walk.specs.Claims.{Orderly, Even, distinct, Barren, Ends, Lacks}
use Rattle.walk.proofs.Runs.{distinct_asc, distinct_in, distinct_out}
use Rattle.walk.proofs.Stops.{done_exact, none_exact}

-- ---- each step as often
even_self : (es : List Step) → Even es es
even_self es f = refl

even_cons : (e : Step) (es fs : List Step) → Even es fs → Even (e ∷ es) (e ∷ fs)
unfolding keep
even_cons e es fs h f = go (f e)
  where
    go : (b : Bool) → length (cond b (e ∷ keep f es) (keep f es)) ≡ length (cond b (e ∷ keep f fs) (keep f fs))
    go true = ap suc (h f)
    go false = h f

-- the same test on both sides
even_cond : (b : Bool) (es fs : List Step) → Even es fs → Even (cond b es []) (cond b fs [])
even_cond true es fs h = h
even_cond false es fs h = even_self []

-- so there are as many steps
even_length : (es fs : List Step) → Even es fs → length es ≡ length fs
even_length es fs h =
    let all : Step → Bool = λ e. true in
    sym (ap length (keep_all all es (λ e i. tt))) ∙ h all ∙ ap length (keep_all all fs (λ e i. tt))

-- and the same sets are found
is_find : List Mono → Step → Bool
is_find t (found s) = same_set t s
is_find t (other x) = false

even_finds : (es fs : List Step) → Even es fs → (t : List Mono) → found t ∈ es → found t ∈ fs
unfolding is_find
even_finds es fs h t i =
    let many : 1 ≤ length (keep (is_find t) es) = keep_some (is_find t) es i (set_order.same_refl t) in
    go (keep (is_find t) fs) refl (omega (arith, h (is_find t)))
  where
    find : (e : Step) → e ∈ fs → T (is_find t e) → found t ∈ fs
    find (found s) j q = subst (λ (x : List Mono). found x ∈ fs) (sym (set_order.same_eq t s q)) j
    find (other x) j q = absurd q

    go : (l : List Step) → keep (is_find t) fs ≡ l → 1 ≤ length l → found t ∈ fs
    go [] q n = let z : ⊥ = omega arith in absurd z
    go (e ∷ l) q n = let k = keep_out (is_find t) fs (subst (λ (x : List Step). e ∈ x) (sym q) here) in find e k.0 k.1

even_listing : (es fs : List Step) → Even es fs → distinct es ≡ distinct fs
even_listing es fs h =
    let up : distinct es ⊆ distinct fs = λ x i. distinct_in fs x (even_finds es fs h x (distinct_out es x i)) in
    let down : distinct fs ⊆ distinct es = λ x i. distinct_in es x (even_finds fs es (λ f. sym (h f)) x (distinct_out fs x i)) in
    let few = sub_length set_order (distinct fs) (distinct es) (distinct_asc fs) (distinct_asc es) down in
    sub_equal set_order (distinct es) (distinct fs) (distinct_asc es) (distinct_asc fs) up few

-- ---- two orders of the pairs
abbrev Order : Type 0
Order = List Mono → Mono → List (Mono × Mono)

module _ (r : Rules) (f g : Order) (of : Orderly (trying f r)) (og : Orderly (trying g r)) (n : ℕ) (fs : List (Poly Mono)) where
  abbrev one : Rules
  one = trying f r

  abbrev two : Rules
  two = trying g r

  module _ (k : ℕ) where
    module _ (below below' : List Mono → List Step) (h : (c : List Mono) → Even (below c) (below' c)) (s : List Mono) where
      tried_even : (p : Mono × Mono) → Even (tried one n fs k below s p) (tried two n fs k below' s p)
      unfolding tried opens
      tried_even p =
          even_cons (other pair) (cond (opens r n k s p) (below (child n s p)) []) (cond (opens r n k s p) (below' (child n s p)) [])
          (even_cond (opens r n k s p) (below (child n s p)) (below' (child n s p)) (h (child n s p)))

      -- the pairs by one order, as they stand, and by the other
      pairs_even : (m : Mono) → Even (tried_all one n fs k below s m) (tried_all two n fs k below' s m)
      pairs_even m q =
          let v : List Mono = signals width n s in
          sym (kept_rearranged q (tried one n fs k below s) (pairs m) (f v m) (of v m))
          ∙ kept_even q (tried one n fs k below s) (tried two n fs k below' s) (pairs m) (λ p. tried_even p q)
          ∙ kept_rearranged q (tried two n fs k below' s) (pairs m) (g v m) (og v m)

      after_even : (l : List Mono) → Even (after one n fs k below s l) (after two n fs k below' s l)
      unfolding after ends
      after_even [] = even_self (found s ∷ [])
      after_even (m ∷ l) = go (ends r n k s (m ∷ l))
        where
          go : (b : Bool) → Even (other (opening s) ∷ cond b [] (tried_all one n fs k below s (chosen m l))) (other (opening s) ∷ cond b [] (tried_all two n fs k below' s (chosen m l)))
          go true = even_self (other (opening s) ∷ [])
          go false = even_cons (other (opening s)) _ _ (pairs_even (chosen m l))

    opened_even : (d : ℕ) (s : List Mono) → Even (opened one n fs k d s) (opened two n fs k d s)
    unfolding opened
    opened_even zero s = even_self []
    opened_even (suc d) s = after_even (opened one n fs k d) (opened two n fs k d) (opened_even d) s (missing n fs s)

    pub level_even : Even (level (trying f r) n fs k) (level (trying g r) n fs k)
    unfolding level
    level_even = even_cond (leb (length r.start) k) (opened one n fs k (suc k) r.start) (opened two n fs k (suc k) r.start) (opened_even (suc k) r.start)

    pub level_steps : length (level (trying f r) n fs k) ≡ length (level (trying g r) n fs k)
    level_steps = even_length (level one n fs k) (level two n fs k) level_even

    pub level_listing : distinct (level (trying f r) n fs k) ≡ distinct (level (trying g r) n fs k)
    level_listing = even_listing (level one n fs k) (level two n fs k) level_even

  -- ---- so plans that end are the same
  walked_even : (k : ℕ) → walked one n fs k ≡ walked two n fs k
  unfolding walked
  walked_even zero = refl
  walked_even (suc k) = ap₂ ◌+◌ (walked_even k) (level_steps k)

  barren_too : (j : ℕ) → Barren one n fs j → Barren two n fs j
  barren_too j b i h = sym (level_listing i) ∙ b i h

  module _ (cap limit room : ℕ) where
    pub done_too : (j u : ℕ) (l : Finds) → plan (trying f r) n fs limit room cap ≡ done j u l → plan (trying g r) n fs limit room cap ≡ done j u l
    done_too j u l e =
        let x : Ends one n fs limit room cap j u l = (done_exact one n fs limit room cap j u l).0 e in
        (done_exact two n fs limit room cap j u l).1 (record {
          low = x.low;
          barren = barren_too j x.barren;
          steps = x.steps ∙ walked_even (suc j);
          within = x.within;
          sets = x.sets ∙ level_listing j;
          some = x.some;
          roomy = x.roomy;
        })

    pub none_too : (j u : ℕ) → plan (trying f r) n fs limit room cap ≡ none j u → plan (trying g r) n fs limit room cap ≡ none j u
    none_too j u e =
        let x : Lacks one n fs limit room cap j u = (none_exact one n fs limit room cap j u).0 e in
        (none_exact two n fs limit room cap j u).1
        (record { last = x.last; barren = barren_too j x.barren; steps = x.steps ∙ walked_even j; within = x.within })
