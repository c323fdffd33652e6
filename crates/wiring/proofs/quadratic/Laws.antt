-- V2 and nonsquares over any kind of monomials. Assumes nothing.
use mathlib.Core.Path.{◌≡◌, subst}
use mathlib.Core.Bool.{Bool, not}
use mathlib.Core.List.{List}
use lib.Dec.{T, T_not, not_T}
use Rattle.monomial.specs.Lists.{any, some, gather}
use Rattle.monomial.specs.Claims.{◌∈◌, Ascending, Order}
use Rattle.monomial.proofs.Tests.{same_test}
use Rattle.monomial.proofs.Members.{any_in, any_out, Passing, some_in, some_out, keep_in, keep_out, gather_in, gather_out, Gathered}
use Rattle.monomial.proofs.order.Ascending.{arrange_asc, arrange_in, arrange_out}
use Rattle.wiring.specs.Poly.{Kind, Poly, support}
use Rattle.wiring.specs.Quadratic.{factor, in_v2, unmet, nonsquares}

module _ {M : Type 0} (k : Kind M) (o : Order k.same k.before) (v : List M) where
  -- ---- V2
  -- two members of v whose product is m
  pub record Factors (m : M) : Type 0 where
    pub a : M
    pub b : M
    pub a_in : a ∈ v
    pub b_in : b ∈ v
    pub is : k.mul a b ≡ m

  pub in_v2_in : (m : M) → Factors m → T (in_v2 k v m)
  unfolding in_v2 factor
  in_v2_in m f =
      let x : M = k.mul f.a f.b in
      any_in (factor k v m) f.a_in (any_in (λ y. k.same (k.mul f.a y) m) f.b_in (subst (λ z. T (k.same x z)) f.is (o.same_refl x)))

  pub in_v2_out : (m : M) → T (in_v2 k v m) → Factors m
  unfolding in_v2 factor
  in_v2_out m t =
      let p : Passing (factor k v m) v = any_out (factor k v m) v t in
      let q : Passing (λ y. k.same (k.mul p.entry y) m) v = any_out (λ y. k.same (k.mul p.entry y) m) v p.passes in
      record { a = p.entry; b = q.entry; a_in = p.member; b_in = q.member; is = o.same_eq (k.mul p.entry q.entry) m q.passes }

  -- ---- monomials outside V2
  pub unmet_in : (p : Poly M) (m : M) → m ∈ support k p → (T (in_v2 k v m) → ⊥) → m ∈ unmet k v p
  unfolding unmet
  unmet_in p m h n = keep_in (λ x. not (in_v2 k v x)) (support k p) h (not_T (in_v2 k v m) n)

  pub unmet_out : (p : Poly M) (m : M) → m ∈ unmet k v p → (m ∈ support k p) × (T (in_v2 k v m) → ⊥)
  unfolding unmet
  unmet_out p m h = let f = keep_out (λ x. not (in_v2 k v x)) (support k p) h in (f.0, T_not (in_v2 k v m) f.1)

  pub nonsquares_in : (d : M → Poly M) (z m : M) → z ∈ v → m ∈ unmet k v (d z) → m ∈ nonsquares k v d
  unfolding nonsquares
  nonsquares_in d z m h n = arrange_in o (gather (λ x. unmet k v (d x)) v) (gather_in (λ x. unmet k v (d x)) v h n)

  pub record Nonsquare (d : M → Poly M) (m : M) : Type 0 where
    pub of : M
    pub of_in : of ∈ v
    pub missing : m ∈ unmet k v (d of)

  pub nonsquares_out : (d : M → Poly M) (m : M) → m ∈ nonsquares k v d → Nonsquare d m
  unfolding nonsquares
  nonsquares_out d m h =
      let g : Gathered (λ x. unmet k v (d x)) m v = gather_out (λ x. unmet k v (d x)) v (arrange_out o (gather (λ x. unmet k v (d x)) v) h) in
      record { of = g.entry; of_in = g.member; missing = g.inside }

  pub nonsquares_asc : (d : M → Poly M) → Ascending k.before (nonsquares k v d)
  unfolding nonsquares
  nonsquares_asc d = arrange_asc o (gather (λ x. unmet k v (d x)) v)

  -- there is a nonsquare exactly when some derivative has one
  pub some_nonsquares : (d : M → Poly M) → some (nonsquares k v d) ≡ any (λ z. some (unmet k v (d z))) v
  some_nonsquares d = same_test (some (nonsquares k v d)) (any has v) there_is one_is
    where
      has : M → Bool
      has z = some (unmet k v (d z))

      there_is : T (some (nonsquares k v d)) → T (any has v)
      there_is t =
          let x : (m : M) × (m ∈ nonsquares k v d) = some_out (nonsquares k v d) t in
          let n : Nonsquare d x.0 = nonsquares_out d x.0 x.1 in
          any_in has n.of_in (some_in n.missing)

      one_is : T (any has v) → T (some (nonsquares k v d))
      one_is t =
          let p : Passing has v = any_out has v t in
          let x : (m : M) × (m ∈ unmet k v (d p.entry)) = some_out (unmet k v (d p.entry)) p.passes in
          some_in (nonsquares_in d p.entry x.0 p.member x.1)
