-- V2, nonsquares, and Definition 1 of document 001, for a list v of monomials of any kind and a derivation d of them.
-- Assumes nothing.
use Rattle.std.specs.Prelude.{Bool, not, List, ◌∷◌, ◌++◌, map, ℕ, suc, ℤ, take}
use Rattle.monomial.specs.Lists.{any, some, keep, gather, arrange_by}
use Rattle.monomial.specs.Claims.{◌∈◌}
use Rattle.wiring.specs.Poly.{Kind, Poly, Same, support}

-- V of a set s: 1 and the first n of w variables, then the new monomials
abbrev pub members : {M : Type 0} → Kind M → ℕ → ℕ → List M → List M
members k w n s = take (suc n) (k.one w ∷ k.vars w) ++ s

-- two monomials with a whole coefficient
pub record Product (M : Type 0) : Type 0 where
  pub a : M
  pub b : M
  pub coefficient : ℤ

module _ {M : Type 0} (k : Kind M) (v : List M) where
  -- m is the product of a and a member of v
  unfoldable pub factor : M → M → Bool
  factor m a = any (λ b. k.same (k.mul a b) m) v

  -- m is in V2: it is the product of two members of v, equal ones included
  unfoldable pub in_v2 : M → Bool
  in_v2 m = any (factor m) v

  -- the monomials of p, with nonzero coefficient, that are not in V2
  unfoldable pub unmet : Poly M → List M
  unmet p = keep (λ m. not (in_v2 m)) (support k p)

  -- p has such a monomial
  abbrev pub lacking : Poly M → Bool
  lacking p = some (unmet p)

  -- the nonsquares: those in derivatives of members of v, ascending, each once
  unfoldable pub nonsquares : (M → Poly M) → List M
  nonsquares d = arrange_by k.same k.before (gather (λ z. unmet (d z)) v)

  -- a list of products, multiplied out
  unfoldable pub multiplied : List (Product M) → Poly M
  multiplied l = map (λ p. (p.coefficient, k.mul p.a p.b)) l

  -- p is equal, coefficient by coefficient, to a list of products of two members of v
  pub record Linked (p : Poly M) : Type 0 where
    pub list : List (Product M)
    pub members : (q : Product M) → q ∈ list → (q.a ∈ v) × (q.b ∈ v)
    pub equal : Same k (multiplied list) p

  -- Definition 1: so is the derivative of each member of v
  abbrev pub Quadratic : (M → Poly M) → Type 0
  Quadratic d = (z : M) → z ∈ v → Linked (d z)
