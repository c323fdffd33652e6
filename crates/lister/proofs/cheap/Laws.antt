-- A pair is cheap where just one of the two adds something: exactly one of them is not in V, or they are one that is not. Assumes nothing.
use mathlib.Core.Path.{◌≡◌, refl, sym, ap, ◌∙◌}
use mathlib.Core.Logic.{◌⊎◌, inl, inr}
use mathlib.Core.Bool.{Bool, true, false, cond, not, beq, ◌||◌}
use mathlib.Core.List.{List}
use Rattle.monomial.specs.Lists.{any, insert_by}
use Rattle.monomial.specs.Monomial.{Mono}
use Rattle.monomial.specs.Order.{same, before}
use Rattle.monomial.proofs.Tests.{is→T, is_not}
use Rattle.monomial.proofs.order.Laws.{mono_order}
use Rattle.lister.specs.declared.cheap.Held.{Held}
use Rattle.lister.specs.Cheap.{added, cheap, Holds}

-- by three tests: whether V has the first and the second, and whether they are one
module _ (v : List Mono) (a b : Mono) where
  -- two that are one are both in V or both not
  alike : same a b ≡ true → any (same a) v ≡ any (same b) v
  alike e = ap (λ (m : Mono). any (same m) v) (mono_order.same_eq a b (is→T (same a b) e))

  pub cheap_by : (x y z : Bool) → any (same a) v ≡ x → any (same b) v ≡ y → same a b ≡ z → cheap v (a, b) ≡ cond (z || x) (not y) y
  unfolding cheap added insert_by
  cheap_by true true true p q e = rw (p, q)
  cheap_by true true false p q e = rw (p, q)
  cheap_by true false true p q e = rw (p, q)
  cheap_by true false false p q e = rw (p, q)
  cheap_by false true true p q e = let z : false ≡ true = sym p ∙ alike e ∙ q in absurd (subst_false z)
    where
      subst_false : ◌≡◌ {A = Bool} false true → ⊥
      subst_false z = is→T false z
  cheap_by false true false p q e = rw (p, q)
  cheap_by false false true p q e = rw (p, q, e)
  cheap_by false false false p q e = two (before a b) refl
    where
      two : (c : Bool) → before a b ≡ c → cheap v (a, b) ≡ false
      two true c = rw (p, q, e, c)
      two false c = rw (p, q, e, c)

-- just one of two tests
just_one : (a b : Bool) → not (beq a b) ≡ cond a (not b) b
just_one true true = refl
just_one true false = refl
just_one false true = refl
just_one false false = refl

-- as it was asked
pub cheap_held : (v : List Mono) (p : Mono × Mono) (h : Held) → Holds v p h → not (beq h.first h.second) ≡ cheap v p
cheap_held v p h q =
    just_one h.first h.second ∙ rw (q.first, q.second) refl
    ∙ sym (cheap_by v p.0 p.1 (any (same p.0) v) (any (same p.1) v) (same p.0 p.1) refl refl refl)

-- a pair of the rest adds nothing, or both of the two
pub dear_out : (v : List Mono) (p : Mono × Mono) → cheap v p ≡ false
    → (((same p.0 p.1 || any (same p.0) v) ≡ true) × (any (same p.1) v ≡ true)) ⊎ (((same p.0 p.1 || any (same p.0) v) ≡ false) × (any (same p.1) v ≡ false))
dear_out v p e = go (same p.0 p.1 || any (same p.0) v) (any (same p.1) v) (sym (cheap_by v p.0 p.1 (any (same p.0) v) (any (same p.1) v) (same p.0 p.1) refl refl refl) ∙ e)
  where
    go : (x y : Bool) → cond x (not y) y ≡ false → ((x ≡ true) × (y ≡ true)) ⊎ ((x ≡ false) × (y ≡ false))
    go true true q = inl (refl, refl)
    go true false q = absurd (is_not true refl q)
    go false true q = absurd (is_not true refl q)
    go false false q = inr (refl, refl)
