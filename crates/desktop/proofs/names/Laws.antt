-- Capped exponents: noting them comes to what noting the exponents themselves comes to, capped. Assumes nothing.
use mathlib.Core.Path.{◌≡◌, refl, sym, ap, ap₂, ◌∙◌}
use mathlib.Core.List.{List, [], ◌∷◌, ◌++◌, map}
use Prim.Native.Nat.{ℕ, zero, suc, ◌+◌, ◌*◌, ◌≤◌, ◌<◌}
use native.Mathlib.Omega.{arith}
use lib.Dec.{leb}
use lib.ListN.{get_or, set, replicate, length-append}
use borrow.Author.Tests.{leb-true, leb-false, le-leb}
use Rattle.monomial.specs.Monomial.{Mono, width}
use Rattle.monomial.specs.declared.Monomial.{Monomial}
use Rattle.monomial.proofs.Tests.{Tested, passed, failed, test}
use Rattle.wiring.specs.Panel.{cards}
use Rattle.wiring.specs.Sets.{monomials_of}
use Rattle.wiring.specs.declared.held.Set.{Set}
use Rattle.listing.specs.Meaning.{closed, named, unnamed}
use Rattle.listing.specs.declared.saying.Saying.TheVariants.{Variable, Raised, Digit, NameEnds}
use Rattle.desktop.specs.Names.{above, cap, capped, Notes, Holds}
use Rattle.desktop.specs.declared.names.Naming.{Naming}

-- a cap is kept below the bound, and is the bound from there on
data Capping (x : ℕ) : Type 0 where
  below : x ≤ above → cap x ≡ x → Capping x
  over : above < x → cap x ≡ above → Capping x

capping : (x : ℕ) → Capping x
unfolding cap
capping x = go (test (leb x above))
  where
    go : Tested (leb x above) → Capping x
    go (passed e) = below (leb-true x above e) (rw e)
    go (failed e) = over (leb-false x above e) (rw e)

pub cap_low : (x : ℕ) → x ≤ above → cap x ≡ x
unfolding cap
cap_low x h = rw (le-leb x above h)

pub cap_over : (x : ℕ) → above ≤ x → cap x ≡ above
cap_over x h = go (capping x)
  where
    go : Capping x → cap x ≡ above
    go (below i e) = omega arith
    go (over i e) = e

pub cap_most : (x : ℕ) → cap x ≤ above
cap_most x = go (capping x)
  where
    go : Capping x → cap x ≤ above
    go (below i e) = omega arith
    go (over i e) = omega arith

-- a sum whose parts are capped first
cap_both : (x y : ℕ) → (x ≡ y) → cap x ≡ cap y
cap_both x y e = ap cap e

pub cap_sum : (a p : ℕ) → cap (cap a + cap p) ≡ cap (a + p)
cap_sum a p = go (capping a) (capping p)
  where
    go : Capping a → Capping p → cap (cap a + cap p) ≡ cap (a + p)
    go (below i e) (below j f) = cap_both (cap a + cap p) (a + p) (omega arith)
    go (below i e) (over j f) = cap_over (cap a + cap p) (omega arith) ∙ sym (cap_over (a + p) (omega arith))
    go (over i e) f = cap_over (cap a + cap p) (omega arith) ∙ sym (cap_over (a + p) (omega arith))

pub cap_tens : (p d : ℕ) → cap (10 * cap p + d) ≡ cap (10 * p + d)
cap_tens p d = go (capping p)
  where
    go : Capping p → cap (10 * cap p + d) ≡ cap (10 * p + d)
    go (below i e) = cap_both (10 * cap p + d) (10 * p + d) (omega arith)
    go (over i e) = cap_over (10 * cap p + d) (omega arith) ∙ sym (cap_over (10 * p + d) (omega arith))

-- ---- of monomials
capped_at : (m : Mono) (i : ℕ) → get_or (capped m) i 0 ≡ cap (get_or m i 0)
capped_at [] i = sym (cap_low 0 (omega arith))
capped_at (x ∷ m) zero = refl
capped_at (x ∷ m) (suc i) = capped_at m i

capped_set : (m : Mono) (i x : ℕ) → capped (set m i x) ≡ set (capped m) i (cap x)
capped_set [] i x = refl
capped_set (y ∷ m) zero x = refl
capped_set (y ∷ m) (suc i) x = ap (◌∷◌ (cap y)) (capped_set m i x)

pub capped_closed : (m : Mono) (i p : ℕ) → set (capped m) i (cap (get_or (capped m) i 0 + cap p)) ≡ capped (set m i (get_or m i 0 + p))
capped_closed m i p =
    ap (λ x. set (capped m) i (cap (x + cap p))) (capped_at m i) ∙ ap (set (capped m) i) (cap_sum (get_or m i 0) p) ∙ sym (capped_set m i (get_or m i 0 + p))

-- one more at the end
pub map_last : {A B : Type 0} (f : A → B) (l : List A) (x : A) → map f (l ++ (x ∷ [])) ≡ map f l ++ (f x ∷ [])
map_last f [] x = refl
map_last f (y ∷ l) x = ap (◌∷◌ (f y)) (map_last f l x)

-- ---- each saying: the code's notes hold the listing's
module _ (k : Naming) (q : Notes) (h : Holds q k) where
  abbrev notes : Set → Monomial → ℕ → ℕ → Naming
  notes names mono variable power = record { names = names; mono = mono; variable = variable; power = power }

  closed_is : (m : Monomial) → m.e ≡ set k.mono.e k.variable (cap (get_or k.mono.e k.variable 0 + k.power)) → m.e ≡ capped (closed q)
  closed_is m e =
      e ∙ ap₂ (λ (l : Mono) (i : ℕ). set l i (cap (get_or l i 0 + k.power))) h.mono h.variable
      ∙ ap (λ p. set (capped q.mono) q.variable (cap (get_or (capped q.mono) q.variable 0 + p))) h.power
      ∙ capped_closed q.mono q.variable q.power

  pub holds_variable : (m : Monomial) (v : ℕ) → m.e ≡ set k.mono.e k.variable (cap (get_or k.mono.e k.variable 0 + k.power))
      → Holds (named (Variable v) q) (notes k.names m v 1)
  unfolding named
  holds_variable m v e = record { whole = h.whole; size = h.size; mono = closed_is m e; variable = refl; power = sym (cap_low 1 (omega arith)) }

  pub holds_raised : Holds (named Raised q) (notes k.names k.mono k.variable 0)
  unfolding named
  holds_raised = record { whole = h.whole; size = h.size; mono = h.mono; variable = h.variable; power = sym (cap_low 0 (omega arith)) }

  pub holds_digit : (d p : ℕ) → p ≡ cap (10 * k.power + d) → Holds (named (Digit d) q) (notes k.names k.mono k.variable p)
  unfolding named
  holds_digit d p e = record {
    whole = h.whole;
    size = h.size;
    mono = h.mono;
    variable = h.variable;
    power = e ∙ ap (λ x. cap (10 * x + d)) h.power ∙ cap_tens q.power d;
  }

  pub holds_ended : (m one : Monomial) (s : Set) → m.e ≡ set k.mono.e k.variable (cap (get_or k.mono.e k.variable 0 + k.power))
      → monomials_of s ≡ monomials_of k.names ++ (m.e ∷ []) → s.len ≡ k.names.len + 1 → one.e ≡ replicate width 0
      → Holds (named NameEnds q) (notes s one 0 0)
  unfolding named cap
  holds_ended m one s e f l o = record {
    whole = f ∙ ap₂ (λ (a : List Mono) (b : Mono). a ++ (b ∷ [])) h.whole (closed_is m e) ∙ sym (map_last capped q.whole (closed q));
    size = l ∙ ap (λ n. n + 1) h.size ∙ sym (length-append q.whole (closed q ∷ []));
    mono = o;
    variable = refl;
    power = sym (cap_low 0 (omega arith));
  }

-- before the first byte
pub empty_holds : (few : 0 ≤ cards) → Holds unnamed (record { names = record { m = replicate cards (record { e = replicate width 0 }); len = 0; few = few }; mono = record { e = replicate width 0 }; variable = 0; power = 0 })
unfolding cap
empty_holds few = record { whole = refl; size = refl; mono = refl; variable = refl; power = refl }
