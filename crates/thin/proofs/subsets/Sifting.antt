-- Sifting sets: what one more set comes to, and sets one after the other. Assumes nothing.
use mathlib.Core.Path.{◌≡◌, refl, sym, subst}
use mathlib.Core.Bool.{true, false}
use mathlib.Core.List.{List, [], ◌∷◌, ◌++◌}
use Prim.Native.Nat.{ℕ, suc, ◌+◌, ◌<◌, ◌≤◌}
use native.Mathlib.Omega.{arith}
use borrow.Author.Tests.{lt-ltb, le-ltb}
use lib.ListN.{length, length-append}
use Rattle.monomial.specs.Monomial.{Mono}
use Rattle.wiring.specs.Panel.{cards}
use Rattle.wiring.specs.Poly.{Poly}
use Rattle.wiring.specs.Sets.{monomials_of}
use Rattle.wiring.specs.Answers.{Judgeable}
use Rattle.wiring.specs.declared.held.Set.{Set}
use Rattle.wiring.proofs.signals.Arrays.{front_length}
use Rattle.wiring.specs.Terms.{records, system}
use Rattle.walk.specs.Walk.{Finds}
use Rattle.thin.specs.declared.subsets.Best.{Best}
use Rattle.thin.specs.Subsets.{Tally, tally, is_quadratic, sifted, all_sifted, Begun, Holds, Sifting}

-- a set held by value has as many monomials as it says
module _ (n : ℕ) (terms : List ℕ) (set : Set) (j : Judgeable n terms set) where
  pub set_size : length set.m ≡ cards → set.len ≡ length (monomials_of set)
  set_size full = sym (front_length set.len set.m (omega (arith, set.few)))

-- ---- one more set, by its test and its size
module _ (n : ℕ) (fs : List (Poly Mono)) (t : Tally) (s : List Mono) where
  pub sifted_not : is_quadratic n fs s ≡ false → sifted n fs t s ≡ tally t.order t.sets (suc t.steps)
  unfolding sifted
  sifted_not e = rw e

  module _ (e : is_quadratic n fs s ≡ true) where
    pub sifted_larger : t.order < length s → sifted n fs t s ≡ tally t.order t.sets (suc t.steps)
    unfolding sifted
    sifted_larger h = rw (e, lt-ltb t.order (length s) h)

    pub sifted_smaller : length s < t.order → sifted n fs t s ≡ tally (length s) (s ∷ []) (suc t.steps)
    unfolding sifted
    sifted_smaller h = rw (e, le-ltb t.order (length s) (omega arith), lt-ltb (length s) t.order h)

    pub sifted_alike : length s ≡ t.order → sifted n fs t s ≡ tally (length s) (t.sets ++ (s ∷ [])) (suc t.steps)
    unfolding sifted
    sifted_alike h = rw (e, le-ltb t.order (length s) (omega arith), le-ltb (length s) t.order (omega arith))

-- ---- sets one after the other
pub sifted_append : (n : ℕ) (fs : List (Poly Mono)) (t : Tally) (l l' : Finds) → all_sifted n fs t (l ++ l') ≡ all_sifted n fs (all_sifted n fs t l) l'
unfolding all_sifted
sifted_append n fs t [] l' = refl
sifted_append n fs t (s ∷ l) l' = sifted_append n fs (sifted n fs t s) l l'

module _ (n : ℕ) (terms : List ℕ) where
  abbrev fs : List (Poly Mono)
  fs = system (records terms)

  pub sifting_append : (l l' : Finds) (b : Best) (out : List ℕ) (b' : Best) (out' : List ℕ) (b'' : Best) (out'' : List ℕ)
      → Sifting n terms l b out b' out' → Sifting n terms l' b' out' b'' out'' → Sifting n terms (l ++ l') b out b'' out''
  sifting_append l l' b out b' out' b'' out'' m k = record {
    tallied = λ t h. subst (λ (u : Tally). Holds u b'' out'') (sym (sifted_append n fs t l l')) (k.tallied (all_sifted n fs t l) (m.tallied t h));
    steps = omega (arith, m.steps, k.steps, length-append l l');
    counted = k.counted;
  }

  -- ---- as the code sifts one
  module _ (s : List Mono) (b : Best) (out : List ℕ) (counted : b.count ≤ b.steps) where
    -- it is passed over
    pub sifting_passed : ((t : Tally) → Holds t b out → sifted n fs t s ≡ tally t.order t.sets (suc t.steps))
        → Sifting n terms (s ∷ []) b out (record { order = b.order; count = b.count; steps = b.steps + 1 }) out
    unfolding all_sifted
    sifting_passed is = record {
      tallied = λ t h. rw (is t h) (record { order = h.order; count = h.count; steps = omega (arith, h.steps); list = h.list });
      steps = refl;
      counted = omega arith;
    }

    -- it is smaller than those before, which are cleared away
    pub sifting_smaller : is_quadratic n fs s ≡ true → (size : ℕ) → size ≡ length s → size < b.order → (out' : List ℕ) → Begun ([] ++ (s ∷ [])) out'
        → Sifting n terms (s ∷ []) b out (record { order = size; count = 1; steps = b.steps + 1 }) out'
    unfolding all_sifted
    sifting_smaller e size q h out' l = record {
      tallied = λ t k. rw (sifted_smaller n fs t s e (omega (arith, k.order))) (record { order = q; count = refl; steps = omega (arith, k.steps); list = l });
      steps = refl;
      counted = omega arith;
    }

    -- it is as large as those before
    pub sifting_alike : is_quadratic n fs s ≡ true → (size : ℕ) → size ≡ length s → size ≡ b.order → (out' : List ℕ)
        → ((l : Finds) → b.count ≡ length l → Begun l out → Begun (l ++ (s ∷ [])) out')
        → Sifting n terms (s ∷ []) b out (record { order = size; count = b.count + 1; steps = b.steps + 1 }) out'
    unfolding all_sifted
    sifting_alike e size q h out' l = record {
      tallied = λ t k. rw (sifted_alike n fs t s e (omega (arith, k.order))) (record {
        order = q;
        count = omega (arith, k.count, length-append t.sets (s ∷ []));
        steps = omega (arith, k.steps);
        list = l t.sets k.count k.list;
      });
      steps = refl;
      counted = omega arith;
    }
