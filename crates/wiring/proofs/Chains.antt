-- Chains that ask about the entries of a list say what the test of the entries says: one over the entries, and one over their numbers. Assumes nothing.
use mathlib.Core.Path.{◌≡◌, refl, sym, ap, ap₂, ◌∙◌}
use mathlib.Core.Bool.{Bool, ◌&&◌, ◌||◌}
use mathlib.Core.List.{List, [], ◌∷◌}
use Prim.Native.Nat.{ℕ, suc, ◌+◌, ◌<◌}
use native.Mathlib.Omega.{arith}
use lib.ListN.{length, get_or}
use Rattle.std.specs.List.{list_any, list_all, range_with_len}
use Rattle.monomial.specs.Lists.{any, all}

-- ---- over the entries
pub all_list : {A : Type 0} (f : A → Bool) (l : List A) → list_all f l ≡ all f l
unfolding all
all_list f [] = refl
all_list f (x ∷ l) = ap (◌&&◌ (f x)) (all_list f l)

-- ---- over their numbers
module _ {A : Type 0} (f : A → Bool) (p : ℕ → Bool) where
  -- from number a on the chain asks about the entries of l
  Asks : ℕ → List A → Type 0
  Asks a l = (i : ℕ) (d : A) → i < length l → p (a + i) ≡ f (get_or l i d)

  head : (a : ℕ) (x : A) (l : List A) → Asks a (x ∷ l) → p a ≡ f x
  unfolding Asks
  head a x l h = let e : a ≡ a + 0 = omega arith in ap p e ∙ h 0 x (omega arith)

  tail : (a : ℕ) (x : A) (l : List A) → Asks a (x ∷ l) → Asks (a + 1) l
  unfolding Asks
  tail a x l h i d k = let e : a + 1 + i ≡ a + suc i = omega arith in ap p e ∙ h (suc i) d (omega arith)

  any_on : (a : ℕ) (l : List A) → Asks a l → list_any p (range_with_len a (length l)) ≡ any f l
  unfolding any
  any_on a [] h = refl
  any_on a (x ∷ l) h = ap₂ ◌||◌ (head a x l h) (any_on (a + 1) l (tail a x l h))

  all_on : (a : ℕ) (l : List A) → Asks a l → list_all p (range_with_len a (length l)) ≡ all f l
  unfolding all
  all_on a [] h = refl
  all_on a (x ∷ l) h = ap₂ ◌&&◌ (head a x l h) (all_on (a + 1) l (tail a x l h))

  module _ (l : List A) (n : ℕ) (long : length l ≡ n) (asks : (i : ℕ) (d : A) → i < n → p i ≡ f (get_or l i d)) where
    asked : Asks 0 l
    unfolding Asks
    asked i d h = let e : 0 + i ≡ i = omega arith in ap p e ∙ asks i d (omega arith)

    pub any_range : list_any p (range_with_len 0 n) ≡ any f l
    any_range = ap (λ (k : ℕ). list_any p (range_with_len 0 k)) (sym long) ∙ any_on 0 l asked

    pub all_range : list_all p (range_with_len 0 n) ≡ all f l
    all_range = ap (λ (k : ℕ). list_all p (range_with_len 0 k)) (sym long) ∙ all_on 0 l asked
