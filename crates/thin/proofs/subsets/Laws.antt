-- The subsets of a list: those with its first entry and those without, so 2 to the power of its length. Assumes nothing.
use mathlib.Core.Path.{◌≡◌, refl, sym, ap, ◌∙◌}
use mathlib.Core.List.{List, [], ◌∷◌, ◌++◌, map, map-map, map-append, append-nil, append_assoc}
use Prim.Native.Nat.{suc, ◌*◌, ◌^◌}
use native.Mathlib.Omega.{arith}
use native.Mathlib.Nat.{pow-succ'}
use lib.ListN.{length, length-append, length-map}
use Rattle.monomial.proofs.Members.{map_same}
use Rattle.thin.specs.Subsets.{subsets}

module _ {A : Type 0} where
  -- entries that are kept, before each subset of what is undecided
  pub behind_none : (a : List A) → map (λ (s : List A). a ++ s) (subsets []) ≡ a ∷ []
  unfolding subsets
  behind_none a = ap (λ (s : List A). s ∷ []) (append-nil a)

  -- the first of the undecided joins them, or it does not
  pub behind_first : (a : List A) (x : A) (l : List A)
      → map (λ (s : List A). a ++ s) (subsets (x ∷ l)) ≡ map (λ (s : List A). (a ++ (x ∷ [])) ++ s) (subsets l) ++ map (λ (s : List A). a ++ s) (subsets l)
  unfolding subsets
  behind_first a x l =
      let with : map (λ (s : List A). a ++ s) (map (◌∷◌ x) (subsets l)) ≡ map (λ (s : List A). (a ++ (x ∷ [])) ++ s) (subsets l) =
      map-map (λ (s : List A). a ++ s) (◌∷◌ x) (subsets l) ∙ map_same _ _ (subsets l) (λ s m. sym (append_assoc a (x ∷ []) s)) in
      map-append (λ (s : List A). a ++ s) (map (◌∷◌ x) (subsets l)) (subsets l) ∙ ap (λ (u : List (List A)). u ++ map (λ (s : List A). a ++ s) (subsets l)) with

  pub subsets_count : (l : List A) → length (subsets l) ≡ 2 ^ length l
  unfolding subsets
  subsets_count [] = refl
  subsets_count (x ∷ l) =
      let ih : length (subsets l) ≡ 2 ^ length l = subsets_count l in
      let double : 2 ^ suc (length l) ≡ 2 * 2 ^ length l = pow-succ' 2 (length l) in
      length-append (map (◌∷◌ x) (subsets l)) (subsets l) ∙ omega (arith, length-map (subsets l) (◌∷◌ x), ih, double)
