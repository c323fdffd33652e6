-- Each line of a listing by its number. Assumes nothing.
use mathlib.Core.Path.{◌≡◌, refl, sym, ap, ◌∙◌}
use mathlib.Core.List.{List, [], ◌∷◌, ◌++◌, map}
use Prim.Native.Nat.{ℕ, zero, suc, ◌+◌, ◌-◌, ◌≤◌, ◌<◌}
use native.Mathlib.Omega.{arith}
use lib.ListN.{length, get_or, length-map, get_or-append, get_or-eq_default}
use lib.Seq.{get_or-append-add}
use Rattle.monomial.specs.Monomial.{Mono}
use Rattle.wiring.specs.Wires.{Wire}
use Rattle.reader.specs.Bytes.{newline}
use Rattle.listing.specs.Bytes.{heading}
use Rattle.listing.specs.Lines.{lefts, left_of}
use Rattle.listing.specs.declared.known.Known.{Known}
use Rattle.listing.proofs.lines.Laws.{left_none, left_here}
use Rattle.grammar.specs.Grammar.{name_text}
use Rattle.typed.specs.Typed.{factors_of, name_lines, derivative_line, listing_lines}

pub names_length : (k : Known) (i : ℕ) (s : List Mono) → length (name_lines k i s) ≡ length s
unfolding name_lines
names_length k i [] = refl
names_length k i (m ∷ s) = ap suc (names_length k (i + 1) s)

names_at : (k : Known) (i : ℕ) (s : List Mono) (j : ℕ) (d : Mono) → j < length s → get_or (name_lines k i s) j [] ≡ name_text k (i + j) (factors_of (get_or s j d))
unfolding name_lines
names_at k i [] j d h = let z : ⊥ = omega arith in absurd z
names_at k i (m ∷ s) zero d h = let e : i + 0 ≡ i = omega arith in rw e
names_at k i (m ∷ s) (suc j) d h = let e : i + 1 + j ≡ i + suc j = omega arith in rw (← e) (names_at k (i + 1) s j d (omega arith))

mapped : {A : Type 0} (f : A → List ℕ) (l : List A) (i : ℕ) (d : A) → i < length l → get_or (map f l) i [] ≡ f (get_or l i d)
mapped f [] i d h = let z : ⊥ = omega arith in absurd z
mapped f (x ∷ l) zero d h = refl
mapped f (x ∷ l) (suc i) d h = mapped f l i d (omega arith)

module _ (k : Known) (s : List Mono) (ws : List Wire) where
  abbrev derivatives : List (List ℕ)
  derivatives = map (derivative_line k ws) (lefts k (length s))

  abbrev rest : List (List ℕ)
  rest = (newline ∷ []) ∷ derivatives

  pub heading_first : (j : ℕ) → j ≡ 0 → heading ≡ get_or (listing_lines k s ws) j []
  unfolding listing_lines
  heading_first j e = rw e

  -- behind the heading
  later : (j : ℕ) → (j ≡ 0 → ⊥) → get_or (listing_lines k s ws) j [] ≡ get_or (name_lines k 0 s ++ rest) (j - 1) []
  unfolding listing_lines
  later zero h = absurd (h refl)
  later (suc j) h = let e : suc j - 1 ≡ j = omega arith in rw e

  pub name_next : (j : ℕ) (d : Mono) → (j ≡ 0 → ⊥) → j - 1 < length s → name_text k (j - 1) (factors_of (get_or s (j - 1) d)) ≡ get_or (listing_lines k s ws) j []
  name_next j d h i =
      let inside : j - 1 < length (name_lines k 0 s) = rw (names_length k 0 s) i in
      let number : 0 + (j - 1) ≡ j - 1 = omega arith in
      sym (later j h ∙ get_or-append (name_lines k 0 s) rest [] (j - 1) inside ∙ rw number at (names_at k 0 s (j - 1) d i))

  -- behind the names
  behind : (j i : ℕ) → (j ≡ 0 → ⊥) → j - 1 ≡ length s + i → get_or (listing_lines k s ws) j [] ≡ get_or rest i []
  behind j i h e =
      let at : j - 1 ≡ length (name_lines k 0 s) + i = omega (arith, names_length k 0 s) in
      later j h ∙ ap (λ (n : ℕ). get_or (name_lines k 0 s ++ rest) n []) at ∙ get_or-append-add (name_lines k 0 s) rest i []

  pub blank_next : (j : ℕ) → (j ≡ 0 → ⊥) → j - 1 ≡ length s → newline ∷ [] ≡ get_or (listing_lines k s ws) j []
  blank_next j h e = sym (behind j 0 h (omega arith))

  beyond : (j i : ℕ) → (j ≡ 0 → ⊥) → j - 1 ≡ length s + suc i → get_or (listing_lines k s ws) j [] ≡ get_or derivatives i []
  beyond j i h e = behind j (suc i) h e

  module _ (j i l : ℕ) (h : j ≡ 0 → ⊥) (e : j - 1 ≡ length s + suc i) (is : l ≡ left_of k (length s) i) where
    pub derivative_next : (l ≡ 0 → ⊥) → derivative_line k ws l ≡ get_or (listing_lines k s ws) j []
    unfolding left_of
    derivative_next f =
        let here : i < length (lefts k (length s)) = left_here k (length s) i (λ g. f (is ∙ g)) in
        sym (beyond j i h e ∙ mapped (derivative_line k ws) (lefts k (length s)) i 0 here ∙ ap (derivative_line k ws) (sym is))

    pub none_next : l ≡ 0 → [] ≡ get_or (listing_lines k s ws) j []
    none_next z =
        let past : length (lefts k (length s)) ≤ i = left_none k (length s) i (sym is ∙ z) in
        let long : length derivatives ≤ i = rw (length-map (lefts k (length s)) (derivative_line k ws)) past in
        sym (beyond j i h e ∙ get_or-eq_default derivatives [] long)
