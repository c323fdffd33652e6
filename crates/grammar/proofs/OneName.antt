-- Two first parts that are written alike have the same factors. Assumes nothing.
use mathlib.Core.Path.{◌≡◌, refl, sym, ap, ap₂, ◌∙◌}
use mathlib.Core.List.{List, [], ◌∷◌, ◌++◌, map, append_assoc}
use Prim.Native.Nat.{ℕ, zero, suc, ◌+◌, ◌≤◌}
use native.Mathlib.Omega.{arith}
use borrow.Author.Tests.{ne_eqb}
use lib.ListN.{length}
use Rattle.monomial.specs.Lists.{gather}
use Rattle.monomial.specs.Claims.{◌∈◌}
use Rattle.monomial.proofs.Members.{here, there}
use Rattle.lines.specs.Text.{decimal, joined}
use Rattle.reader.specs.Bytes.{newline, blank, nought}
use Rattle.listing.specs.Bytes.{star, letter_w, letter_x}
use Rattle.listing.specs.declared.known.Known.{Known}
use Rattle.grammar.specs.Grammar.{Factor, exponent_text, factor_text, name_text, names_from}
use Rattle.grammar.proofs.NamesBack.{joined_more}
use Rattle.grammar.proofs.Apart.{heads, same_front, From, begins, number_is}

factor : ℕ → ℕ → Factor
factor variable exponent = record { variable = variable; exponent = exponent }

module _ (k : Known) where
  -- the factors behind one
  abbrev on_text : List Factor → List ℕ
  on_text fs = gather (λ y. star ∷ y) (map (factor_text k) fs)

  on_from : (fs : List Factor) (a : List ℕ) → From 0 47 (on_text fs ++ (newline ∷ a))
  unfolding gather
  on_from [] a = begins (omega arith) (omega arith)
  on_from (f ∷ fs) a = begins (omega arith) (omega arith)

  stars_not : {C : Type 0} (fs : List Factor) (a : List ℕ) {r : List ℕ} → on_text fs ++ (newline ∷ a) ≡ star ∷ star ∷ r → C
  unfolding gather factor_text
  stars_not [] a e = absurd (omega (arith, (heads e).0))
  stars_not (f ∷ fs) a e = absurd (omega (arith, (heads (heads e).1).0))

  some_text : (e : ℕ) → exponent_text k (suc e) ≡ star ∷ star ∷ decimal (suc e)
  unfolding exponent_text
  some_text e = rw (ne_eqb (suc e) 0 (omega arith))

  exponent_is : (d e : ℕ) (fs gs : List Factor) (a b : List ℕ) → exponent_text k d ++ (on_text fs ++ (newline ∷ a)) ≡ exponent_text k e ++ (on_text gs ++ (newline ∷ b))
      → (d ≡ e) × (on_text fs ++ (newline ∷ a) ≡ on_text gs ++ (newline ∷ b))
  unfolding exponent_text
  exponent_is zero zero fs gs a b e = (refl, e)
  exponent_is zero (suc d) fs gs a b e = stars_not fs a (rw (some_text d) at e)
  exponent_is (suc c) zero fs gs a b e = stars_not gs b (sym (rw (some_text c) at e))
  exponent_is (suc c) (suc d) fs gs a b e =
      number_is (suc c) (suc d) (on_text fs ++ (newline ∷ a)) (on_text gs ++ (newline ∷ b)) (on_from fs a) (on_from gs b) (same_front (star ∷ star ∷ []) (rw (some_text c, some_text d) at e))

  factors_are : (fs gs : List Factor) {a b : List ℕ} → on_text fs ++ (newline ∷ a) ≡ on_text gs ++ (newline ∷ b) → (fs ≡ gs) × (a ≡ b)
  unfolding gather factor_text factor
  factors_are [] [] e = (refl, (heads e).1)
  factors_are [] (g ∷ gs) e = absurd (omega (arith, (heads e).0))
  factors_are (f ∷ fs) [] e = absurd (omega (arith, (heads e).0))
  factors_are (f ∷ fs) (g ∷ gs) {a} {b} e =
      let one = heads (same_front (star ∷ letter_x ∷ []) e) in
      let x : f.variable ≡ g.variable = omega (arith, one.0) in
      let two = sym (append_assoc (exponent_text k f.exponent) (on_text fs) (newline ∷ a)) ∙ one.1 ∙ append_assoc (exponent_text k g.exponent) (on_text gs) (newline ∷ b) in
      let r = exponent_is f.exponent g.exponent fs gs a b two in
      let q = factors_are fs gs r.1 in
      (ap₂ ◌∷◌ (ap₂ factor x r.0) q.0, q.1)

  pub names_are : (i : ℕ) (l m : List (List Factor)) {a b : List ℕ} → ((fs : List Factor) → fs ∈ l → 1 ≤ length fs) → ((fs : List Factor) → fs ∈ m → 1 ≤ length fs)
      → names_from k i l ++ (newline ∷ a) ≡ names_from k i m ++ (newline ∷ b) → (l ≡ m) × (a ≡ b)
  unfolding names_from name_text
  names_are i [] [] h j e = (refl, (heads e).1)
  names_are i [] (g ∷ m) h j e = absurd (omega (arith, (heads e).0))
  names_are i (f ∷ l) [] h j e = absurd (omega (arith, (heads e).0))
  names_are i (f ∷ l) (g ∷ m) {a} {b} h j e =
      let line = sym (parted f l a (h f here)) ∙ ap (λ r. star ∷ r) (same_front (letter_w ∷ (nought + i) ∷ blank ∷ 61 ∷ blank ∷ []) e) ∙ parted g m b (j g here) in
      let r = factors_are f g line in
      let q = names_are (i + 1) l m (λ x n. h x (there n)) (λ x n. j x (there n)) r.1 in
      (ap₂ ◌∷◌ r.0 q.0, q.1)
    where
      -- a line's factors and its end, with one star more
      parted : (fs : List Factor) (n : List (List Factor)) (c : List ℕ) → 1 ≤ length fs
          → star ∷ ((joined star (map (factor_text k) fs) ++ (newline ∷ [])) ++ names_from k (i + 1) n) ++ (newline ∷ c) ≡ on_text fs ++ (newline ∷ (names_from k (i + 1) n ++ (newline ∷ c)))
      parted fs n c s =
          let j = joined star (map (factor_text k) fs) in
          let rest = names_from k (i + 1) n in
          ap (λ r. star ∷ r) (append_assoc (j ++ (newline ∷ [])) rest (newline ∷ c) ∙ append_assoc j (newline ∷ []) (rest ++ (newline ∷ c)))
          ∙ ap (λ r. r ++ (newline ∷ (rest ++ (newline ∷ c)))) (sym (joined_more k fs s))
