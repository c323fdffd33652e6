-- A list in another order: the same entries, each as often. Assumes nothing.
use mathlib.Core.Path.{◌≡◌, refl, sym, ap, ◌∙◌, subst}
use mathlib.Core.Logic.{◌⊎◌, inl, inr, ⊎_elim}
use mathlib.Core.Bool.{Bool, not}
use mathlib.Core.List.Memᴰ
use mathlib.Core.List.{List, [], ◌∷◌, ◌++◌}
use Prim.Native.Nat.{ℕ, suc, ◌+◌}
use native.Mathlib.Omega.{arith}
use lib.ListN.{length, length-append}
use Rattle.monomial.specs.Lists.{keep, gather}
use Rattle.monomial.specs.Claims.{◌∈◌, Rearranged}
use Rattle.monomial.proofs.Tests.{Tested, passed, failed, test}
use Rattle.monomial.proofs.Members.{there, keep_append, gather_append}

module _ {A : Type 0} where
  pub between_in : (front back : List A) (x : A) {y : A} → (y ≡ x) ⊎ (y ∈ (front ++ back)) → y ∈ (front ++ (x ∷ back))
  between_in front back x (inl e) = Memᴰ.append_right front (Memᴰ.head e)
  between_in front back x (inr h) = ⊎_elim (λ k. Memᴰ.append_left (x ∷ back) k) (λ k. Memᴰ.append_right front (there k)) (Memᴰ.append_cases front h)

  pub between_out : (front back : List A) (x : A) {y : A} → y ∈ (front ++ (x ∷ back)) → (y ≡ x) ⊎ (y ∈ (front ++ back))
  between_out front back x h =
      ⊎_elim (λ k. inr (Memᴰ.append_left back k))
      (λ k. ⊎_elim (λ e. inl e) (λ j. inr (Memᴰ.append_right front j)) (Memᴰ.cases_cons k))
      (Memᴰ.append_cases front h)

  -- a list with an entry more is one longer
  pub between_length : (front back : List A) (x : A) → length (front ++ (x ∷ back)) ≡ suc (length (front ++ back))
  between_length front back x = omega (arith, length-append front (x ∷ back), length-append front back)

  pub rearranged_self : (l : List A) → Rearranged l l
  rearranged_self [] = refl
  rearranged_self (x ∷ l) = ([], l, refl, rearranged_self l)

  -- those that pass a test first, then the others, each in their order
  pub first_rearranged : (f : A → Bool) (l : List A) → Rearranged l (keep f l ++ keep (λ x. not (f x)) l)
  unfolding keep
  first_rearranged f [] = refl
  first_rearranged f (x ∷ l) = go (test (f x)) (first_rearranged f l)
    where
      go : Tested (f x) → Rearranged l (keep f l ++ keep (λ y. not (f y)) l) → Rearranged (x ∷ l) (keep f (x ∷ l) ++ keep (λ y. not (f y)) (x ∷ l))
      go (passed e) ih = rw e ([], keep f l ++ keep (λ y. not (f y)) l, refl, ih)
      go (failed e) ih = rw e (keep f l, keep (λ y. not (f y)) l, refl, ih)

  -- the same entries
  pub rearranged_in : (l l' : List A) → Rearranged l l' → (y : A) → y ∈ l → y ∈ l'
  rearranged_in [] l' q y h = absurd (Memᴰ.not-nil h)
  rearranged_in (x ∷ l) l' q y h =
      subst (λ r. y ∈ r) (sym q.2)
      (between_in q.0 q.1 x (⊎_elim (λ e. inl e) (λ k. inr (rearranged_in l (q.0 ++ q.1) q.3 y k)) (Memᴰ.cases_cons h)))

  pub rearranged_out : (l l' : List A) → Rearranged l l' → (y : A) → y ∈ l' → y ∈ l
  rearranged_out [] l' q y h = subst (λ r. y ∈ r) q h
  rearranged_out (x ∷ l) l' q y h =
      ⊎_elim (λ e. Memᴰ.head e) (λ k. there (rearranged_out l (q.0 ++ q.1) q.3 y k))
      (between_out q.0 q.1 x (subst (λ r. y ∈ r) q.2 h))

  -- as many of them
  pub rearranged_length : (l l' : List A) → Rearranged l l' → length l ≡ length l'
  rearranged_length [] l' q = ap length (sym q)
  rearranged_length (x ∷ l) l' q =
      let ih : length l ≡ length (q.0 ++ q.1) = rearranged_length l (q.0 ++ q.1) q.3 in
      ap suc ih ∙ sym (between_length q.0 q.1 x) ∙ ap length (sym q.2)

-- a test keeps as many of what is gathered
module _ {A B : Type 0} (f : B → Bool) (g : A → List B) where
  abbrev kept : List A → ℕ
  kept l = length (keep f (gather g l))

  kept_append : (a b : List A) → kept (a ++ b) ≡ kept a + kept b
  kept_append a b =
      ap length (ap (keep f) (gather_append g a b) ∙ keep_append f (gather g a) (gather g b)) ∙ length-append (keep f (gather g a)) (keep f (gather g b))

  kept_more : (x : A) (l : List A) → kept (x ∷ l) ≡ length (keep f (g x)) + kept l
  unfolding gather
  kept_more x l = ap length (keep_append f (g x) (gather g l)) ∙ length-append (keep f (g x)) (keep f (gather g l))

  pub kept_rearranged : (l l' : List A) → Rearranged l l' → kept l ≡ kept l'
  kept_rearranged [] l' q = ap kept (sym q)
  kept_rearranged (x ∷ l) l' q =
      let ih : kept l ≡ kept (q.0 ++ q.1) = kept_rearranged l (q.0 ++ q.1) q.3 in
      let e : kept l' ≡ kept (q.0 ++ (x ∷ q.1)) = ap kept q.2 in
      omega (arith, kept_more x l, kept_append q.0 q.1, kept_append q.0 (x ∷ q.1), kept_more x q.1)

-- and of what two such lists give, where it keeps as many for each entry
module _ {A B : Type 0} (f : B → Bool) (g h : A → List B) where
  pub kept_even : (l : List A) → ((x : A) → length (keep f (g x)) ≡ length (keep f (h x))) → length (keep f (gather g l)) ≡ length (keep f (gather h l))
  unfolding gather
  kept_even [] e = refl
  kept_even (x ∷ l) e =
      let ih : kept f g l ≡ kept f h l = kept_even l e in
      omega (arith, kept_more f g x l, kept_more f h x l, e x)
