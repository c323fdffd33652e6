-- `array::from_fn` with a closure that each call leaves as it was: what it asks, and the list that it gives. Assumes nothing.
use mathlib.Core.Path.{◌≡◌, sym, ◌∙◌, subst}
use mathlib.Core.List.{List, [], ◌∷◌}
use Prim.Native.Nat.{ℕ, zero, suc, ◌+◌, ◌<◌}
use native.Mathlib.Omega.{arith}
use lib.ListN.{length, get_or}
use denote.Param.Members.{Mut, Called}
use Rattle.std.specs.Array.{index_steps, IsFromFnResult, IsFromFnResultFrom}
use Rattle.std.specs.Iterator.{CallableAtEachTurn}
use Rattle.std.specs.List.{FoldsTo}
use Rattle.std.proofs.lemmas.List.FromFn.{fill_by_all}
use Rattle.monomial.specs.Lists.{pointwise}
use Rattle.monomial.proofs.Loops.{pointwise_length, pointwise_at}

unmoved : {P : Type 0} (R : P → ℕ → P → Type 0) (p : P) → ((x : ℕ) (q : P) → R p x q → q ≡ p) → (xs : List ℕ) (q : P) → FoldsTo R p xs q → q ≡ p
unmoved R p same [] q h = sym h
unmoved R p same (x ∷ xs) q (j, r, f) = unmoved R p same xs q (subst (λ z. FoldsTo R z xs q) (same x j r) f)

pub serves_below : {P : Type 0} {R : P → ℕ → P → Type 0} {Q : P → ℕ → Type 0} {p : P} (n : ℕ)
    → ((x : ℕ) (q : P) → R p x q → q ≡ p) → ((x : ℕ) → x < n → Q p x) → CallableAtEachTurn (index_steps n) R Q 0 p
serves_below {P} {R} {Q} {p} n same h = record { at = λ xs t q x u y c e. subst (λ k. Q k x) (sym (unmoved R p same xs q c)) (h x (omega (arith, e.0, e.1))) }

module _ {F : Type 0} (g : Mut F (ℕ × Unit {0}) ℕ) (s : F) (ys : List ℕ) where
  -- the h of each place
  made : (h : ℕ → ℕ) (w : ℕ) → ((i y : ℕ) (q : F) → i < w → Called g s (i, tt) y q → (q ≡ s) × (y ≡ h i))
      → (n i : ℕ) → i + n ≡ w → IsFromFnResultFrom g s ys i n → (k j : ℕ) → i + k ≡ j → k < n → get_or ys j 0 ≡ h j
  made h w gives zero i e m k j o l = absurd (omega arith)
  made h w gives (suc n) i e (q, y, at, call, rest) zero j o l =
      let here : i ≡ j = omega arith in
      subst (λ z. get_or ys z 0 ≡ h z) here (at.1 0 ∙ (gives i y q (omega arith) call).1)
  made h w gives (suc n) i e (q, y, at, call, rest) (suc k) j o l =
      let same : q ≡ s = (gives i y q (omega arith) call).0 in
      made h w gives n (i + 1) (omega arith) (subst (λ z. IsFromFnResultFrom g z ys (i + 1) n) same rest) k j (omega arith) (omega arith)

  -- a list that has the h of each place
  pub list_from_fn : (h : ℕ → ℕ) (w : ℕ) (t : List ℕ) → IsFromFnResult g s ys w → ((i y : ℕ) (q : F) → i < w → Called g s (i, tt) y q → (q ≡ s) × (y ≡ h i))
      → length t ≡ w → ((i : ℕ) → i < w → get_or t i 0 ≡ h i) → ys ≡ t
  list_from_fn h w t m gives long at =
      fill_by_all h ys w 0 m.long (λ k l. made h w gives w 0 (omega arith) m.each k k (omega arith) l) ∙ sym (fill_by_all h t w 0 long at)

  pub pointwise_from_fn : (f : ℕ → ℕ → ℕ) (a b : List ℕ) (w : ℕ) → length a ≡ w → length b ≡ w → IsFromFnResult g s ys w
      → ((i y : ℕ) (q : F) → i < w → Called g s (i, tt) y q → (q ≡ s) × (y ≡ f (get_or a i 0) (get_or b i 0))) → ys ≡ pointwise f a b
  pointwise_from_fn f a b w la lb m gives =
      list_from_fn (λ i. f (get_or a i 0) (get_or b i 0)) w (pointwise f a b) m gives (pointwise_length f a b (la ∙ sym lb) ∙ la)
      (λ k l. pointwise_at f a b k 0 0 0 (omega arith) (omega arith))
