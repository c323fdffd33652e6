-- Where an insertion into an ascending list puts its entry. Assumes nothing.
use mathlib.Core.Path.{◌≡◌, refl, sym, ap, subst}
use mathlib.Core.Logic.{⊎_elim}
use mathlib.Core.Bool.{Bool, not, false}
use mathlib.Core.List.Memᴰ
use mathlib.Core.List.{List, [], ◌∷◌, ◌++◌}
use Prim.Native.Nat.{suc, ℕ, ◌<◌, zero}
use native.Mathlib.Omega.{arith}
use lib.Dec.{T}
use lib.ListN.{length, take, drop, get_or}
use Rattle.monomial.specs.Lists.{insert_by, any, place}
use Rattle.monomial.specs.Claims.{◌∈◌, ◌⊆◌, Ascending, Order, Compared, less, equal, more}
use Rattle.monomial.proofs.Tests.{n_t→is, T→is, or_l, or_r}
use Rattle.monomial.proofs.Members.{here, there}
use Rattle.monomial.proofs.order.Laws.{not_both, not_same, same_flip}
use Rattle.monomial.proofs.Counting.{at_in}
use Rattle.monomial.proofs.order.Ascending.{head_first, tail_asc, insert_asc, insert_out, insert_old, sub_equal, sub_length}

module _ {A : Type 0} {same before : A → A → Bool} (o : Order same before) where
  -- between those before it and those behind it
  pub insert_between : (m : A) (p q : List A) → ((x : A) → x ∈ p → T (before x m)) → ((y : A) → y ∈ q → T (before m y))
      → insert_by same before m (p ++ q) ≡ p ++ (m ∷ q)
  unfolding insert_by
  insert_between m [] [] h k = refl
  insert_between m [] (y ∷ q) h k =
      let t : T (before m y) = k y here in
      rw (n_t→is (same m y) (not_same o m y t), T→is (before m y) t)
  insert_between m (x ∷ p) q h k =
      let t : T (before x m) = h x here in
      let ih : insert_by same before m (p ++ q) ≡ p ++ (m ∷ q) = insert_between m p q (λ z j. h z (there j)) k in
      rw (n_t→is (same m x) (λ s. not_same o x m t (same_flip o m x s)), n_t→is (before m x) (not_both o x m t)) (ap (◌∷◌ x) ih)

  -- nowhere, where the entry is there already
  pub insert_same : (m : A) (s : List A) → Ascending before s → m ∈ s → insert_by same before m s ≡ s
  insert_same m s a h =
      let more : List A = insert_by same before m s in
      let up : Ascending before more = insert_asc o m s a in
      let sub : more ⊆ s = λ y k. ⊎_elim (λ e. Memᴰ.cast e h) (λ j. j) (insert_out o m s k) in
      sub_equal o more s up a sub (sub_length o s more a up (λ y k. insert_old o m s k))

  -- of an ascending list, all up to an entry that stands before m stand before m
  pub front_before : (m : A) (s : List A) (j : ℕ) (d : A) → Ascending before s → j < length s → T (before (get_or s j d) m)
      → (x : A) → x ∈ take (suc j) s → T (before x m)
  front_before m [] j d a h t x k = let z : ⊥ = omega arith in absurd z
  front_before m (y ∷ s) zero d a h t x k =
      ⊎_elim (λ e. subst (λ z. T (before z m)) (sym e) t) (λ n. absurd (Memᴰ.not-nil n)) (Memᴰ.cases_cons k)
  front_before m (y ∷ s) (suc j) d a h t x k =
      let u : T (before y m) = o.trans y (get_or s j d) m (head_first a (get_or s j d) (at_in s j d (omega arith))) t in
      ⊎_elim (λ e. subst (λ z. T (before z m)) (sym e) u) (front_before m s j d (tail_asc a) (omega arith) t x) (Memᴰ.cases_cons k)

  -- the place of an entry that is not yet there
  pub insert_place : (s : A) (l : List A) → (T (any (same s) l) → ⊥) → let p = place (λ x. not (before x s)) l in insert_by same before s l ≡ take p l ++ s ∷ drop p l
  unfolding insert_by place any
  insert_place s [] n = refl
  insert_place s (x ∷ l) n = go (o.total s x) (insert_place s l (λ t. n (or_r (same s x) (any (same s) l) t)))
    where
      go : Compared same before s x → (let p = place (λ y. not (before y s)) l in insert_by same before s l ≡ take p l ++ s ∷ drop p l)
          → (let p = place (λ y. not (before y s)) (x ∷ l) in insert_by same before s (x ∷ l) ≡ take p (x ∷ l) ++ s ∷ drop p (x ∷ l))
      go (less t) ih = rw (n_t→is (same s x) (not_same o s x t), T→is (before s x) t, n_t→is (before x s) (not_both o s x t))
      go (equal t) ih = absurd (n (or_l (same s x) (any (same s) l) t))
      go (more t) ih =
          let off : same s x ≡ false = n_t→is (same s x) (λ e. not_same o x s t (same_flip o s x e)) in
          rw (off, n_t→is (before s x) (not_both o x s t), T→is (before x s) t) (ap (◌∷◌ x) ih)
