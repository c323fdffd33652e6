-- Which lists are subsets: of an ascending list those that ascend and hold its entries alone; and those of one size come ascending.
-- Assumes nothing.
use mathlib.Core.Path.{◌≡◌, sym, ap, subst, ◌∙◌}
use mathlib.Core.Logic.{◌⊎◌, inl, inr, ⊎_elim}
use mathlib.Core.Bool.{Bool}
use mathlib.Core.List.Memᴰ
use mathlib.Core.List.{List, [], ◌∷◌, ◌++◌, map}
use Prim.Native.Nat.{ℕ, ◌-◌}
use native.Mathlib.Omega.{arith}
use lib.Dec.{T}
use lib.ListN.{length}
use Rattle.monomial.specs.Lists.{keep, dictionary}
use Rattle.monomial.specs.Claims.{◌∈◌, ◌⊆◌, Ascending, empty, first, Order}
use Rattle.monomial.proofs.Members.{here, there, keep_out, keep_append, keep_map}
use Rattle.monomial.proofs.order.Laws.{not_both, smaller, ahead_is, append_before}
use Rattle.monomial.proofs.order.Ascending.{head_first, tail_asc, append_asc, keep_asc, map_asc}
use Rattle.thin.specs.Subsets.{subsets}

module _ {A : Type 0} where
  -- with the first entry, or without it
  pub record With (x : A) (l t : List A) : Type 0 where
    pub rest : List A
    pub member : rest ∈ subsets l
    pub is : x ∷ rest ≡ t

  pub either_way : (x : A) (l t : List A) → t ∈ subsets (x ∷ l) → With x l t ⊎ (t ∈ subsets l)
  unfolding subsets
  either_way x l t h = ⊎_elim (λ k. inl (taken (Memᴰ.of_map (◌∷◌ x) (subsets l) k))) inr (Memᴰ.append_cases (map (◌∷◌ x) (subsets l)) h)
    where
      taken : (r : List A) × (r ∈ subsets l) × (x ∷ r ≡ t) → With x l t
      taken k = record { rest = k.0; member = k.1; is = k.2 }

  pub taken_in : (x : A) (l t : List A) → t ∈ subsets l → (x ∷ t) ∈ subsets (x ∷ l)
  unfolding subsets
  taken_in x l t h = Memᴰ.append_left (subsets l) (Memᴰ.map (◌∷◌ x) h)

  pub left-in : (x : A) (l t : List A) → t ∈ subsets l → t ∈ subsets (x ∷ l)
  unfolding subsets
  left-in x l t h = Memᴰ.append_right (map (◌∷◌ x) (subsets l)) h

  -- the only subset of the empty list
  only_empty : (t : List A) → t ∈ subsets [] → t ≡ []
  unfolding subsets
  only_empty t h = ⊎_elim (λ e. e) (λ z. absurd (Memᴰ.not-nil z)) (Memᴰ.cases_cons h)

  -- a subset holds entries of the list alone
  pub subset_part : (l t : List A) → t ∈ subsets l → t ⊆ l
  subset_part [] t h y m = absurd (Memᴰ.not-nil (subst (λ (u : List A). y ∈ u) (only_empty t h) m))
  subset_part (x ∷ l) t h y m = go (either_way x l t h) (λ r k j. subset_part l r k y j)
    where
      go : With x l t ⊎ (t ∈ subsets l) → ((r : List A) → r ∈ subsets l → y ∈ r → y ∈ l) → y ∈ (x ∷ l)
      go (inl w) ih = ⊎_elim (λ e. Memᴰ.head e) (λ k. there (ih w.rest w.member k)) (Memᴰ.cases_cons (subst (λ (u : List A). y ∈ u) (sym w.is) m))
      go (inr k) ih = there (ih t k m)

  -- the list itself is one
  pub subset_whole : (l : List A) → l ∈ subsets l
  unfolding subsets
  subset_whole [] = here
  subset_whole (x ∷ l) = taken_in x l l (subset_whole l)

  -- in the same order
  pub subset_asc : {before : A → A → Bool} (l t : List A) → Ascending before l → t ∈ subsets l → Ascending before t
  subset_asc {before} [] t a h = subst (Ascending before) (sym (only_empty t h)) empty
  subset_asc {before} (x ∷ l) t a h = go (either_way x l t h) (λ r k. subset_asc l r (tail_asc a) k)
    where
      go : With x l t ⊎ (t ∈ subsets l) → ((r : List A) → r ∈ subsets l → Ascending before r) → Ascending before t
      go (inl w) ih = subst (Ascending before) w.is (first (λ y m. head_first a y (subset_part l w.rest w.member y m)) (ih w.rest w.member))
      go (inr k) ih = ih t k

-- ---- of an ascending list
module _ {A : Type 0} {same before : A → A → Bool} (o : Order same before) where
  -- an ascending list that begins with x holds x no second time, so what follows lies in l
  rest_part : (x : A) (l t : List A) → Ascending before (x ∷ t) → (x ∷ t) ⊆ (x ∷ l) → t ⊆ l
  rest_part x l t a sub z m =
      ⊎_elim (λ e. absurd (o.irrefl x (subst (λ (u : A). T (before x u)) e (head_first a z m)))) (λ k. k) (Memᴰ.cases_cons (sub z (there m)))

  -- one that begins behind x does not hold x
  behind_part : (x : A) (l : List A) (y : A) (t : List A) → Ascending before (x ∷ l) → Ascending before (y ∷ t) → y ∈ l → (y ∷ t) ⊆ (x ∷ l) → (y ∷ t) ⊆ l
  behind_part x l y t a b h sub z m = ⊎_elim (λ e. absurd (clash e (Memᴰ.cases_cons m))) (λ k. k) (Memᴰ.cases_cons (sub z m))
    where
      ahead : T (before x y)
      ahead = head_first a y h

      clash : z ≡ x → (z ≡ y) ⊎ (z ∈ t) → ⊥
      clash e (inl d) = o.irrefl x (subst (λ (u : A). T (before x u)) (sym d ∙ e) ahead)
      clash e (inr k) = not_both o x y ahead (subst (λ (u : A). T (before y u)) e (head_first b z k))

  -- every ascending list of its entries is a subset
  pub subset_all : (l t : List A) → Ascending before l → Ascending before t → t ⊆ l → t ∈ subsets l
  subset_all [] [] a b sub = subset_whole []
  subset_all [] (y ∷ t) a b sub = absurd (Memᴰ.not-nil (sub y here))
  subset_all (x ∷ l) [] a b sub = left-in x l [] (subset_all l [] (tail_asc a) empty (λ z m. absurd (Memᴰ.not-nil m)))
  subset_all (x ∷ l) (y ∷ t) a b sub = go (Memᴰ.cases_cons (sub y here)) (λ u c k. subset_all l u (tail_asc a) c k)
    where
      go : (y ≡ x) ⊎ (y ∈ l) → ((u : List A) → Ascending before u → u ⊆ l → u ∈ subsets l) → (y ∷ t) ∈ subsets (x ∷ l)
      go (inl e) ih =
          let up : Ascending before (x ∷ t) = subst (λ (u : A). Ascending before (u ∷ t)) e b in
          let part : (x ∷ t) ⊆ (x ∷ l) = subst (λ (u : A). (u ∷ t) ⊆ (x ∷ l)) e sub in
          subst (λ (u : A). (u ∷ t) ∈ subsets (x ∷ l)) (sym e) (taken_in x l t (ih t (tail_asc b) (rest_part x l t up part)))
      go (inr h) ih = left-in x l (y ∷ t) (ih (y ∷ t) b (behind_part x l y t a b h sub))

  -- with x they stand before those of the same size without it
  module _ (x : A) (l : List A) (a : Ascending before (x ∷ l)) (f : List A → Bool) (k : ℕ) (h : (t : List A) → T (f t) → length t ≡ k) where
    abbrev with : List (List A)
    with = map (◌∷◌ x) (keep (λ (t : List A). f (x ∷ t)) (subsets l))

    parts : keep f (subsets (x ∷ l)) ≡ with ++ keep f (subsets l)
    unfolding subsets
    parts = keep_append f (map (◌∷◌ x) (subsets l)) (subsets l) ∙ ap (λ (u : List (List A)). u ++ keep f (subsets l)) (keep_map f (◌∷◌ x) (subsets l))

    with_before : (t v : List A) → T (f (x ∷ t)) → v ∈ subsets l → T (f v) → T (dictionary same before (x ∷ t) v)
    with_before t [] p m q = let z : ⊥ = omega (arith, h (x ∷ t) p, h [] q) in absurd z
    with_before t (y ∷ v) p m q = ahead_is o x y t v (smaller (head_first a y (subset_part l (y ∷ v) m y here)))

    across : (u v : List A) → u ∈ with → v ∈ keep f (subsets l) → T (dictionary same before u v)
    across u v i j =
        let t = Memᴰ.of_map (◌∷◌ x) (keep (λ (t : List A). f (x ∷ t)) (subsets l)) i in
        let p = (keep_out (λ (t : List A). f (x ∷ t)) (subsets l) t.1).1 in
        let q = keep_out f (subsets l) j in
        subst (λ (w : List A). T (dictionary same before w v)) t.2 (with_before t.0 v p q.0 q.1)

    both_asc : Ascending (dictionary same before) (keep (λ (t : List A). f (x ∷ t)) (subsets l)) → Ascending (dictionary same before) (keep f (subsets l))
        → Ascending (dictionary same before) (keep f (subsets (x ∷ l)))
    both_asc up low =
        let front : Ascending (dictionary same before) with = map_asc (◌∷◌ x) (λ u v. append_before o (x ∷ []) u v) (keep (λ (t : List A). f (x ∷ t)) (subsets l)) up in
        subst (Ascending (dictionary same before)) (sym parts) (append_asc with (keep f (subsets l)) front low across)

  -- those of one size come in the order of a dictionary
  pub subsets_asc : (l : List A) → Ascending before l → (f : List A → Bool) (k : ℕ) → ((t : List A) → T (f t) → length t ≡ k)
      → Ascending (dictionary same before) (keep f (subsets l))
  unfolding subsets
  subsets_asc [] a f k h = keep_asc f ([] ∷ []) (first (λ y m. absurd (Memᴰ.not-nil m)) empty)
  subsets_asc (x ∷ l) a f k h =
      both_asc x l a f k h (subsets_asc l (tail_asc a) (λ t. f (x ∷ t)) (k - 1) (λ t p. omega (arith, h (x ∷ t) p))) (subsets_asc l (tail_asc a) f k h)
