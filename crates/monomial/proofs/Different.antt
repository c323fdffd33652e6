-- Lists without repeats: they are no longer than any list that has their entries, and two with the same entries are one list in another order.
-- Assumes nothing.
use mathlib.Core.Path.{◌≡◌, refl, sym, ap, ◌∙◌, subst}
use mathlib.Core.Logic.{inl, inr, ⊎_elim}
use mathlib.Core.Bool.{Bool}
use mathlib.Core.List.Memᴰ
use mathlib.Core.List.{List, [], ◌∷◌, ◌++◌, map}
use Prim.Native.Nat.{ℕ, zero, suc, ◌≤◌}
use native.Mathlib.Omega.{arith}
use lib.Dec.{T}
use lib.ListN.{length, take, length-map}
use Rattle.monomial.specs.Lists.{keep}
use Rattle.monomial.specs.Claims.{◌∈◌, ◌⊆◌, Ascending, Different, Rearranged, Order}
use Rattle.monomial.proofs.Tests.{Tested, passed, failed, test}
use Rattle.monomial.proofs.Members.{here, there, keep_in, keep_out, take_in}
use Rattle.monomial.proofs.Rearranged.{between_in, between_out, between_length}
use Rattle.monomial.proofs.order.Ascending.{head_first, tail_asc}

module _ {A : Type 0} where
  -- ---- an entry, and the two parts of the list beside it
  pub record Parted (x : A) (l : List A) : Type 0 where
    pub front : List A
    pub back : List A
    pub is : l ≡ front ++ (x ∷ back)

  pub parted : (x : A) (l : List A) → x ∈ l → Parted x l
  parted x [] h = absurd (Memᴰ.not-nil h)
  parted x (y ∷ l) h = ⊎_elim first (λ k. later (parted x l k)) (Memᴰ.cases_cons h)
    where
      first : x ≡ y → Parted x (y ∷ l)
      first e = record { front = []; back = l; is = ap (λ z. z ∷ l) (sym e) }

      later : Parted x l → Parted x (y ∷ l)
      later s = record { front = y ∷ s.front; back = s.back; is = ap (◌∷◌ y) s.is }

  module _ (x : A) (l : List A) (s : Parted x l) where
    abbrev pub rest : List A
    rest = s.front ++ s.back

    -- a list of entries of l lies in the rest, where x is none of them
    pub rest_has : (r : List A) → (x ∈ r → ⊥) → r ⊆ l → r ⊆ rest
    rest_has r n sub y h =
        ⊎_elim (λ e. absurd (n (Memᴰ.cast (sym e) h))) (λ k. k) (between_out s.front s.back x (subst (λ z. y ∈ z) s.is (sub y h)))

    pub rest_sub : rest ⊆ l
    rest_sub y h = subst (λ z. y ∈ z) (sym s.is) (between_in s.front s.back x (inr h))

  -- ---- no repeats
  -- an entry more, at the end
  pub different_more : (l : List A) (x : A) → Different l → (x ∈ l → ⊥) → Different (l ++ (x ∷ []))
  different_more [] x d n = (λ h. Memᴰ.not-nil h, tt)
  different_more (y ∷ l) x d n = (out, different_more l x d.1 (λ h. n (there h)))
    where
      out : y ∈ (l ++ (x ∷ [])) → ⊥
      out h = ⊎_elim d.0 (λ k. ⊎_elim (λ e. n (Memᴰ.head (sym e))) (λ j. Memᴰ.not-nil j) (Memᴰ.cases_cons k)) (Memᴰ.append_cases l h)

  -- an entry taken out does not stand in the rest
  different_rest : (front back : List A) (x : A) → Different (front ++ (x ∷ back)) → (x ∈ (front ++ back) → ⊥) × Different (front ++ back)
  different_rest [] back x d = d
  different_rest (y ∷ front) back x d =
      let ih : (x ∈ (front ++ back) → ⊥) × Different (front ++ back) = different_rest front back x d.1 in
      let out : x ∈ (y ∷ (front ++ back)) → ⊥ = λ h. ⊎_elim (λ e. d.0 (between_in front back x (inl (sym e)))) ih.0 (Memᴰ.cases_cons h) in
      (out, (λ h. d.0 (between_in front back x (inr h)), ih.1))

  pub different_length : (s t : List A) → Different s → s ⊆ t → length s ≤ length t
  different_length [] t d sub = omega arith
  different_length (x ∷ s) t d sub =
      let p : Parted x t = parted x t (sub x here) in
      let ih : length s ≤ length (rest x t p) = different_length s (rest x t p) d.1 (rest_has x t p s d.0 (λ y h. sub y (there h))) in
      omega (arith, ap length p.is, between_length p.front p.back x)

  pub different_rearranged : (s t : List A) → Different s → Different t → s ⊆ t → t ⊆ s → Rearranged s t
  different_rearranged [] t d f st ts = none t ts
    where
      none : (t : List A) → t ⊆ [] → t ≡ []
      none [] h = refl
      none (y ∷ t) h = absurd (Memᴰ.not-nil (h y here))
  different_rearranged (x ∷ s) t d f st ts =
      let p : Parted x t = parted x t (st x here) in
      let apart = different_rest p.front p.back x (subst Different p.is f) in
      let into : s ⊆ rest x t p = rest_has x t p s d.0 (λ y h. st y (there h)) in
      let back : rest x t p ⊆ s = λ y h. ⊎_elim (λ e. absurd (apart.0 (Memᴰ.cast (sym e) h))) (λ k. k) (Memᴰ.cases_cons (ts y (rest_sub x t p y h))) in
      (p.front, p.back, p.is, different_rearranged s (rest x t p) d.1 apart.1 into back)

  -- two with the same members are as long
  pub different_same : (a b : List A) → Different a → Different b → a ⊆ b → b ⊆ a → length a ≡ length b
  different_same a b d e f g =
      let i : length a ≤ length b = different_length a b d f in
      let j : length b ≤ length a = different_length b a e g in
      omega arith

  -- those that pass a test, the first of them, and two lists of which none is in both
  pub different_keep : (f : A → Bool) (l : List A) → Different l → Different (keep f l)
  unfolding keep
  different_keep f [] d = tt
  different_keep f (x ∷ l) d = go (different_keep f l d.1) (test (f x))
    where
      go : Different (keep f l) → Tested (f x) → Different (keep f (x ∷ l))
      go ih (passed e) = rw e (λ h. d.0 (keep_out f l h).0, ih)
      go ih (failed e) = rw e ih

  pub different_take : (n : ℕ) (l : List A) → Different l → Different (take n l)
  different_take zero l d = tt
  different_take (suc n) [] d = tt
  different_take (suc n) (x ∷ l) d = (λ h. d.0 (take_in n l h), different_take n l d.1)

  pub different_append : (a b : List A) → Different a → Different b → ((x : A) → x ∈ a → x ∈ b → ⊥) → Different (a ++ b)
  different_append [] b d e apart = e
  different_append (x ∷ a) b d e apart =
      (λ h. ⊎_elim d.0 (apart x here) (Memᴰ.append_cases a h), different_append a b d.1 e (λ y i j. apart y (there i) j))

-- an ascending list has none
pub ascending_different : {A : Type 0} {same before : A → A → Bool} (o : Order same before) (l : List A) → Ascending before l → Different l
ascending_different o [] a = tt
ascending_different o (x ∷ l) a = (λ h. o.irrefl x (head_first a x h), ascending_different o l (tail_asc a))

-- an image has none where no two entries have one image
pub different_map : {A B : Type 0} (f : A → B) (l : List A) → ((x y : A) → x ∈ l → y ∈ l → f x ≡ f y → x ≡ y) → Different l → Different (map f l)
different_map f [] one d = tt
different_map f (x ∷ l) one d = (out, different_map f l (λ y z h k e. one y z (there h) (there k) e) d.1)
  where
    out : f x ∈ map f l → ⊥
    out h = let p = Memᴰ.of_map f l h in d.0 (Memᴰ.cast (one x p.0 here (there p.1) (sym p.2)) p.1)

module _ {A : Type 0} where
  -- f leads from l into l and back. Where it takes what passes p to what passes q, no more pass p than q
  pub turn_length : (f : A → A) (p q : A → Bool) (l : List A) → Different l → ((x : A) → x ∈ l → f x ∈ l) → ((x : A) → x ∈ l → f (f x) ≡ x)
      → ((x : A) → x ∈ l → T (p x) → T (q (f x))) → length (keep p l) ≤ length (keep q l)
  turn_length f p q l d into back turns =
      let s : length (map f (keep p l)) ≤ length (keep q l) = different_length (map f (keep p l)) (keep q l) (different_map f (keep p l) one (different_keep p l d)) sub in
      omega (arith, length-map (keep p l) f)
    where
      one : (x y : A) → x ∈ keep p l → y ∈ keep p l → f x ≡ f y → x ≡ y
      one x y h k e = sym (back x (keep_out p l h).0) ∙ ap f e ∙ back y (keep_out p l k).0

      sub : map f (keep p l) ⊆ keep q l
      sub y h =
          let r : (x : A) × (x ∈ keep p l) × (f x ≡ y) = Memᴰ.of_map f (keep p l) h in
          let k = keep_out p l r.1 in
          subst (λ z. z ∈ keep q l) r.2 (keep_in q l (into r.0 k.0) (turns r.0 k.0 k.1))

  -- all entries are one
  pub one_length : (l : List A) → Different l → ((x y : A) → x ∈ l → y ∈ l → x ≡ y) → length l ≤ 1
  one_length [] d e = omega arith
  one_length (x ∷ []) d e = omega arith
  one_length (x ∷ y ∷ l) d e = absurd (d.0 (Memᴰ.cast (e x y here (there here)) here))
