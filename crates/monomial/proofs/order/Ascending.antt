-- Strictly ascending lists: what `insert_by` and `arrange_by` give, one list inside another, and the part from an entry on.
-- Assumes nothing.
use mathlib.Core.Path.{◌≡◌, refl, sym, ap, ap₂, ◌∙◌, subst}
use mathlib.Core.Logic.{◌⊎◌, inl, inr, ⊎_elim}
use mathlib.Core.Bool.{Bool, not, cond}
use mathlib.Core.List.Memᴰ
use mathlib.Core.List.{List, [], ◌∷◌, ◌++◌, map}
use Prim.Native.Nat.{suc, ◌≤◌}
use native.Mathlib.Omega.{arith}
use lib.Dec.{T, T_not, not_T}
use lib.ListN.{length, take}
use Rattle.monomial.specs.Lists.{insert_by, arrange_by, any, keep}
use Rattle.monomial.specs.Claims.{◌∈◌, ◌⊆◌, Ascending, empty, first, from, Order}
use Rattle.monomial.proofs.Tests.{cond_cases, Tested, passed, failed, test, is→n_t}
use Rattle.monomial.proofs.Members.{here, there, any_in, any_out, Passing, keep_out, keep_yes, keep_no, keep_all, keep_none}
use Rattle.monomial.proofs.order.Laws.{not_both, behind}

module _ {A : Type 0} {before : A → A → Bool} where
  pub head_first : {x : A} {l : List A} → Ascending before (x ∷ l) → (y : A) → y ∈ l → T (before x y)
  head_first (first h a) = h

  pub tail_asc : {x : A} {l : List A} → Ascending before (x ∷ l) → Ascending before l
  tail_asc (first h a) = a

  -- one list behind another
  pub append_asc : (a b : List A) → Ascending before a → Ascending before b → ((x y : A) → x ∈ a → y ∈ b → T (before x y)) → Ascending before (a ++ b)
  append_asc [] b s t h = t
  append_asc (x ∷ a) b s t h =
      first (λ y m. ⊎_elim (λ k. head_first s y k) (λ k. h x y here k) (Memᴰ.append_cases a m)) (append_asc a b (tail_asc s) t (λ u y k. h u y (there k)))

  -- what a test keeps
  pub keep_asc : (f : A → Bool) (l : List A) → Ascending before l → Ascending before (keep f l)
  unfolding keep
  keep_asc f [] a = empty
  keep_asc f (x ∷ l) a =
      cond_cases (Ascending before) (f x) (x ∷ keep f l) (keep f l)
      (λ t. first (λ y m. head_first a y (keep_out f l m).0) (keep_asc f l (tail_asc a)))
      (λ t. keep_asc f l (tail_asc a))

-- images that ascend, of those that pass a test
pub keep_image_asc : {A B : Type 0} {before : B → B → Bool} (g : A → B) (f : A → Bool) (l : List A) → Ascending before (map g l) → Ascending before (map g (keep f l))
unfolding keep
keep_image_asc g f [] a = empty
keep_image_asc {A} {B} {before} g f (x ∷ l) a =
    cond_cases (λ r. Ascending before (map g r)) (f x) (x ∷ keep f l) (keep f l) (λ t. first ahead (keep_image_asc g f l (tail_asc a))) (λ t. keep_image_asc g f l (tail_asc a))
  where
    ahead : (y : B) → y ∈ map g (keep f l) → T (before (g x) y)
    ahead y i =
        let q : (z : A) × (z ∈ keep f l) × (g z ≡ y) = Memᴰ.of_map g (keep f l) i in
        head_first a y (subst (λ z. z ∈ map g l) q.2 (Memᴰ.map g (keep_out f l q.1).0))

-- a function that keeps the order
pub map_asc : {A B : Type 0} {before : A → A → Bool} {later : B → B → Bool} (f : A → B) → ((x y : A) → T (before x y) → T (later (f x) (f y)))
    → (l : List A) → Ascending before l → Ascending later (map f l)
map_asc f h [] a = empty
map_asc {A} {B} {before} {later} f h (x ∷ l) a = first below (map_asc f h l (tail_asc a))
  where
    below : (y : B) → y ∈ map f l → T (later (f x) y)
    below y m =
        let p : (z : A) × (z ∈ l) × (f z ≡ y) = Memᴰ.of_map f l m in
        subst (λ u. T (later (f x) u)) p.2 (h x p.0 (head_first a p.0 p.1))

module _ {A : Type 0} {same before : A → A → Bool} (o : Order same before) where
  -- ---- members of an insertion
  pub insert_out : (m : A) (l : List A) {y : A} → y ∈ insert_by same before m l → (y ≡ m) ⊎ (y ∈ l)
  unfolding insert_by
  insert_out m [] h = ⊎_elim (λ e. inl e) (λ n. absurd (Memᴰ.not-nil n)) (Memᴰ.cases_cons h)
  insert_out m (x ∷ l) {y} h = step (insert_out m l) h
    where
      step : (y ∈ insert_by same before m l → (y ≡ m) ⊎ (y ∈ l)) → y ∈ insert_by same before m (x ∷ l) → (y ≡ m) ⊎ (y ∈ (x ∷ l))
      step ih =
          cond_cases (λ r. y ∈ r → (y ≡ m) ⊎ (y ∈ (x ∷ l))) (same m x) (x ∷ l) (cond (before m x) (m ∷ x ∷ l) (x ∷ insert_by same before m l))
          (λ t n. inr n)
          (λ f. cond_cases (λ r. y ∈ r → (y ≡ m) ⊎ (y ∈ (x ∷ l))) (before m x) (m ∷ x ∷ l) (x ∷ insert_by same before m l)
          (λ t n. ⊎_elim (λ e. inl e) (λ k. inr k) (Memᴰ.cases_cons n))
          (λ g n. ⊎_elim (λ e. inr (Memᴰ.head e)) (λ k. ⊎_elim (λ e. inl e) (λ j. inr (there j)) (ih k)) (Memᴰ.cases_cons n)))

  pub insert_new : (m : A) (l : List A) → m ∈ insert_by same before m l
  unfolding insert_by
  insert_new m [] = here
  insert_new m (x ∷ l) =
      let ih : m ∈ insert_by same before m l = insert_new m l in
      cond_cases (λ r. m ∈ r) (same m x) (x ∷ l) (cond (before m x) (m ∷ x ∷ l) (x ∷ insert_by same before m l))
      (λ t. Memᴰ.head (o.same_eq m x t))
      (λ f. cond_cases (λ r. m ∈ r) (before m x) (m ∷ x ∷ l) (x ∷ insert_by same before m l) (λ t. here) (λ g. there ih))

  pub insert_old : (m : A) (l : List A) {y : A} → y ∈ l → y ∈ insert_by same before m l
  unfolding insert_by
  insert_old m [] h = absurd (Memᴰ.not-nil h)
  insert_old m (x ∷ l) {y} h = step (insert_old m l)
    where
      step : (y ∈ l → y ∈ insert_by same before m l) → y ∈ insert_by same before m (x ∷ l)
      step ih =
          cond_cases (λ r. y ∈ r) (same m x) (x ∷ l) (cond (before m x) (m ∷ x ∷ l) (x ∷ insert_by same before m l))
          (λ t. h)
          (λ f. cond_cases (λ r. y ∈ r) (before m x) (m ∷ x ∷ l) (x ∷ insert_by same before m l)
          (λ t. there h)
          (λ g. ⊎_elim (λ e. Memᴰ.head e) (λ k. there (ih k)) (Memᴰ.cases_cons h)))

  -- ---- an insertion is ascending, and one longer where the entry is new
  pub insert_asc : (m : A) (l : List A) → Ascending before l → Ascending before (insert_by same before m l)
  unfolding insert_by
  insert_asc m [] a = first (λ y h. absurd (Memᴰ.not-nil h)) empty
  insert_asc m (x ∷ l) a =
      let ih : Ascending before (insert_by same before m l) = insert_asc m l (tail_asc a) in
      cond_cases (Ascending before) (same m x) (x ∷ l) (cond (before m x) (m ∷ x ∷ l) (x ∷ insert_by same before m l))
      (λ t. a)
      (λ f. cond_cases (Ascending before) (before m x) (m ∷ x ∷ l) (x ∷ insert_by same before m l)
      (λ t. first (λ y h. ⊎_elim (λ e. subst (λ z. T (before m z)) (sym e) t) (λ k. o.trans m x y t (head_first a y k)) (Memᴰ.cases_cons h)) a)
      (λ g. first (λ y h. ⊎_elim (λ e. subst (λ z. T (before x z)) (sym e) (behind o m x g f)) (λ k. head_first a y k) (insert_out m l h)) ih))

  pub insert_length : (m : A) (l : List A) → (m ∈ l → ⊥) → length (insert_by same before m l) ≡ suc (length l)
  unfolding insert_by
  insert_length m [] n = refl
  insert_length m (x ∷ l) n =
      let ih : length (insert_by same before m l) ≡ suc (length l) = insert_length m l (λ h. n (there h)) in
      cond_cases (λ r. length r ≡ suc (suc (length l))) (same m x) (x ∷ l) (cond (before m x) (m ∷ x ∷ l) (x ∷ insert_by same before m l))
      (λ t. absurd (n (Memᴰ.head (o.same_eq m x t))))
      (λ f. cond_cases (λ r. length r ≡ suc (suc (length l))) (before m x) (m ∷ x ∷ l) (x ∷ insert_by same before m l) (λ t. refl) (λ g. ap suc ih))

  -- ---- an arranged list
  pub arrange_asc : (l : List A) → Ascending before (arrange_by same before l)
  unfolding arrange_by
  arrange_asc [] = empty
  arrange_asc (m ∷ l) = insert_asc m (arrange_by same before l) (arrange_asc l)

  pub arrange_in : (l : List A) {y : A} → y ∈ l → y ∈ arrange_by same before l
  unfolding arrange_by
  arrange_in [] h = absurd (Memᴰ.not-nil h)
  arrange_in (m ∷ l) {y} h =
      ⊎_elim (λ e. Memᴰ.cast e (insert_new m (arrange_by same before l))) (λ k. insert_old m (arrange_by same before l) (arrange_in l k)) (Memᴰ.cases_cons h)

  pub arrange_out : (l : List A) {y : A} → y ∈ arrange_by same before l → y ∈ l
  unfolding arrange_by
  arrange_out [] h = h
  arrange_out (m ∷ l) {y} h = ⊎_elim (λ e. Memᴰ.head e) (λ k. there (arrange_out l k)) (insert_out m (arrange_by same before l) h)

  -- ---- ascending lists, one inside the other
  -- x ∷ s inside y ∷ t, both ascending, x in t: then all of x ∷ s is in t
  inner : {x y : A} {s t : List A} → Ascending before (x ∷ s) → Ascending before (y ∷ t) → (x ∷ s) ⊆ (y ∷ t) → x ∈ t → (x ∷ s) ⊆ t
  inner {x} {y} {s} {t} a b sub h z k = ⊎_elim (λ e. Memᴰ.cast e h) later (Memᴰ.cases_cons k)
    where
      not_first : z ∈ s → z ≡ y → ⊥
      not_first j e = not_both o y x (head_first b x h) (subst (λ w. T (before x w)) e (head_first a z j))

      later : z ∈ s → z ∈ t
      later j = ⊎_elim (λ e. absurd (not_first j e)) (λ i. i) (Memᴰ.cases_cons (sub z (there j)))

  -- and where x is y, all of s is in t
  inner_tail : {x y : A} {s t : List A} → Ascending before (x ∷ s) → (x ∷ s) ⊆ (y ∷ t) → x ≡ y → s ⊆ t
  inner_tail {x} a sub e z k =
      ⊎_elim (λ d. absurd (o.irrefl x (subst (λ w. T (before x w)) (d ∙ sym e) (head_first a z k)))) (λ i. i) (Memᴰ.cases_cons (sub z (there k)))

  pub sub_length : (s t : List A) → Ascending before s → Ascending before t → s ⊆ t → length s ≤ length t
  sub_length [] t a b sub = omega arith
  sub_length (x ∷ s) [] a b sub = absurd (Memᴰ.not-nil (sub x here))
  sub_length (x ∷ s) (y ∷ t) a b sub =
      ⊎_elim
      (λ e. let h : length s ≤ length t = sub_length s t (tail_asc a) (tail_asc b) (inner_tail a sub e) in omega arith)
      (λ h. let k : length (x ∷ s) ≤ length t = sub_length (x ∷ s) t a (tail_asc b) (inner a b sub h) in omega arith)
      (Memᴰ.cases_cons (sub x here))

  pub sub_equal : (s t : List A) → Ascending before s → Ascending before t → s ⊆ t → length t ≤ length s → s ≡ t
  sub_equal [] [] a b sub h = refl
  sub_equal [] (y ∷ t) a b sub h = let z : ⊥ = omega arith in absurd z
  sub_equal (x ∷ s) [] a b sub h = absurd (Memᴰ.not-nil (sub x here))
  sub_equal (x ∷ s) (y ∷ t) a b sub h =
      ⊎_elim
      (λ e. ap₂ ◌∷◌ e (sub_equal s t (tail_asc a) (tail_asc b) (inner_tail a sub e) (omega arith)))
      (λ m. let k : length (x ∷ s) ≤ length t = sub_length (x ∷ s) t a (tail_asc b) (inner a b sub m) in let z : ⊥ = omega arith in absurd z)
      (Memᴰ.cases_cons (sub x here))

  -- ---- membership, tested; and each member stands once
  pub among_in : {m : A} {l : List A} → m ∈ l → T (any (same m) l)
  among_in {m} {l} h = any_in (same m) h (o.same_refl m)

  pub among_out : (m : A) (l : List A) → T (any (same m) l) → m ∈ l
  among_out m l t = let p : Passing (same m) l = any_out (same m) l t in Memᴰ.cast (o.same_eq m p.entry p.passes) p.member

  pub once : (m : A) (l : List A) → Ascending before l → m ∈ l → keep (same m) l ≡ m ∷ []
  once m [] a h = absurd (Memᴰ.not-nil h)
  once m (x ∷ l) a h = ⊎_elim (λ e. at_head e) (λ k. later k (once m l (tail_asc a) k)) (Memᴰ.cases_cons h)
    where
      at_head : m ≡ x → keep (same m) (x ∷ l) ≡ m ∷ []
      at_head e =
          keep_yes (same m) x l (subst (λ z. T (same m z)) e (o.same_refl m))
          ∙ ap₂ ◌∷◌ (sym e) (keep_none (same m) l (λ y k s. o.irrefl x (subst (λ z. T (before x z)) (sym (o.same_eq m y s) ∙ e) (head_first a y k))))

      later : m ∈ l → keep (same m) l ≡ m ∷ [] → keep (same m) (x ∷ l) ≡ m ∷ []
      later k ih = keep_no (same m) x l (λ s. o.irrefl x (subst (λ z. T (before x z)) (o.same_eq m x s) (head_first a m k))) ∙ ih

  -- ---- the entries of a list from x on
  pub from_out : (x : A) (l : List A) {y : A} → y ∈ from before x l → (y ∈ l) × (T (before y x) → ⊥)
  from_out x l {y} h = let k = keep_out (λ z. not (before z x)) l h in (k.0, T_not (before y x) k.1)

  -- nothing stands before x
  pub from_start : (x : A) (l : List A) → ((y : A) → y ∈ l → T (before y x) → ⊥) → from before x l ≡ l
  from_start x l h = keep_all (λ y. not (before y x)) l (λ y m. not_T (before y x) (h y m))

  -- x is an entry, and n the next thing behind it
  pub from_next : (x n : A) (l : List A) → Ascending before l → x ∈ l → T (before x n)
      → ((y : A) → y ∈ l → T (before x y) → T (before y n) → ⊥) → from before x l ≡ x ∷ from before n l
  from_next x n [] a h t gap = absurd (Memᴰ.not-nil h)
  from_next x n (u ∷ l) a h t gap =
      ⊎_elim at_head (λ m. later m (from_next x n l (tail_asc a) m t (λ y k. gap y (there k)))) (Memᴰ.cases_cons h)
    where
      fx : A → Bool
      fx y = not (before y x)

      fn : A → Bool
      fn y = not (before y n)

      at_head : x ≡ u → from before x (u ∷ l) ≡ x ∷ from before n (u ∷ l)
      at_head e =
          let low : (y : A) → y ∈ l → T (before x y) = λ y m. subst (λ z. T (before z y)) (sym e) (head_first a y m) in
          let all_x : from before x l ≡ l = from_start x l (λ y m s. not_both o x y (low y m) s) in
          let all_n : from before n l ≡ l = from_start n l (λ y m s. gap y (there m) (low y m) s) in
          let own : T (fx u) = not_T (before u x) (subst (λ z. T (before z x) → ⊥) e (o.irrefl x)) in
          let out : T (fn u) → ⊥ = λ s. T_not (before u n) s (subst (λ z. T (before z n)) e t) in
          keep_yes fx u l own ∙ ap₂ ◌∷◌ (sym e) (all_x ∙ sym all_n ∙ sym (keep_no fn u l out))

      later : x ∈ l → from before x l ≡ x ∷ from before n l → from before x (u ∷ l) ≡ x ∷ from before n (u ∷ l)
      later m ih =
          let low : T (before u x) = head_first a x m in
          let out_x : T (fx u) → ⊥ = λ s. T_not (before u x) s low in
          let out_n : T (fn u) → ⊥ = λ s. T_not (before u n) s (o.trans u x n low t) in
          keep_no fx u l out_x ∙ ih ∙ ap (◌∷◌ x) (sym (keep_no fn u l out_n))

  -- ---- a test that holds of all before an entry of which it holds keeps an initial run
  pub run_front : (f : A → Bool) (l : List A) → Ascending before l
      → ((x y : A) → x ∈ l → y ∈ l → T (before x y) → T (f y) → T (f x)) → keep f l ≡ take (length (keep f l)) l
  unfolding keep
  run_front f [] a h = refl
  run_front f (x ∷ l) a h = go (test (f x)) (run_front f l (tail_asc a) (λ u y m k. h u y (there m) (there k)))
    where
      go : Tested (f x) → keep f l ≡ take (length (keep f l)) l → keep f (x ∷ l) ≡ take (length (keep f (x ∷ l))) (x ∷ l)
      go (passed e) ih = rw e (ap (◌∷◌ x) ih)
      go (failed e) ih =
          let none : keep f l ≡ [] = keep_none f l (λ y m t. is→n_t (f x) e (h x y here (there m) (head_first a y m) t)) in
          rw (e, none)

-- neither makes a list longer than it may
module _ {A : Type 0} (same before : A → A → Bool) where
  insert_length_le : (x : A) (l : List A) → length (insert_by same before x l) ≤ suc (length l)
  unfolding insert_by
  insert_length_le x [] = omega arith
  insert_length_le x (y ∷ l) =
      let ih : length (insert_by same before x l) ≤ suc (length l) = insert_length_le x l in
      cond_cases (λ (r : List A). length r ≤ suc (suc (length l))) (same x y) (y ∷ l) (cond (before x y) (x ∷ y ∷ l) (y ∷ insert_by same before x l))
      (λ t. omega arith)
      (λ t. cond_cases (λ (r : List A). length r ≤ suc (suc (length l))) (before x y) (x ∷ y ∷ l) (y ∷ insert_by same before x l) (λ s. omega arith) (λ s. omega arith))

  pub arrange_none : arrange_by same before [] ≡ []
  unfolding arrange_by
  arrange_none = refl

  pub arrange_length : (l : List A) → length (arrange_by same before l) ≤ length l
  unfolding arrange_by
  arrange_length [] = omega arith
  arrange_length (x ∷ l) =
      let ih : length (arrange_by same before l) ≤ length l = arrange_length l in
      let h : length (insert_by same before x (arrange_by same before l)) ≤ suc (length (arrange_by same before l)) = insert_length_le x (arrange_by same before l) in
      omega arith
