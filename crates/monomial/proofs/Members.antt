-- Members of the lists that `any`, `keep` and `gather` speak of. Assumes nothing.
use mathlib.Core.Path.{◌≡◌, refl, sym, ap, ap₂, subst, ◌∙◌}
use mathlib.Core.Logic.{◌⊎◌, ⊎_elim}
use mathlib.Core.Bool.{Bool, not, cond, ◌&&◌, ◌||◌}
use mathlib.Core.List.Memᴰ
use mathlib.Core.List.{List, [], ◌∷◌, ◌++◌, map, append_assoc}
use lib.ListN.{length, get_or, take, drop, replicate}
use Prim.Native.Nat.{ℕ, zero, suc, ◌+◌, ◌<◌, ◌≤◌}
use native.Mathlib.Omega.{arith}
use lib.Dec.{T}
use Rattle.monomial.specs.Lists.{any, some, all, keep, gather}
use Rattle.monomial.specs.Claims.{◌∈◌, ◌⊆◌}
use Rattle.monomial.proofs.Tests.{and_l, and_r, and_i, or_l, or_r, or_e, cond_cases, T→is, n_t→is, is→T, is→n_t, Tested, passed, failed, test}

module _ {A : Type 0} where
  pub here : {x : A} {l : List A} → x ∈ (x ∷ l)
  here = Memᴰ.head refl

  pub there : {x y : A} {l : List A} → x ∈ l → x ∈ (y ∷ l)
  there h = Memᴰ.tail h

  -- ---- any
  pub any_in : (f : A → Bool) {x : A} {l : List A} → x ∈ l → T (f x) → T (any f l)
  unfolding any
  any_in f {l = []} x6 t = elim x6 [ ]
  any_in f {l = y ∷ l} (Memᴰ.head e) t = or_l (f y) (any f l) (subst (λ z. T (f z)) e t)
  any_in f {l = y ∷ l} (Memᴰ.tail h) t = or_r (f y) (any f l) (any_in f h t)

  pub any_cons : (f : A → Bool) (x : A) (l : List A) → any f (x ∷ l) ≡ (f x || any f l)
  unfolding any
  any_cons f x l = refl

  -- an entry that passes
  pub record Passing (f : A → Bool) (l : List A) : Type 0 where
    pub entry : A
    pub member : entry ∈ l
    pub passes : T (f entry)

  pub any_out : (f : A → Bool) (l : List A) → T (any f l) → Passing f l
  unfolding any
  any_out f [] t = absurd t
  any_out f (y ∷ l) t = ⊎_elim (λ s. record { entry = y; member = here; passes = s }) (λ s. later (any_out f l s)) (or_e (f y) (any f l) t)
    where
      later : Passing f l → Passing f (y ∷ l)
      later p = record { entry = p.entry; member = there p.member; passes = p.passes }

  -- ---- some
  pub some_in : {x : A} {l : List A} → x ∈ l → T (some l)
  unfolding some
  some_in {l = []} x'' = elim x'' [ ]
  some_in {l = y ∷ l} (Memᴰ.head e) = tt
  some_in {l = y ∷ l} (Memᴰ.tail h) = tt

  pub some_none : (l : List A) → (T (some l) → ⊥) → l ≡ []
  unfolding some
  some_none [] n = refl
  some_none (x ∷ l) n = absurd (n tt)

  -- the first of a list that has entries
  pub some_out : (l : List A) → T (some l) → (x : A) × (x ∈ l)
  unfolding some
  some_out [] t = absurd t
  some_out (x ∷ l) t = (x, here)

  pub no_length : (l : List A) → length l ≡ 0 → l ≡ []
  no_length [] e = refl
  no_length (x ∷ l) e = let z : ⊥ = omega arith in absurd z

  -- ---- all
  pub all_out : (f : A → Bool) {x : A} {l : List A} → T (all f l) → x ∈ l → T (f x)
  unfolding all
  all_out f {l = []} t x6 = elim x6 [ ]
  all_out f {l = y ∷ l} t (Memᴰ.head e) = subst (λ z. T (f z)) (sym e) (and_l (f y) (all f l) t)
  all_out f {l = y ∷ l} t (Memᴰ.tail h) = all_out f (and_r (f y) (all f l) t) h

  pub all_in : (f : A → Bool) (l : List A) → ((x : A) → x ∈ l → T (f x)) → T (all f l)
  unfolding all
  all_in f [] h = tt
  all_in f (y ∷ l) h = and_i (f y) (all f l) (h y here) (all_in f l (λ x m. h x (there m)))

  -- ---- keep
  pub keep_in : (f : A → Bool) {x : A} (l : List A) → x ∈ l → T (f x) → x ∈ keep f l
  unfolding keep
  keep_in f [] h t = absurd (Memᴰ.not-nil h)
  keep_in f {x} (y ∷ l) h t =
      cond_cases (λ r. x ∈ r) (f y) (y ∷ keep f l) (keep f l)
      (λ s. ⊎_elim (λ e. Memᴰ.head e) (λ m. there (keep_in f l m t)) (Memᴰ.cases_cons h))
      (λ s. ⊎_elim (λ e. absurd (s (subst (λ z. T (f z)) e t))) (λ m. keep_in f l m t) (Memᴰ.cases_cons h))

  pub keep_out : (f : A → Bool) {x : A} (l : List A) → x ∈ keep f l → (x ∈ l) × T (f x)
  unfolding keep
  keep_out f [] h = absurd (Memᴰ.not-nil h)
  keep_out f {x} (y ∷ l) h = step (keep_out f l) h
    where
      step : (x ∈ keep f l → (x ∈ l) × T (f x)) → x ∈ keep f (y ∷ l) → (x ∈ (y ∷ l)) × T (f x)
      step ih =
          cond_cases (λ r. x ∈ r → (x ∈ (y ∷ l)) × T (f x)) (f y) (y ∷ keep f l) (keep f l)
          (λ s m. ⊎_elim (λ e. (Memᴰ.head e, subst (λ z. T (f z)) (sym e) s)) (λ n. (there (ih n).0, (ih n).1)) (Memᴰ.cases_cons m))
          (λ s m. (there (ih m).0, (ih m).1))

  -- one entry of `keep` at a time
  pub keep_yes : (f : A → Bool) (x : A) (l : List A) → T (f x) → keep f (x ∷ l) ≡ x ∷ keep f l
  unfolding keep
  keep_yes f x l t = rw (T→is (f x) t)

  pub keep_no : (f : A → Bool) (x : A) (l : List A) → (T (f x) → ⊥) → keep f (x ∷ l) ≡ keep f l
  unfolding keep
  keep_no f x l n = rw (n_t→is (f x) n)

  -- all pass, or none does
  pub keep_all : (f : A → Bool) (l : List A) → ((x : A) → x ∈ l → T (f x)) → keep f l ≡ l
  unfolding keep
  keep_all f [] h = refl
  keep_all f (x ∷ l) h = rw (T→is (f x) (h x here)) (ap (◌∷◌ x) (keep_all f l (λ y m. h y (there m))))

  pub keep_none : (f : A → Bool) (l : List A) → ((x : A) → x ∈ l → T (f x) → ⊥) → keep f l ≡ []
  unfolding keep
  keep_none f [] h = refl
  keep_none f (x ∷ l) h = rw (n_t→is (f x) (h x here)) (keep_none f l (λ y m. h y (there m)))

-- ---- two lists, one behind the other
module _ {A : Type 0} where
  pub append_sub : {a b c d : List A} → a ⊆ b → c ⊆ d → (a ++ c) ⊆ (b ++ d)
  append_sub {a} {b} {c} {d} ab cd y h = ⊎_elim (λ k. Memᴰ.append_left d (ab y k)) (λ k. Memᴰ.append_right b (cd y k)) (Memᴰ.append_cases a h)

  pub append_turned : (a b : List A) → (a ++ b) ⊆ (b ++ a)
  append_turned a b y h = ⊎_elim (λ k. Memᴰ.append_right b k) (λ k. Memᴰ.append_left a k) (Memᴰ.append_cases a h)

-- ---- gather
module _ {A B : Type 0} (f : A → List B) where
  pub gather_in : {x : A} {y : B} (l : List A) → x ∈ l → y ∈ f x → y ∈ gather f l
  unfolding gather
  gather_in [] h m = absurd (Memᴰ.not-nil h)
  gather_in {x} {y} (a ∷ l) h m =
      ⊎_elim (λ e. Memᴰ.append_left (gather f l) (subst (λ z. y ∈ f z) e m)) (λ k. Memᴰ.append_right (f a) (gather_in l k m)) (Memᴰ.cases_cons h)

  pub record Gathered (y : B) (l : List A) : Type 0 where
    pub entry : A
    pub member : entry ∈ l
    pub inside : y ∈ f entry

  pub gather_out : {y : B} (l : List A) → y ∈ gather f l → Gathered y l
  unfolding gather
  gather_out [] h = absurd (Memᴰ.not-nil h)
  gather_out {y} (a ∷ l) h = ⊎_elim (λ m. record { entry = a; member = here; inside = m }) (λ m. later (gather_out l m)) (Memᴰ.append_cases (f a) h)
    where
      later : Gathered y l → Gathered y (a ∷ l)
      later g = record { entry = g.entry; member = there g.member; inside = g.inside }

  pub gather_sub : (a b : List A) → a ⊆ b → gather f a ⊆ gather f b
  gather_sub a b ab y h = let g : Gathered y a = gather_out a h in gather_in b (ab g.entry g.member) g.inside

-- ---- keep, entry by entry
pub keep_append : {A : Type 0} (f : A → Bool) (a b : List A) → keep f (a ++ b) ≡ keep f a ++ keep f b
unfolding keep
keep_append f [] b = refl
keep_append f (x ∷ a) b = go (test (f x)) (keep_append f a b)
  where
    go : Tested (f x) → keep f (a ++ b) ≡ keep f a ++ keep f b → keep f (x ∷ (a ++ b)) ≡ keep f (x ∷ a) ++ keep f b
    go (passed e) ih = rw e (ap (◌∷◌ x) ih)
    go (failed e) ih = rw e ih

pub keep_map : {A B : Type 0} (f : B → Bool) (g : A → B) (l : List A) → keep f (map g l) ≡ map g (keep (λ x. f (g x)) l)
unfolding keep
keep_map f g [] = refl
keep_map f g (x ∷ l) = go (test (f (g x))) (keep_map f g l)
  where
    go : Tested (f (g x)) → keep f (map g l) ≡ map g (keep (λ x. f (g x)) l) → keep f (map g (x ∷ l)) ≡ map g (keep (λ x. f (g x)) (x ∷ l))
    go (passed e) ih = rw e (ap (◌∷◌ (g x)) ih)
    go (failed e) ih = rw e ih

-- two tests in either order
pub keep_swap : {A : Type 0} (f g : A → Bool) (l : List A) → keep f (keep g l) ≡ keep g (keep f l)
unfolding keep
keep_swap f g [] = refl
keep_swap f g (x ∷ l) = go (test (f x)) (test (g x)) (keep_swap f g l)
  where
    go : Tested (f x) → Tested (g x) → keep f (keep g l) ≡ keep g (keep f l) → keep f (keep g (x ∷ l)) ≡ keep g (keep f (x ∷ l))
    go (passed a) (passed b) ih = simp (a, b) (ap (◌∷◌ x) ih)
    go (passed a) (failed b) ih = simp (a, b) ih
    go (failed a) (passed b) ih = simp (a, b) ih
    go (failed a) (failed b) ih = simp (a, b) ih

-- two tests, one after the other
pub keep_both : {A : Type 0} (f g : A → Bool) (l : List A) → keep f (keep g l) ≡ keep (λ x. g x && f x) l
unfolding keep
keep_both f g [] = refl
keep_both f g (x ∷ l) = go (keep_both f g l) (test (g x)) (test (f x))
  where
    go : keep f (keep g l) ≡ keep (λ x. g x && f x) l → Tested (g x) → Tested (f x) → keep f (keep g (x ∷ l)) ≡ keep (λ x. g x && f x) (x ∷ l)
    go ih (passed a) (passed b) = rw (a, b) (ap (◌∷◌ x) ih)
    go ih (passed a) (failed b) = rw (a, b) ih
    go ih (failed a) b = rw a ih

-- a test that says the same of each entry
pub keep_same : {A : Type 0} (f g : A → Bool) (l : List A) → ((x : A) → x ∈ l → f x ≡ g x) → keep f l ≡ keep g l
unfolding keep
keep_same f g [] e = refl
keep_same {A} f g (x ∷ l) e = ap₂ (λ (b : Bool) (r : List A). cond b (x ∷ r) r) (e x here) (keep_same f g l (λ y h. e y (there h)))

pub keep_length : {A : Type 0} (f : A → Bool) (l : List A) → length (keep f l) ≤ length l
unfolding keep
keep_length f [] = omega arith
keep_length f (x ∷ l) =
    let ih : length (keep f l) ≤ length l = keep_length f l in
    cond_cases (λ r. length r ≤ suc (length l)) (f x) (x ∷ keep f l) (keep f l) (λ t. omega arith) (λ t. omega arith)

-- what passes a test, and what fails it
pub keep_split : {A : Type 0} (f : A → Bool) (l : List A) → length (keep f l) + length (keep (λ x. not (f x)) l) ≡ length l
unfolding keep
keep_split f [] = omega arith
keep_split f (x ∷ l) = go (keep_split f l) (test (f x))
  where
    go : length (keep f l) + length (keep (λ x. not (f x)) l) ≡ length l → Tested (f x)
        → length (keep f (x ∷ l)) + length (keep (λ x. not (f x)) (x ∷ l)) ≡ suc (length l)
    go ih (passed e) = rw e (omega arith)
    go ih (failed e) = rw e (omega arith)

-- what passes one of two tests is no more than what passes the one and what passes the other
pub keep_either : {A : Type 0} (f g h : A → Bool) (l : List A) → ((x : A) → T (f x) → T (g x) ⊎ T (h x)) → length (keep f l) ≤ length (keep g l) + length (keep h l)
unfolding keep
keep_either f g h [] s = omega arith
keep_either f g h (x ∷ l) s = go (keep_either f g h l s) (test (f x)) (test (g x)) (test (h x))
  where
    go : length (keep f l) ≤ length (keep g l) + length (keep h l) → Tested (f x) → Tested (g x) → Tested (h x)
        → length (keep f (x ∷ l)) ≤ length (keep g (x ∷ l)) + length (keep h (x ∷ l))
    go ih (passed a) (passed b) (passed c) = rw (a, b, c) (omega arith)
    go ih (passed a) (passed b) (failed c) = rw (a, b, c) (omega arith)
    go ih (passed a) (failed b) (passed c) = rw (a, b, c) (omega arith)
    go ih (passed a) (failed b) (failed c) = absurd (⊎_elim (is→n_t (g x) b) (is→n_t (h x) c) (s x (is→T (f x) a)))
    go ih (failed a) (passed b) (passed c) = rw (a, b, c) (omega arith)
    go ih (failed a) (passed b) (failed c) = rw (a, b, c) (omega arith)
    go ih (failed a) (failed b) (passed c) = rw (a, b, c) (omega arith)
    go ih (failed a) (failed b) (failed c) = rw (a, b, c) (omega arith)

-- where an entry passes
pub keep_some : {A : Type 0} (f : A → Bool) {x : A} (l : List A) → x ∈ l → T (f x) → 1 ≤ length (keep f l)
keep_some {A} f {x} l h t = go (keep f l) (keep_in f l h t)
  where
    go : (r : List A) → x ∈ r → 1 ≤ length r
    go [] m = absurd (Memᴰ.not-nil m)
    go (y ∷ r) m = omega arith

-- ---- gather, list by list
pub gather_append : {A B : Type 0} (f : A → List B) (a b : List A) → gather f (a ++ b) ≡ gather f a ++ gather f b
unfolding gather
gather_append f [] b = refl
gather_append f (x ∷ a) b = ap (λ l. f x ++ l) (gather_append f a b) ∙ sym (append_assoc (f x) (gather f a) (gather f b))

-- each entry by itself
pub gather_alone : {A : Type 0} (l : List A) → gather (λ x. x ∷ []) l ≡ l
unfolding gather
gather_alone [] = refl
gather_alone (x ∷ l) = ap (◌∷◌ x) (gather_alone l)

pub gather_same : {A B : Type 0} (f g : A → List B) (l : List A) → ((x : A) → x ∈ l → f x ≡ g x) → gather f l ≡ gather g l
unfolding gather
gather_same f g [] e = refl
gather_same f g (x ∷ l) e = ap₂ ◌++◌ (e x here) (gather_same f g l (λ y h. e y (there h)))

pub map_same : {A B : Type 0} (f g : A → B) (l : List A) → ((x : A) → x ∈ l → f x ≡ g x) → map f l ≡ map g l
map_same f g [] e = refl
map_same f g (x ∷ l) e = ap₂ ◌∷◌ (e x here) (map_same f g l (λ y h. e y (there h)))

-- ---- map, place by place
pub map_at : {A B : Type 0} (f : A → B) (l : List A) (i : ℕ) (a : A) (b : B) → i < length l → get_or (map f l) i b ≡ f (get_or l i a)
map_at f [] i a b h = let z : ⊥ = omega arith in absurd z
map_at f (x ∷ l) zero a b h = refl
map_at f (x ∷ l) (suc i) a b h = map_at f l i a b (omega arith)

-- ---- one entry again and again: it stands at every place, and beyond the last by default
pub fill_at : {A : Type 0} (x : A) (w i : ℕ) → get_or (replicate w x) i x ≡ x
fill_at x zero i = refl
fill_at x (suc w) zero = refl
fill_at x (suc w) (suc i) = fill_at x w i

-- ---- take
pub take_in : {A : Type 0} (n : ℕ) (l : List A) {x : A} → x ∈ take n l → x ∈ l
take_in zero l h = absurd (Memᴰ.not-nil h)
take_in (suc n) [] h = h
take_in (suc n) (y ∷ l) h = ⊎_elim (λ e. Memᴰ.head e) (λ k. there (take_in n l k)) (Memᴰ.cases_cons h)

pub drop_in : {A : Type 0} (n : ℕ) (l : List A) {x : A} → x ∈ drop n l → x ∈ l
drop_in zero l h = h
drop_in (suc n) [] h = h
drop_in (suc n) (y ∷ l) h = there (drop_in n l h)

-- the first entries are among more of them
pub take_more : {A : Type 0} (a b : ℕ) (l : List A) → a ≤ b → {x : A} → x ∈ take a l → x ∈ take b l
take_more zero b l h k = absurd (Memᴰ.not-nil k)
take_more (suc a) zero l h k = let z : ⊥ = omega arith in absurd z
take_more (suc a) (suc b) [] h k = k
take_more (suc a) (suc b) (y ∷ l) h k = ⊎_elim (λ e. Memᴰ.head e) (λ j. there (take_more a b l (omega arith) j)) (Memᴰ.cases_cons k)

-- more entries, of which none passes
pub keep_more : {A : Type 0} (f : A → Bool) (n b : ℕ) (l : List A) → n ≤ b → ((x : A) → x ∈ drop n l → T (f x) → ⊥) → keep f (take n l) ≡ keep f (take b l)
unfolding keep
keep_more f zero b l h e = sym (keep_none f (take b l) (λ x i. e x (take_in b l i)))
keep_more f (suc n) zero l h e = let z : ⊥ = omega arith in absurd z
keep_more f (suc n) (suc b) [] h e = refl
keep_more {A} f (suc n) (suc b) (x ∷ l) h e = ap (λ (r : List A). cond (f x) (x ∷ r) r) (keep_more f n b l (omega arith) e)
