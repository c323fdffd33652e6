-- The numbers below n, and the number of the first entry that passes a test. Assumes nothing.
use mathlib.Core.Path.{◌≡◌, refl, sym, ap, ◌∙◌}
use mathlib.Core.Logic.{⊎_elim}
use mathlib.Core.Bool.{Bool, cond, ◌||◌, true, false}
use mathlib.Core.List.Memᴰ
use mathlib.Core.List.{List, [], ◌∷◌, map}
use Prim.Native.Nat.{ℕ, zero, suc, ◌<◌, ◌≤◌}
use native.Mathlib.Omega.{arith}
use borrow.Author.Tests.{leb-true, leb-false}
use lib.Dec.{T, leb, ltb, ltb→lt, lt→ltb}
use lib.ListN.{length, get_or, length-map}
use Rattle.monomial.specs.Lists.{any, place, below}
use Rattle.monomial.specs.Claims.{◌∈◌, Ascending, empty, first}
use Rattle.monomial.proofs.Tests.{Tested, passed, failed, test, is→T, is→n_t, or_e}
use Rattle.monomial.proofs.Members.{here, there}
use Rattle.monomial.proofs.order.Ascending.{map_asc}

-- ---- 0, 1, .. below n
pub below_in : (n i : ℕ) → i < n → i ∈ below n
unfolding below
below_in zero i h = let z : ⊥ = omega arith in absurd z
below_in (suc n) zero h = here
below_in (suc n) (suc i) h = there (Memᴰ.map suc (below_in n i (omega arith)))

pub below_out : (n i : ℕ) → i ∈ below n → i < n
unfolding below
below_out zero i h = absurd (Memᴰ.not-nil h)
below_out (suc n) i h =
    ⊎_elim (λ e. omega arith)
    (λ k. let p : (j : ℕ) × (j ∈ below n) × (suc j ≡ i) = Memᴰ.of_map suc (below n) k in let q : p.0 < n = below_out n p.0 p.1 in omega (arith, p.2))
    (Memᴰ.cases_cons h)

pub below_asc : (n : ℕ) → Ascending ltb (below n)
unfolding below
below_asc zero = empty
below_asc (suc n) = first low (map_asc suc (λ x y t. let h : x < y = ltb→lt x y t in lt→ltb (suc x) (suc y) (omega arith)) (below n) (below_asc n))
  where
    low : (y : ℕ) → y ∈ map suc (below n) → T (ltb 0 y)
    low y m = let p : (z : ℕ) × (z ∈ below n) × (suc z ≡ y) = Memᴰ.of_map suc (below n) m in lt→ltb 0 y (omega (arith, p.2))

pub below_length : (n : ℕ) → length (below n) ≡ n
unfolding below
below_length zero = refl
below_length (suc n) = ap suc (length-map (below n) suc ∙ below_length n)

-- a list made of the numbers below n, at one of them
pub below_at : {A : Type 0} (f : ℕ → A) (n i : ℕ) (d : A) → i < n → get_or (map f (below n)) i d ≡ f i
unfolding below
below_at f zero i d h = let z : ⊥ = omega arith in absurd z
below_at f (suc n) zero d h = refl
below_at f (suc n) (suc i) d h = ap (λ (l : List _). get_or l i d) (shift (below n)) ∙ below_at (λ k. f (suc k)) n i d (omega arith)
  where
    shift : (l : List ℕ) → map f (map suc l) ≡ map (λ k. f (suc k)) l
    shift [] = refl
    shift (x ∷ l) = ap (◌∷◌ (f (suc x))) (shift l)

-- ---- the first entry that passes
module _ {A : Type 0} (f : A → Bool) where
  pub place_lt : (l : List A) → T (any f l) → place f l < length l
  unfolding place any
  place_lt [] t = absurd t
  place_lt (x ∷ l) t = go (f x) t (place_lt l)
    where
      go : (b : Bool) → T (b || any f l) → (T (any f l) → place f l < length l) → cond b 0 (suc (place f l)) < suc (length l)
      go true s ih = omega arith
      go false s ih = let h : place f l < length l = ih s in omega arith

  pub place_passes : (l : List A) (d : A) → T (any f l) → T (f (get_or l (place f l) d))
  unfolding place any
  place_passes [] d t = absurd t
  place_passes (x ∷ l) d t = go (test (f x)) (place_passes l d)
    where
      go : Tested (f x) → (T (any f l) → T (f (get_or l (place f l) d))) → T (f (get_or (x ∷ l) (cond (f x) 0 (suc (place f l))) d))
      go (passed e) ih = rw e (is→T (f x) e)
      go (failed e) ih = rw e (ih (⊎_elim (λ s. absurd (is→n_t (f x) e s)) (λ s. s) (or_e (f x) (any f l) t)))

  -- a number below the length is that of an entry that passes
  pub place_any : (l : List A) → place f l < length l → T (any f l)
  unfolding place any
  place_any [] h = omega arith
  place_any (x ∷ l) h = go (f x) h (place_any l)
    where
      go : (b : Bool) → cond b 0 (suc (place f l)) < suc (length l) → (place f l < length l → T (any f l)) → T (b || any f l)
      go true k ih = tt
      go false k ih = ih (omega arith)

  -- nothing before the first that passes does
  pub place_least : (l : List A) (d : A) (j : ℕ) → j < place f l → T (f (get_or l j d)) → ⊥
  unfolding place
  place_least [] d j h t = omega arith
  place_least (x ∷ l) d j h t = go j h t (place_least l d) (test (f x))
    where
      go : (j : ℕ) → j < place f (x ∷ l) → T (f (get_or (x ∷ l) j d)) → ((i : ℕ) → i < place f l → T (f (get_or l i d)) → ⊥) → Tested (f x) → ⊥
      go j h t ih (passed e) = let k : j < 0 = rw e at h in omega arith
      go zero h t ih (failed e) = is→n_t (f x) e t
      go (suc i) h t ih (failed e) = let k : suc i < suc (place f l) = rw e at h in ih i (omega arith) t

-- an entry by its number is a member
pub at_in : {A : Type 0} (l : List A) (i : ℕ) (d : A) → i < length l → get_or l i d ∈ l
at_in [] i d h = let z : ⊥ = omega arith in absurd z
at_in (x ∷ l) zero d h = here
at_in (x ∷ l) (suc i) d h = there (at_in l i d (omega arith))

-- and a member has a number
pub in_at : {A : Type 0} (l : List A) (x d : A) → x ∈ l → (i : ℕ) × (i < length l) × (get_or l i d ≡ x)
in_at {A = A} [] x d x3 = elim x3 [ ]
in_at (y ∷ l) x d (Memᴰ.head e) = (0, omega arith, sym e)
in_at (y ∷ l) x d (Memᴰ.tail h) = let k = in_at l x d h in (suc k.0, omega (arith, k.1), k.2)

-- the first that passes is not behind any that does
pub place_le : {A : Type 0} (f : A → Bool) (l : List A) (x : A) (j : ℕ) → T (f (get_or l j x)) → place f l ≤ j
place_le f l x j t = go (test (leb (place f l) j))
  where
    go : Tested (leb (place f l) j) → place f l ≤ j
    go (passed p) = leb-true (place f l) j p
    go (failed p) = absurd (place_least f l x j (leb-false (place f l) j p) t)
