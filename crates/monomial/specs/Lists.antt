-- Words on lists that compute: tests of entries, two lists side by side, ascending lists.
-- A recursive call that a test may not need is bound by a `let`, which waits.
-- Assumes nothing.
use Rattle.std.specs.Prelude.{Bool, true, false, cond, ◌&&◌, ◌||◌, List, [], ◌∷◌, ◌++◌, map, ℕ, zero, suc}

module _ {A : Type 0} where
  -- some entry passes the test
  unfoldable pub any : (A → Bool) → List A → Bool
  any f [] = false
  any f (x ∷ l) = let r = any f l in f x || r

  -- the list has entries
  unfoldable pub some : List A → Bool
  some [] = false
  some (x ∷ l) = true

  -- every entry passes the test
  unfoldable pub all : (A → Bool) → List A → Bool
  all f [] = true
  all f (x ∷ l) = let r = all f l in f x && r

  -- the number, from 0, of the first entry that passes; the length where none does
  unfoldable pub place : (A → Bool) → List A → ℕ
  place f [] = 0
  place f (x ∷ l) = let r = place f l in cond (f x) 0 (suc r)

  -- the entries that pass the test, in their order
  unfoldable pub keep : (A → Bool) → List A → List A
  keep f [] = []
  keep f (x ∷ l) = let r = keep f l in cond (f x) (x ∷ r) r

  -- two lists of one length, and the test passes at every place
  unfoldable pub pairwise : (A → A → Bool) → List A → List A → Bool
  pairwise test [] [] = true
  pairwise test [] (y ∷ b) = false
  pairwise test (x ∷ a) [] = false
  pairwise test (x ∷ a) (y ∷ b) = let r = pairwise test a b in test x y && r

  -- the order of a dictionary: the first place at which the two lists differ decides
  unfoldable pub dictionary : (A → A → Bool) → (A → A → Bool) → List A → List A → Bool
  dictionary same before [] [] = false
  dictionary same before [] (y ∷ b) = true
  dictionary same before (x ∷ a) [] = false
  dictionary same before (x ∷ a) (y ∷ b) = let r = dictionary same before a b in before x y || (same x y && r)

  -- an ascending list with x in it, once
  unfoldable pub insert_by : (A → A → Bool) → (A → A → Bool) → A → List A → List A
  insert_by same before x [] = x ∷ []
  insert_by same before x (y ∷ l) = let r = insert_by same before x l in cond (same x y) (y ∷ l) (cond (before x y) (x ∷ y ∷ l) (y ∷ r))

  -- the entries of a list, ascending, each once
  unfoldable pub arrange_by : (A → A → Bool) → (A → A → Bool) → List A → List A
  arrange_by same before [] = []
  arrange_by same before (x ∷ l) = insert_by same before x (arrange_by same before l)

-- 0, 1, .. below n
unfoldable pub below : ℕ → List ℕ
below zero = []
below (suc n) = 0 ∷ map suc (below n)

-- what f makes of the entries at each place of two lists
unfoldable pub pointwise : {A B C : Type 0} → (A → B → C) → List A → List B → List C
pointwise f [] b = []
pointwise f (x ∷ a) [] = []
pointwise f (x ∷ a) (y ∷ b) = f x y ∷ pointwise f a b

-- the lists that f gives for the entries, one after the other
unfoldable pub gather : {A B : Type 0} → (A → List B) → List A → List B
gather f [] = []
gather f (x ∷ l) = f x ++ gather f l
