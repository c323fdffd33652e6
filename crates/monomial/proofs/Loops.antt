-- Loops over lists of any length: ones that fill a list place by place (`Filling`, `Pasting`), compare two (`Comparing`), look through one (`Seeking`, `SeekingDown`,
-- `Placing`, `Checking`, `CheckingFrom`), or collect what its entries give (`Collecting`, `CollectingDown`). Each record is a loop's invariant. Assumes nothing.
use mathlib.Core.Path.{◌≡◌, refl, sym, ap, ap₂, ◌∙◌, subst}
use mathlib.Core.Bool.{Bool, true, false, ◌&&◌}
use mathlib.Core.List.{List, [], ◌∷◌, ◌++◌, append-nil}
use Prim.Native.Nat.{ℕ, zero, suc, ◌+◌, ◌≤◌, ◌<◌}
use native.Mathlib.Omega.{arith}
use native.Mathlib.Numerals.{add-one}
use lib.ListN.{length, take, drop, set, get_or, replicate, length-set, drop_of_length-le}
use lib.Seq.{paste, paste-zero, paste-suc, length-paste, take-suc, take-suc-set, take_all, drop-cons, set_at, length-take-le, append_snoc}
use Rattle.std.specs.List.{list_all, zip}
use Rattle.monomial.specs.Lists.{any, all, place, pairwise, pointwise, gather}
use Rattle.monomial.specs.Claims.{◌⊆◌}
use Rattle.monomial.proofs.Tests.{or_true}
use Rattle.monomial.proofs.Members.{append_turned, gather_sub, gather_append, take_in, drop_in}

module _ {A : Type 0} (d : A) where
  -- ---- a loop that makes r the list t, and has come to place i
  pub record Filling (w : ℕ) (t r : List A) (i : ℕ) : Type 0 where
    pub within : i ≤ w
    pub long : length r ≡ w
    pub filled : take i r ≡ take i t

  pub filling_start : (w : ℕ) (t r : List A) → length r ≡ w → Filling w t r 0
  filling_start w t r l = record { within = omega arith; long = l; filled = refl }

  pub filling_next : {w : ℕ} {t r : List A} {i : ℕ} (x : A) → Filling w t r i → i < w → length t ≡ w → x ≡ get_or t i d → Filling w t (set r i x) (i + 1)
  filling_next {w} {t} {r} {i} x f h l e =
      let k : i < length r = omega arith in
      let j : i < length t = omega arith in
      record {
        within = omega arith;
        long = length-set r i x ∙ f.long;
        filled = rw (add-one i, take-suc-set r i x k, take-suc t i d j, f.filled, e);
      }

  pub filling_end : {w : ℕ} {t r : List A} {i : ℕ} → Filling w t r i → w ≤ i → length t ≡ w → r ≡ t
  filling_end {w} {t} {r} {i} f h l = sym (take_all i r (omega arith)) ∙ f.filled ∙ take_all i t (omega arith)

  -- ---- a loop that pastes the w entries of s over d from `at` on, and has come to entry i
  pub record Pasting (w at : ℕ) (s e l : List A) (i : ℕ) : Type 0 where
    pub within : i ≤ w
    pub source : length s ≡ w
    pub room : at + w ≤ length e
    pub pasted : l ≡ paste e at s i

  pub pasting_start : (w at : ℕ) (s e : List A) → length s ≡ w → at + w ≤ length e → Pasting w at s e e 0
  pasting_start w at s e h k = record { within = omega arith; source = h; room = k; pasted = paste-zero e at s }

  module _ {w at : ℕ} {s e l : List A} {i : ℕ} (p : Pasting w at s e l i) where
    pub pasting_length : length l ≡ length e
    pasting_length = ap length p.pasted ∙ length-paste e at s i (omega arith) (omega arith)

    pub pasting_room : i < w → at + i < length l
    pasting_room h = omega (arith, pasting_length)

    pub pasting_next : i < w → Pasting w at s e (set l (at + i) (get_or s i d)) (i + 1)
    pasting_next h = record {
      within = omega arith;
      source = p.source;
      room = p.room;
      pasted = rw (p.pasted, add-one i) (paste-suc e at s i d (omega arith) (omega arith));
    }

    pub pasting_end : w ≤ i → l ≡ paste e at s w
    pasting_end h = let q : i ≡ w = omega arith in subst (λ (n : ℕ). l ≡ paste e at s n) q p.pasted

  -- the last entry of a front, written anew
  pub set_front : (l z : List A) (i : ℕ) (x : A) → i < length l → set (take (i + 1) l ++ z) i x ≡ take i l ++ (x ∷ z)
  set_front l z i x h =
      rw (add-one i, take-suc l i d h, append_snoc (take i l) (get_or l i d) z) (set_at (take i l) (get_or l i d) z x i (length-take-le i l (omega arith)))

-- ---- a loop that compares a and b by f, and has come to place i: what is left says what the whole says
pub record Comparing {A : Type 0} (w : ℕ) (f : List A → List A → Bool) (a b : List A) (i : ℕ) : Type 0 where
  pub within : i ≤ w
  pub left : length a ≡ w
  pub right : length b ≡ w
  pub rest : f (drop i a) (drop i b) ≡ f a b

module _ {A : Type 0} {w : ℕ} {f : List A → List A → Bool} {a b : List A} where
  pub comparing_start : length a ≡ w → length b ≡ w → Comparing w f a b 0
  comparing_start h k = record { within = omega arith; left = h; right = k; rest = refl }

  pub comparing_next : {i : ℕ} → Comparing w f a b i → i < w → f (drop i a) (drop i b) ≡ f (drop (i + 1) a) (drop (i + 1) b) → Comparing w f a b (i + 1)
  comparing_next {i} c h e = record { within = omega arith; left = c.left; right = c.right; rest = sym e ∙ c.rest }

  pub comparing_says : {i : ℕ} (r : Bool) → Comparing w f a b i → f (drop i a) (drop i b) ≡ r → r ≡ f a b
  comparing_says {i} r c e = sym e ∙ c.rest

-- ---- a loop that tests two lists side by side: it fails at a place, or goes on, or has come to the end
module _ {A : Type 0} (d : A) (test : A → A → Bool) where
  turn : (a b : List A) (i : ℕ) → i < length a → i < length b → pairwise test (drop i a) (drop i b) ≡ pairwise test (get_or a i d ∷ drop (i + 1) a) (get_or b i d ∷ drop (i + 1) b)
  turn a b i h k = rw (add-one i, drop-cons a i d h, drop-cons b i d k)

  module _ {w i : ℕ} {a b : List A} (c : Comparing w (pairwise test) a b i) where
    pub pairwise_fails : i < w → test (get_or a i d) (get_or b i d) ≡ false → false ≡ pairwise test a b
    unfolding pairwise
    pairwise_fails h e = comparing_says false c (turn a b i (omega arith) (omega arith) ∙ rw e)

    pub pairwise_on : i < w → test (get_or a i d) (get_or b i d) ≡ true → Comparing w (pairwise test) a b (i + 1)
    unfolding pairwise
    pairwise_on h e = comparing_next c h (turn a b i (omega arith) (omega arith) ∙ rw e)

    pub pairwise_ends : w ≤ i → true ≡ pairwise test a b
    unfolding pairwise
    pairwise_ends h = comparing_says true c (rw (drop_of_length-le a {i = i} (omega arith), drop_of_length-le b {i = i} (omega arith)))

-- ---- a chain that tests two lists side by side
module _ {A : Type 0} where
  pub pairwise_zip : (test : A → A → Bool) (a b : List A) → length a ≡ length b → list_all (λ p. test p.0 p.1) (zip a b) ≡ pairwise test a b
  unfolding pairwise
  pairwise_zip test [] [] e = refl
  pairwise_zip test [] (y ∷ b) e = let o : ⊥ = omega arith in absurd o
  pairwise_zip test (x ∷ a) [] e = let o : ⊥ = omega arith in absurd o
  pairwise_zip test (x ∷ a) (y ∷ b) e = ap (◌&&◌ (test x y)) (pairwise_zip test a b (omega arith))

-- ---- a loop that looks through l for an entry that passes f, and has come to place i
module _ {A : Type 0} (f : A → Bool) where
  pub record Seeking (l : List A) (i : ℕ) : Type 0 where
    pub within : i ≤ length l
    pub rest : any f (drop i l) ≡ any f l

  pub seeking_start : (l : List A) → Seeking l 0
  seeking_start l = record { within = omega arith; rest = refl }

  -- the same for the number of the first that passes, and for a test that all should pass
  pub record Placing (l : List A) (i : ℕ) : Type 0 where
    pub within : i ≤ length l
    pub rest : i + place f (drop i l) ≡ place f l

  pub placing_start : (l : List A) → Placing l 0
  placing_start l = record { within = omega arith; rest = omega arith }

  pub record Checking (l : List A) (i : ℕ) : Type 0 where
    pub within : i ≤ length l
    pub rest : all f (drop i l) ≡ all f l

  pub checking_start : (l : List A) → Checking l 0
  checking_start l = record { within = omega arith; rest = refl }

  module _ (d : A) {l : List A} {i : ℕ} where
    pub seeking_found : Seeking l i → i < length l → f (get_or l i d) ≡ true → true ≡ any f l
    unfolding any
    seeking_found s h e = rw (drop-cons l i d h, e) at s.rest

    pub seeking_on : Seeking l i → i < length l → f (get_or l i d) ≡ false → Seeking l (i + 1)
    unfolding any
    seeking_on s h e = record { within = omega arith; rest = rw (add-one i) (rw (drop-cons l i d h, e) at s.rest) }

    pub placing_found : Placing l i → i < length l → f (get_or l i d) ≡ true → i ≡ place f l
    unfolding place
    placing_found s h e = let k : i + 0 ≡ place f l = rw (drop-cons l i d h, e) at s.rest in omega arith

    pub placing_on : Placing l i → i < length l → f (get_or l i d) ≡ false → Placing l (i + 1)
    unfolding place
    placing_on s h e =
        let k : i + suc (place f (drop (suc i) l)) ≡ place f l = rw (drop-cons l i d h, e) at s.rest in
        record { within = omega arith; rest = rw (add-one i) (omega arith) }

    pub checking_fails : Checking l i → i < length l → f (get_or l i d) ≡ false → false ≡ all f l
    unfolding all
    checking_fails s h e = rw (drop-cons l i d h, e) at s.rest

    pub checking_on : Checking l i → i < length l → f (get_or l i d) ≡ true → Checking l (i + 1)
    unfolding all
    checking_on s h e = record { within = omega arith; rest = rw (add-one i) (rw (drop-cons l i d h, e) at s.rest) }

  module _ {l : List A} {i : ℕ} where
    pub seeking_ends : Seeking l i → length l ≤ i → false ≡ any f l
    unfolding any
    seeking_ends s h = rw (drop_of_length-le l h) at s.rest

    pub placing_ends : Placing l i → length l ≤ i → place f l ≡ length l
    unfolding place
    placing_ends s h = let k : i + 0 ≡ place f l = rw (drop_of_length-le l h) at s.rest in omega arith

    pub checking_ends : Checking l i → length l ≤ i → true ≡ all f l
    unfolding all
    checking_ends s h = rw (drop_of_length-le l h) at s.rest

-- ---- a loop that looks through l from the last entry on, and has come down to place i
module _ {A : Type 0} (f : A → Bool) where
  pub record SeekingDown (l : List A) (i : ℕ) : Type 0 where
    pub within : i ≤ length l
    pub rest : any f (take i l) ≡ any f l

  pub down_start : (l : List A) (i : ℕ) → i ≡ length l → SeekingDown l i
  down_start l i e = record { within = omega arith; rest = ap (any f) (take_all i l (omega arith)) }

  last_passes : (l : List A) (x : A) → f x ≡ true → any f (l ++ (x ∷ [])) ≡ true
  unfolding any
  last_passes [] x e = rw e
  last_passes (y ∷ l) x e = rw (last_passes l x e) (or_true (f y))

  last_fails : (l : List A) (x : A) → f x ≡ false → any f (l ++ (x ∷ [])) ≡ any f l
  unfolding any
  last_fails [] x e = rw e
  last_fails (y ∷ l) x e = rw (last_fails l x e)

  module _ (d : A) {l : List A} {j : ℕ} (s : SeekingDown l j) (i : ℕ) (e : j ≡ i + 1) where
    -- the entry at i is the last of what is left
    left : any f (take i l ++ (get_or l i d ∷ [])) ≡ any f l
    left =
        let next : j ≡ suc i = e ∙ add-one i in
        ap (any f) (sym (take-suc l i d (omega (arith, s.within)))) ∙ ap (λ (k : ℕ). any f (take k l)) (sym next) ∙ s.rest

    pub down_found : f (get_or l i d) ≡ true → true ≡ any f l
    down_found t = sym (last_passes (take i l) (get_or l i d) t) ∙ left

    pub down_on : f (get_or l i d) ≡ false → SeekingDown l i
    down_on t = record { within = omega (arith, s.within); rest = sym (last_fails (take i l) (get_or l i d) t) ∙ left }

  pub down_ends : {l : List A} → SeekingDown l 0 → false ≡ any f l
  unfolding any
  down_ends s = s.rest

-- ---- a loop that tests the entries of l from place at on, and has come to place i
pub record CheckingFrom {A : Type 0} (f : A → Bool) (l : List A) (at i : ℕ) : Type 0 where
  pub rest : all f (drop i l) ≡ all f (drop at l)

module _ {A : Type 0} {f : A → Bool} {l : List A} {at i : ℕ} (d : A) (c : CheckingFrom f l at i) where
  pub from_fails : i < length l → f (get_or l i d) ≡ false → false ≡ all f (drop at l)
  unfolding all
  from_fails h e = rw (drop-cons l i d h, e) at c.rest

  pub from_on : i < length l → f (get_or l i d) ≡ true → CheckingFrom f l at (i + 1)
  unfolding all
  from_on h e = record { rest = rw (add-one i) (rw (drop-cons l i d h, e) at c.rest) }

  pub from_ends : length l ≤ i → true ≡ all f (drop at l)
  unfolding all
  from_ends h = rw (drop_of_length-le l h) at c.rest

-- ---- what `pointwise` makes
module _ {A B C : Type 0} (f : A → B → C) where
  pub pointwise_length : (a : List A) (b : List B) → length a ≡ length b → length (pointwise f a b) ≡ length a
  unfolding pointwise
  pointwise_length [] b e = refl
  pointwise_length (x ∷ a) [] e = let z : ⊥ = omega arith in absurd z
  pointwise_length (x ∷ a) (y ∷ b) e = let ih : length (pointwise f a b) ≡ length a = pointwise_length a b (omega arith) in omega arith

  pub pointwise_at : (a : List A) (b : List B) (k : ℕ) (x : A) (y : B) (z : C) → k < length a → k < length b → get_or (pointwise f a b) k z ≡ f (get_or a k x) (get_or b k y)
  unfolding pointwise
  pointwise_at [] b k x y z ha hb = let o : ⊥ = omega arith in absurd o
  pointwise_at (p ∷ a) [] k x y z ha hb = let o : ⊥ = omega arith in absurd o
  pointwise_at (p ∷ a) (q ∷ b) zero x y z ha hb = refl
  pointwise_at (p ∷ a) (q ∷ b) (suc k) x y z ha hb = pointwise_at a b k x y z (omega arith) (omega arith)

-- ---- an operation place by place has the laws of the operation
module _ {A : Type 0} (f : A → A → A) where
  pub pointwise_comm : ((x y : A) → f x y ≡ f y x) → (a b : List A) → pointwise f a b ≡ pointwise f b a
  unfolding pointwise
  pointwise_comm c [] [] = refl
  pointwise_comm c [] (y ∷ b) = refl
  pointwise_comm c (x ∷ a) [] = refl
  pointwise_comm c (x ∷ a) (y ∷ b) = ap₂ ◌∷◌ (c x y) (pointwise_comm c a b)

  pub pointwise_assoc : ((x y z : A) → f (f x y) z ≡ f x (f y z)) → (a b c : List A) → pointwise f (pointwise f a b) c ≡ pointwise f a (pointwise f b c)
  unfolding pointwise
  pointwise_assoc s [] b c = refl
  pointwise_assoc s (x ∷ a) [] c = refl
  pointwise_assoc s (x ∷ a) (y ∷ b) [] = refl
  pointwise_assoc s (x ∷ a) (y ∷ b) (z ∷ c) = ap₂ ◌∷◌ (s x y z) (pointwise_assoc s a b c)

  pub pointwise_unit : (u : A) → ((x : A) → f x u ≡ x) → (a : List A) → pointwise f a (replicate (length a) u) ≡ a
  unfolding pointwise
  pointwise_unit u r [] = refl
  pointwise_unit u r (x ∷ a) = ap₂ ◌∷◌ (r x) (pointwise_unit u r a)

  pub pointwise_cancel : ((x y z : A) → f x y ≡ f x z → y ≡ z)
      → (a b c : List A) → length a ≡ length b → length a ≡ length c → pointwise f a b ≡ pointwise f a c → b ≡ c
  unfolding pointwise
  pointwise_cancel r [] [] [] h k q = refl
  pointwise_cancel r [] [] (z ∷ c) h k q = let o : ⊥ = omega arith in absurd o
  pointwise_cancel r [] (y ∷ b) c h k q = let o : ⊥ = omega arith in absurd o
  pointwise_cancel r (x ∷ a) [] c h k q = let o : ⊥ = omega arith in absurd o
  pointwise_cancel r (x ∷ a) (y ∷ b) [] h k q = let o : ⊥ = omega arith in absurd o
  pointwise_cancel r (x ∷ a) (y ∷ b) (z ∷ c) h k q =
      let first : f x y ≡ f x z = cc in
      let rest : pointwise f a b ≡ pointwise f a c = cc in
      ap₂ ◌∷◌ (r x y z first) (pointwise_cancel r a b c (omega arith) (omega arith) rest)

  -- by every place, where an entry beyond the end is one that f leaves
  pub pointwise_everywhere : (d : A) → f d d ≡ d → (a b : List A) (i : ℕ) → length a ≡ length b → get_or (pointwise f a b) i d ≡ f (get_or a i d) (get_or b i d)
  unfolding pointwise
  pointwise_everywhere d u [] [] i h = sym u
  pointwise_everywhere d u [] (y ∷ b) i h = let o : ⊥ = omega arith in absurd o
  pointwise_everywhere d u (x ∷ a) [] i h = let o : ⊥ = omega arith in absurd o
  pointwise_everywhere d u (x ∷ a) (y ∷ b) zero h = refl
  pointwise_everywhere d u (x ∷ a) (y ∷ b) (suc i) h = pointwise_everywhere d u a b i (omega arith)

  -- a change of one entry before f is that change after it, where g passes through f
  pub pointwise_change : (g : A → A) (d : A) (a b : List A) (i : ℕ) → ((x : A) → f x (g (get_or b i d)) ≡ g (f x (get_or b i d)))
      → pointwise f a (set b i (g (get_or b i d))) ≡ set (pointwise f a b) i (g (get_or (pointwise f a b) i d))
  unfolding pointwise
  pointwise_change g d [] b i h = refl
  pointwise_change g d (x ∷ a) [] i h = refl
  pointwise_change g d (x ∷ a) (y ∷ b) zero h = ap (λ z. z ∷ pointwise f a b) (h x)
  pointwise_change g d (x ∷ a) (y ∷ b) (suc i) h = ap (◌∷◌ (f x y)) (pointwise_change g d a b i h)

  -- a list of units with one other entry changes one entry
  pub pointwise_raise : (u : A) → ((x : A) → f u x ≡ x) → (a : List A) (i : ℕ) (s : A) → i < length a
      → pointwise f (set (replicate (length a) u) i s) a ≡ set a i (f s (get_or a i u))
  unfolding pointwise
  pointwise_raise u r [] i s h = let o : ⊥ = omega arith in absurd o
  pointwise_raise u r (x ∷ a) zero s h = ap (◌∷◌ (f s x)) (units a)
    where
      units : (b : List A) → pointwise f (replicate (length b) u) b ≡ b
      units [] = refl
      units (y ∷ b) = ap₂ ◌∷◌ (r y) (units b)
  pointwise_raise u r (x ∷ a) (suc i) s h = ap₂ ◌∷◌ (r x) (pointwise_raise u r a i s (omega arith))

-- ---- a loop that goes through l, and knows P of what f gives for the entries that it has met, in any order and with repeats
abbrev pub OfMembers : {B : Type 0} → (List B → Type 0) → Type 0
OfMembers {B} P = (a b : List B) → a ⊆ b → b ⊆ a → P a → P b

module _ {A B : Type 0} (f : A → List B) (l : List A) where
  pub record Collecting (P : List B → Type 0) (i : ℕ) : Type 0 where
    pub within : i ≤ length l
    pub holds : P (gather f (take i l))

  pub collecting_start : (P : List B → Type 0) → P [] → Collecting P 0
  unfolding gather
  collecting_start P h = record { within = omega arith; holds = h }

  -- what has been met so far, in the whole
  pub collecting_sub : (i : ℕ) → gather f (take i l) ⊆ gather f l
  collecting_sub i = gather_sub f (take i l) l (λ x h. take_in i l h)

  module _ {i : ℕ} (d : A) (h : i < length l) where
    one_more : gather f (take (i + 1) l) ≡ gather f (take i l) ++ f (get_or l i d)
    unfolding gather
    one_more =
        rw (add-one i, take-suc l i d h)
        (gather_append f (take i l) (get_or l i d ∷ []) ∙ ap (λ (r : List B). gather f (take i l) ++ r) (append-nil (f (get_or l i d))))

    pub collecting_next : {P Q : List B → Type 0} → Collecting P i → OfMembers Q → ((m : List B) → P m → Q (f (get_or l i d) ++ m)) → Collecting Q (i + 1)
    collecting_next {P} {Q} c o more =
        let old = gather f (take i l) in
        let new = f (get_or l i d) in
        record { within = omega arith; holds = rw one_more (o (new ++ old) (old ++ new) (append_turned new old) (append_turned old new) (more old c.holds)) }

  pub collecting_end : {P : List B → Type 0} {i : ℕ} → Collecting P i → length l ≤ i → P (gather f l)
  collecting_end {P} {i} c h = subst (λ (r : List A). P (gather f r)) (take_all i l h) c.holds

  -- ---- the same from the last entry on: it has come down to place i
  pub record CollectingDown (P : List B → Type 0) (i : ℕ) : Type 0 where
    pub within : i ≤ length l
    pub holds : P (gather f (drop i l))

  pub collecting_last : (P : List B → Type 0) (i : ℕ) → i ≡ length l → P [] → CollectingDown P i
  unfolding gather
  collecting_last P i e h = record { within = omega arith; holds = rw (drop_of_length-le l {i = i} (omega arith)) h }

  pub collecting_behind : (i : ℕ) → gather f (drop i l) ⊆ gather f l
  collecting_behind i = gather_sub f (drop i l) l (λ x h. drop_in i l h)

  pub collecting_down : {P Q : List B → Type 0} {j : ℕ} → CollectingDown P j → (i : ℕ) (d : A) → j ≡ i + 1 → ((m : List B) → P m → Q (f (get_or l i d) ++ m)) → CollectingDown Q i
  unfolding gather
  collecting_down {P} {Q} {j} c i d e more =
      let next : j ≡ suc i = e ∙ add-one i in
      let old : P (gather f (drop (suc i) l)) = subst (λ (k : ℕ). P (gather f (drop k l))) next c.holds in
      record { within = omega (arith, c.within); holds = rw (drop-cons l i d (omega (arith, c.within))) (more (gather f (drop (suc i) l)) old) }

  pub collecting_whole : {P : List B → Type 0} → CollectingDown P 0 → P (gather f l)
  collecting_whole c = c.holds
