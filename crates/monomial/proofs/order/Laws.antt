-- An order that a test decides, and the order of a dictionary that it gives on lists: exponents, then monomials, then sets.
-- Assumes nothing.
use mathlib.Core.Path.{◌≡◌, refl, sym, ap₂, subst, ◌∙◌, ap}
use mathlib.Core.Logic.{⊎_elim}
use mathlib.Core.Bool.{Bool, true, false, ◌&&◌}
use mathlib.Core.List.{List, [], ◌∷◌, ◌++◌}
use Prim.Native.Nat.{ℕ, ◌+◌, ◌<◌, ◌≤◌, zero, suc}
use native.Mathlib.Omega.{arith}
use native.Mathlib.Numerals.{add-one}
use lib.Dec.{T, eqb, ltb, eqb→eq, eqb_refl, ltb→lt, lt→ltb, nltb→le, not_T}
use lib.ListN.{length, drop, get_or, drop_of_length-le}
use lib.Seq.{drop-cons}
use Rattle.monomial.specs.Lists.{pairwise, dictionary}
use Rattle.monomial.specs.Order.{same, before, same_set, before_set}
use Rattle.monomial.specs.Claims.{Compared, Order, less, equal, more}
use Rattle.monomial.proofs.Loops.{Comparing, comparing_next, comparing_says}
use Rattle.monomial.proofs.Tests.{and_l, and_r, and_i, or_l, or_r, or_e, Tested, passed, failed, test, is→T, is→n_t, T→is, n_t→is}
use Rattle.monomial.specs.Monomial.{Mono, one}

-- of "before", "the same" and "behind" one holds, and no two
module _ {A : Type 0} {same before : A → A → Bool} (o : Order same before) where
  pub not_both : (a b : A) → T (before a b) → T (before b a) → ⊥
  not_both a b s t = o.irrefl a (o.trans a b a s t)

  pub not_same : (a b : A) → T (before a b) → T (same a b) → ⊥
  not_same a b s t = o.irrefl b (subst (λ z. T (before z b)) (o.same_eq a b t) s)

  pub same_flip : (a b : A) → T (same a b) → T (same b a)
  same_flip a b t = subst (λ z. T (same b z)) (sym (o.same_eq a b t)) (o.same_refl b)

  -- neither stands before the other
  pub level : (a b : A) → (T (before a b) → ⊥) → (T (before b a) → ⊥) → T (same a b)
  level a b f g = go (o.total a b)
    where
      go : Compared same before a b → T (same a b)
      go (less t) = absurd (f t)
      go (equal t) = t
      go (more t) = absurd (g t)

  -- what is neither before b nor b stands behind it
  pub behind : (a b : A) → (T (before a b) → ⊥) → (T (same a b) → ⊥) → T (before b a)
  behind a b f g = go (o.total a b)
    where
      go : Compared same before a b → T (before b a)
      go (less t) = absurd (f t)
      go (equal t) = absurd (g t)
      go (more t) = t

  -- a <= b < c, and a < b <= c
  pub le_before : (a b c : A) → (T (before b a) → ⊥) → T (before b c) → T (before a c)
  le_before a b c f t = go (o.total a b)
    where
      go : Compared same before a b → T (before a c)
      go (less s) = o.trans a b c s t
      go (equal s) = subst (λ z. T (before z c)) (sym (o.same_eq a b s)) t
      go (more s) = absurd (f s)

  pub before_le : (a b c : A) → T (before a b) → (T (before c b) → ⊥) → T (before a c)
  before_le a b c t f = go (o.total b c)
    where
      go : Compared same before b c → T (before a c)
      go (less s) = o.trans a b c t s
      go (equal s) = subst (λ z. T (before a z)) (o.same_eq b c s) t
      go (more s) = absurd (f s)

-- ---- numbers
ℕ-total : (x y : ℕ) → Tested (ltb x y) → Tested (ltb y x) → Compared eqb ltb x y
ℕ-total x y (passed p) q = less (is→T (ltb x y) p)
ℕ-total x y (failed p) (passed q) = more (is→T (ltb y x) q)
ℕ-total x y (failed p) (failed q) =
    let h : y ≤ x = nltb→le x y (not_T (ltb x y) (is→n_t (ltb x y) p)) in
    let k : x ≤ y = nltb→le y x (not_T (ltb y x) (is→n_t (ltb y x) q)) in
    let e : x ≡ y = omega arith in
    equal (subst (λ (z : ℕ). T (eqb x z)) e (eqb_refl x))

pub ℕ-order : Order eqb ltb
ℕ-order = record {
  same_eq = eqb→eq;
  same_refl = eqb_refl;
  irrefl = λ a t. let h : a < a = ltb→lt a a t in omega arith;
  trans = λ a b c s t. let h : a < b = ltb→lt a b s in let k : b < c = ltb→lt b c t in lt→ltb a c (omega arith);
  total = λ a b. ℕ-total a b (test (ltb a b)) (test (ltb b a));
}

pub not_ltb : (x y : ℕ) → y ≤ x → T (ltb x y) → ⊥
not_ltb x y h t = let k : x < y = ltb→lt x y t in omega arith

-- ---- lists
module _ {A : Type 0} {same before : A → A → Bool} (o : Order same before) where
  eq_l : (a b : List A) → T (pairwise same a b) → a ≡ b
  unfolding pairwise
  eq_l [] [] t = refl
  eq_l [] (y ∷ b) t = absurd t
  eq_l (x ∷ a) [] t = absurd t
  eq_l (x ∷ a) (y ∷ b) t = ap₂ ◌∷◌ (o.same_eq x y (and_l (same x y) (pairwise same a b) t)) (eq_l a b (and_r (same x y) (pairwise same a b) t))

  refl_l : (a : List A) → T (pairwise same a a)
  unfolding pairwise
  refl_l [] = tt
  refl_l (x ∷ a) = and_i (same x x) (pairwise same a a) (o.same_refl x) (refl_l a)

  -- what the order says at two heads and what stands behind them
  pub data Ahead (x y : A) (a b : List A) : Type 0 where
    smaller : T (before x y) → Ahead x y a b
    tied : T (same x y) → T (dictionary same before a b) → Ahead x y a b

  pub ahead : (x y : A) (a b : List A) → T (dictionary same before (x ∷ a) (y ∷ b)) → Ahead x y a b
  unfolding dictionary
  ahead x y a b t =
      ⊎_elim (λ s. smaller s) (λ s. tied (and_l (same x y) (dictionary same before a b) s) (and_r (same x y) (dictionary same before a b) s))
      (or_e (before x y) (same x y && dictionary same before a b) t)

  pub ahead_is : (x y : A) (a b : List A) → Ahead x y a b → T (dictionary same before (x ∷ a) (y ∷ b))
  unfolding dictionary
  ahead_is x y a b (smaller h) = or_l (before x y) (same x y && dictionary same before a b) h
  ahead_is x y a b (tied e t) = or_r (before x y) (same x y && dictionary same before a b) (and_i (same x y) (dictionary same before a b) e t)

  irrefl_step : (x : A) (a : List A) → (T (dictionary same before a a) → ⊥) → Ahead x x a a → ⊥
  irrefl_step x a ih (smaller h) = o.irrefl x h
  irrefl_step x a ih (tied e t) = ih t

  irrefl_l : (a : List A) → T (dictionary same before a a) → ⊥
  unfolding dictionary
  irrefl_l [] t = t
  irrefl_l (x ∷ a) t = irrefl_step x a (irrefl_l a) (ahead x x a a t)

  same_trans : (x y z : A) → T (same x y) → T (same y z) → T (same x z)
  same_trans x y z s t = subst (λ w. T (same w z)) (sym (o.same_eq x y s)) t

  trans_step : (x y z : A) (a b c : List A) → (T (dictionary same before a b) → T (dictionary same before b c) → T (dictionary same before a c))
      → Ahead x y a b → Ahead y z b c → Ahead x z a c
  trans_step x y z a b c ih (smaller h) (smaller k) = smaller (o.trans x y z h k)
  trans_step x y z a b c ih (smaller h) (tied e t) = smaller (subst (λ w. T (before x w)) (o.same_eq y z e) h)
  trans_step x y z a b c ih (tied d s) (smaller k) = smaller (subst (λ w. T (before w z)) (sym (o.same_eq x y d)) k)
  trans_step x y z a b c ih (tied d s) (tied e t) = tied (same_trans x y z d e) (ih s t)

  trans_l : (a b c : List A) → T (dictionary same before a b) → T (dictionary same before b c) → T (dictionary same before a c)
  unfolding dictionary
  trans_l [] [] c s t = absurd s
  trans_l [] (y ∷ b) [] s t = absurd t
  trans_l [] (y ∷ b) (z ∷ c) s t = tt
  trans_l (x ∷ a) [] c s t = absurd s
  trans_l (x ∷ a) (y ∷ b) [] s t = absurd t
  trans_l (x ∷ a) (y ∷ b) (z ∷ c) s t = ahead_is x z a c (trans_step x y z a b c (trans_l a b c) (ahead x y a b s) (ahead y z b c t))

  total_step : (x y : A) (a b : List A) → Compared (pairwise same) (dictionary same before) a b → Compared same before x y
      → Compared (pairwise same) (dictionary same before) (x ∷ a) (y ∷ b)
  unfolding pairwise
  total_step x y a b ih (less t) = less (ahead_is x y a b (smaller t))
  total_step x y a b (less s) (equal t) = less (ahead_is x y a b (tied t s))
  total_step x y a b (equal s) (equal t) = equal (and_i (same x y) (pairwise same a b) t s)
  total_step x y a b (more s) (equal t) = more (ahead_is y x b a (tied (same_flip o x y t) s))
  total_step x y a b ih (more t) = more (ahead_is y x b a (smaller t))

  total_l : (a b : List A) → Compared (pairwise same) (dictionary same before) a b
  unfolding pairwise dictionary
  total_l [] [] = equal tt
  total_l [] (y ∷ b) = less tt
  total_l (x ∷ a) [] = more tt
  total_l (x ∷ a) (y ∷ b) = total_step x y a b (total_l a b) (o.total x y)

  pub list_order : Order (pairwise same) (dictionary same before)
  list_order = record { same_eq = eq_l; same_refl = refl_l; irrefl = irrefl_l; trans = trans_l; total = total_l }

  -- ---- a loop that compares two lists place by place: before, behind, on to the next place, or at the end
  module _ (d : A) where
    turn : (a b : List A) (i : ℕ) → i < length a → i < length b
        → dictionary same before (drop i a) (drop i b) ≡ dictionary same before (get_or a i d ∷ drop (i + 1) a) (get_or b i d ∷ drop (i + 1) b)
    turn a b i h k = rw (add-one i, drop-cons a i d h, drop-cons b i d k)

    module _ {w i : ℕ} {a b : List A} (c : Comparing w (dictionary same before) a b i) where
      pub dictionary_before : i < w → T (before (get_or a i d) (get_or b i d)) → true ≡ dictionary same before a b
      dictionary_before h t =
          let e = ahead_is (get_or a i d) (get_or b i d) (drop (i + 1) a) (drop (i + 1) b) (smaller t) in
          comparing_says true c (turn a b i (omega arith) (omega arith) ∙ T→is _ e)

      pub dictionary_behind : i < w → T (before (get_or b i d) (get_or a i d)) → false ≡ dictionary same before a b
      unfolding dictionary
      dictionary_behind h t =
          let x = get_or a i d in
          let y = get_or b i d in
          let not_before = n_t→is (before x y) (not_both o y x t) in
          let not_equal = n_t→is (same x y) (λ s. not_same o y x t (same_flip o x y s)) in
          comparing_says false c (turn a b i (omega arith) (omega arith) ∙ rw (not_before, not_equal))

      pub dictionary_on : i < w → (T (before (get_or a i d) (get_or b i d)) → ⊥) → (T (before (get_or b i d) (get_or a i d)) → ⊥)
          → Comparing w (dictionary same before) a b (i + 1)
      unfolding dictionary
      dictionary_on h f g =
          let x = get_or a i d in
          let y = get_or b i d in
          comparing_next c h (turn a b i (omega arith) (omega arith) ∙ rw (n_t→is (before x y) f, T→is (same x y) (level o x y f g)))

      pub dictionary_ends : w ≤ i → false ≡ dictionary same before a b
      unfolding dictionary
      dictionary_ends h = comparing_says false c (rw (drop_of_length-le a {i = i} (omega arith), drop_of_length-le b {i = i} (omega arith)))

-- ---- the order of lists that go on
module _ {A : Type 0} {same before : A → A → Bool} (o : Order same before) where
  pub before_append : (a b u v : List A) → length a ≡ length b → T (dictionary same before a b) → T (dictionary same before (a ++ u) (b ++ v))
  unfolding dictionary
  before_append [] [] u v e t = absurd t
  before_append [] (y ∷ b) u v e t = let z : ⊥ = omega arith in absurd z
  before_append (x ∷ a) [] u v e t = absurd t
  before_append (x ∷ a) (y ∷ b) u v e t = go (ahead o x y a b t) (before_append a b u v (omega arith))
    where
      go : Ahead o x y a b → (T (dictionary same before a b) → T (dictionary same before (a ++ u) (b ++ v))) → T (dictionary same before (x ∷ (a ++ u)) (y ∷ (b ++ v)))
      go (smaller h) ih = ahead_is o x y (a ++ u) (b ++ v) (smaller h)
      go (tied d s) ih = ahead_is o x y (a ++ u) (b ++ v) (tied d (ih s))

  pub append_before : (a u v : List A) → T (dictionary same before u v) → T (dictionary same before (a ++ u) (a ++ v))
  append_before [] u v t = t
  append_before (x ∷ a) u v t = ahead_is o x x (a ++ u) (a ++ v) (tied (o.same_refl x) (append_before a u v t))

  -- nothing stands before the empty list
  pub not_before_empty : (a : List A) → T (dictionary same before a []) → ⊥
  unfolding dictionary
  not_before_empty [] t = t
  not_before_empty (x ∷ a) t = t

-- ---- one order, three times
pub mono_order : Order same before
mono_order = list_order ℕ-order

pub set_order : Order same_set before_set
set_order = list_order mono_order

-- 1 stands before every other monomial
pub one_before : (w : ℕ) (m : Mono) → length m ≡ w → (m ≡ one w → ⊥) → T (before (one w) m)
one_before zero [] e n = absurd (n refl)
one_before zero (x ∷ m) e n = let z : ⊥ = omega arith in absurd z
one_before (suc w) [] e n = let z : ⊥ = omega arith in absurd z
one_before (suc w) (zero ∷ m) e n =
    ahead_is ℕ-order 0 0 (one w) m (tied tt (one_before w m (omega arith) (λ d. n (ap (λ (l : Mono). 0 ∷ l) d))))
one_before (suc w) (suc x ∷ m) e n = ahead_is ℕ-order 0 (suc x) (one w) m (smaller (lt→ltb 0 (suc x) (omega arith)))
