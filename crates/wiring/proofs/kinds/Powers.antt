-- Monomials that are lists of exponents, whatever numbers serve as exponents: from the laws of the exponents, those of the kind.
-- Assumes nothing.
use mathlib.Core.Path.{◌≡◌, refl, sym, ap, ap₂, ◌∙◌}
use mathlib.Core.Logic.{inl, inr}
use mathlib.Core.List.{List, [], ◌∷◌}
use Prim.Native.Nat.{ℕ, zero, suc, ◌+◌, ◌<◌, ◌≤◌}
use native.Mathlib.Omega.{arith}
use lib.ListN.{length, get_or, set, replicate, length-set, length-replicate}
use lib.Seq.{get_or-set_same, get_or-set_other, set-set, set-get_or}
use Rattle.monomial.specs.Lists.{pointwise}
use Rattle.monomial.proofs.Members.{fill_at}
use Rattle.monomial.proofs.Loops.{pointwise_length, pointwise_comm, pointwise_assoc, pointwise_unit, pointwise_cancel, pointwise_everywhere, pointwise_change, pointwise_raise}
use Rattle.monomial.proofs.order.Laws.{list_order}
use Rattle.wiring.specs.Poly.{Kind}
use Rattle.wiring.specs.Kinds.{variable, Built, unit, single, product, inverse, Lawful, Exponent, powers, size, Tick, Near, is_none, stepped, Summing}

-- a list of one entry again and again, with that entry set once more
fill_set : {A : Type 0} (x : A) (w i : ℕ) → set (replicate w x) i x ≡ replicate w x
fill_set x w i = ap (set (replicate w x) i) (sym (fill_at x w i)) ∙ set-get_or (replicate w x) i x

module _ {E : Type 0} (x : Exponent E) (l : Summing x) where
  abbrev mul : List E → List E → List E
  mul = pointwise x.plus

  abbrev one : ℕ → List E
  one w = replicate w x.none

  abbrev at : List E → ℕ → E
  at z i = get_or z i x.none

  -- ---- exponents by their places
  mul_at : (a b : List E) (i : ℕ) → length a ≡ length b → at (mul a b) i ≡ x.plus (at a i) (at b i)
  mul_at a b i h = pointwise_everywhere x.plus x.none (l.plus_none x.none) a b i h

  -- a power of one variable times z
  raise : (z : List E) (i : ℕ) (s : E) → i < length z → mul (set (one (length z)) i s) z ≡ set z i (x.plus s (at z i))
  raise z i s h = pointwise_raise x.plus x.none (λ e. l.plus_comm x.none e ∙ l.plus_none e) z i s h

  -- ---- 1 and the variables make every monomial
  unfoldable degree : List E → ℕ
  degree [] = 0
  degree (e ∷ z) = size x e + degree z

  degree_set : (z : List E) (i : ℕ) (e : E) → i < length z → degree (set z i e) + size x (at z i) ≡ degree z + size x e
  unfolding degree
  degree_set [] i e h = let o : ⊥ = omega arith in absurd o
  degree_set (f ∷ z) zero e h = omega arith
  degree_set (f ∷ z) (suc i) e h = let ih : degree (set z i e) + size x (at z i) ≡ degree z + size x e = degree_set z i e (omega arith) in omega arith

  -- a monomial is 1, or has an exponent that is not 0
  data Shape (z : List E) : Type 0 where
    is_one : one (length z) ≡ z → Shape z
    has_power : (i : ℕ) (s d : E) → i < length z → Tick x s → size x d < size x (at z i) → x.plus s d ≡ at z i → Shape z

  shape : (z : List E) → Shape z
  shape [] = is_one refl
  shape (e ∷ z) = go (l.near e) (shape z)
    where
      go : Near x e → Shape z → Shape (e ∷ z)
      go (stepped s d u h q) r = has_power 0 s d (omega arith) u h q
      go (is_none q) (is_one r) = is_one (ap₂ ◌∷◌ q r)
      go (is_none q) (has_power i s d b u h r) = has_power (suc i) s d (omega arith) u h r

  module _ (vars : ℕ → List (List E)) (vars_are : (w i : ℕ) → i < w → get_or (vars w) i (one w) ≡ set (one w) i x.once) where
    abbrev k : Kind (List E)
    k = powers x vars

    -- a power 1 or -1 of one variable
    tick_built : (w i : ℕ) (s : E) → i < w → Tick x s → Built k w (set (one w) i s)
    tick_built w i s h (inl e) = single i h (vars_are w i h ∙ ap (set (one w) i) e)
    tick_built w i s h (inr e) = inverse (single i h (vars_are w i h)) long whole
      where
        long : length (set (one w) i s) ≡ w
        long = length-set (one w) i s ∙ length-replicate w x.none

        whole : mul (set (one w) i x.once) (set (one w) i s) ≡ one w
        whole =
            let y : List E = set (one w) i s in
            let o : length (one w) ≡ w = length-replicate w x.none in
            let own : at y i ≡ s = get_or-set_same (one w) i s x.none (omega arith) in
            ap (λ (n : ℕ). mul (set (one n) i x.once) y) (sym long) ∙ raise y i x.once (let q : length y ≡ w = long in omega arith)
            ∙ set-set (one w) i s (x.plus x.once (at y i)) ∙ ap (λ (e : E). set (one w) i (x.plus x.once e)) own ∙ ap (set (one w) i) e ∙ fill_set x.none w i

    build_step : (w : ℕ) (z : List E) → length z ≡ w → ((y : List E) → length y ≡ w → degree y < degree z → Built k w y) → Shape z → Built k w z
    build_step w z long ih (is_one e) = unit (ap one (sym long) ∙ e)
    build_step w z long ih (has_power i s d h u less e) = product (tick_built w i s (omega arith) u) (ih y y_long lower) whole
      where
        y : List E
        y = set z i d

        y_long : length y ≡ w
        y_long = length-set z i d ∙ long

        lower : degree y < degree z
        lower = let q : degree (set z i d) + size x (at z i) ≡ degree z + size x d = degree_set z i d h in omega arith

        whole : mul (set (one w) i s) y ≡ z
        whole =
            ap (λ (n : ℕ). mul (set (one n) i s) y) (sym y_long) ∙ raise y i s (let q : length y ≡ w = y_long in omega arith)
            ∙ set-set z i d (x.plus s (at y i)) ∙ ap (λ (f : E). set z i (x.plus s f)) (get_or-set_same z i d x.none h) ∙ ap (set z i) e ∙ set-get_or z i x.none

    build : (n w : ℕ) (z : List E) → length z ≡ w → degree z ≤ n → Built k w z
    build zero w z long h = build_step w z long (λ y q less. let o : ⊥ = omega arith in absurd o) (shape z)
    build (suc n) w z long h = build_step w z long (λ y q less. build n w y q (omega arith)) (shape z)

    -- ---- the variables
    variable_at : (w i j : ℕ) → i < w → at (variable k w i) j ≡ at (set (one w) i x.once) j
    variable_at w i j h = ap (λ (z : List E). at z j) (vars_are w i h)

    own_at : (w i : ℕ) → i < w → at (set (one w) i x.once) i ≡ x.once
    own_at w i h = let o : length (one w) ≡ w = length-replicate w x.none in get_or-set_same (one w) i x.once x.none (omega arith)

    over_own : (w i : ℕ) → i < w → k.over (variable k w i) i ≡ one w
    over_own w i h =
        ap (λ (z : List E). k.over z i) (vars_are w i h) ∙ set-set (one w) i x.once (x.less (at (set (one w) i x.once) i))
        ∙ ap (λ (e : E). set (one w) i (x.less e)) (own_at w i h) ∙ ap (set (one w) i) l.less_once ∙ fill_set x.none w i

    pub lawful : Lawful (powers x vars)
    lawful = record {
      order = list_order l.order;
      mul_comm = pointwise_comm x.plus l.plus_comm;
      mul_assoc = pointwise_assoc x.plus l.plus_assoc;
      mul_one = pointwise_unit x.plus x.none l.plus_none;
      mul_cancel = pointwise_cancel x.plus l.plus_cancel;
      width_one = λ w. length-replicate w x.none;
      width_variable = λ w i h. ap length (vars_are w i h) ∙ length-set (one w) i x.once ∙ length-replicate w x.none;
      width_mul = pointwise_length x.plus;
      width_over = λ a i. length-set a i (x.less (at a i));
      power_one = λ w i. ap x.number (fill_at x.none w i) ∙ l.number_none;
      power_own = λ w i h. ap x.number (variable_at w i i h ∙ own_at w i h) ∙ l.number_once;
      power_other = λ w i j h n. ap x.number (variable_at w i j h ∙ get_or-set_other (one w) i j x.once x.none n ∙ fill_at x.none w j) ∙ l.number_none;
      power_mul = λ a b i h. ap x.number (mul_at a b i h) ∙ l.number_plus (at a i) (at b i);
      over_own = over_own;
      over_mul = λ a b i n. pointwise_change x.plus x.less x.none a b i (λ e. l.plus_less e (at b i) n);
      built = λ z. build (degree z) (length z) z refl (omega arith);
    }
