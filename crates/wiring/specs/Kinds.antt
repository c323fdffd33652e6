-- What a kind of monomials obeys, and what the rules of derivatives say: the derivative is shown to be the only thing that keeps them, from these
-- laws alone. Assumes nothing.
use Rattle.std.specs.Prelude.{◌≡◌, ◌⊎◌, Bool, List, [], ◌++◌, ℕ, ◌<◌, ℤ, pos, nat_abs, ◌+ℤ◌, length, get_or, set, replicate}
use Rattle.monomial.specs.Lists.{pairwise, dictionary, pointwise}
use Rattle.monomial.specs.Claims.{◌∈◌, Order}
use Rattle.wiring.specs.Poly.{Kind, Poly, Same, monos, times}

-- ---- the laws of a kind
-- variable number i of w, from 0
abbrev pub variable : {M : Type 0} → Kind M → ℕ → ℕ → M
variable k w i = get_or (k.vars w) i (k.one w)

-- a monomial in w variables that 1 and the variables make by products and inverses
pub data Built {M : Type 0} (k : Kind M) (w : ℕ) : M → Type 0 where
  unit : {z : M} → k.one w ≡ z → Built k w z
  single : {z : M} (i : ℕ) → i < w → variable k w i ≡ z → Built k w z
  product : {x y z : M} → Built k w x → Built k w y → k.mul x y ≡ z → Built k w z
  inverse : {x y : M} → Built k w x → k.width y ≡ w → k.mul x y ≡ k.one w → Built k w y

pub record Lawful {M : Type 0} (k : Kind M) : Type 0 where
  pub order : Order k.same k.before
  pub mul_comm : (a b : M) → k.mul a b ≡ k.mul b a
  pub mul_assoc : (a b c : M) → k.mul (k.mul a b) c ≡ k.mul a (k.mul b c)
  pub mul_one : (a : M) → k.mul a (k.one (k.width a)) ≡ a
  pub mul_cancel : (a b c : M) → k.width a ≡ k.width b → k.width a ≡ k.width c → k.mul a b ≡ k.mul a c → b ≡ c
  pub width_one : (w : ℕ) → k.width (k.one w) ≡ w
  pub width_variable : (w i : ℕ) → i < w → k.width (variable k w i) ≡ w
  pub width_mul : (a b : M) → k.width a ≡ k.width b → k.width (k.mul a b) ≡ k.width a
  pub width_over : (a : M) (i : ℕ) → k.width (k.over a i) ≡ k.width a
  pub power_one : (w i : ℕ) → k.power (k.one w) i ≡ pos 0
  pub power_own : (w i : ℕ) → i < w → k.power (variable k w i) i ≡ pos 1
  pub power_other : (w i j : ℕ) → i < w → (j ≡ i → ⊥) → k.power (variable k w i) j ≡ pos 0
  pub power_mul : (a b : M) (i : ℕ) → k.width a ≡ k.width b → k.power (k.mul a b) i ≡ k.power a i +ℤ k.power b i
  pub over_own : (w i : ℕ) → i < w → k.over (variable k w i) i ≡ k.one w
  pub over_mul : (a b : M) (i : ℕ) → (k.power b i ≡ pos 0 → ⊥) → k.mul a (k.over b i) ≡ k.over (k.mul a b) i
  -- every monomial is made so
  pub built : (z : M) → Built k (k.width z) z

-- ---- lists of exponents, whatever numbers serve as exponents
-- numbers that serve: 0 and 1, sums, one less, and the whole number that each is
pub record Exponent (E : Type 0) : Type 0 where
  pub none : E
  pub once : E
  pub plus : E → E → E
  pub less : E → E
  pub number : E → ℤ
  pub same : E → E → Bool
  pub before : E → E → Bool

-- the monomials that are lists of them
abbrev pub powers : {E : Type 0} → Exponent E → (ℕ → List (List E)) → Kind (List E)
powers x vars = record {
  width = length;
  one = λ w. replicate w x.none;
  vars = vars;
  mul = pointwise x.plus;
  power = λ z i. x.number (get_or z i x.none);
  over = λ z i. set z i (x.less (get_or z i x.none));
  same = pairwise x.same;
  before = dictionary x.same x.before;
}

-- how far an exponent is from 0
abbrev pub size : {E : Type 0} → Exponent E → E → ℕ
size x e = nat_abs (x.number e)

-- a tick: 1, or the inverse of 1
abbrev pub Tick : {E : Type 0} → Exponent E → E → Type 0
Tick x s = (x.once ≡ s) ⊎ (x.plus x.once s ≡ x.none)

-- an exponent is 0, or a tick more than a smaller one
pub data Near {E : Type 0} (x : Exponent E) (e : E) : Type 0 where
  is_none : x.none ≡ e → Near x e
  stepped : (s d : E) → Tick x s → size x d < size x e → x.plus s d ≡ e → Near x e

pub record Summing {E : Type 0} (x : Exponent E) : Type 0 where
  pub order : Order x.same x.before
  pub plus_comm : (a b : E) → x.plus a b ≡ x.plus b a
  pub plus_assoc : (a b c : E) → x.plus (x.plus a b) c ≡ x.plus a (x.plus b c)
  pub plus_none : (a : E) → x.plus a x.none ≡ a
  pub plus_cancel : (a b c : E) → x.plus a b ≡ x.plus a c → b ≡ c
  pub number_none : x.number x.none ≡ pos 0
  pub number_once : x.number x.once ≡ pos 1
  pub number_plus : (a b : E) → x.number (x.plus a b) ≡ x.number a +ℤ x.number b
  pub less_once : x.less x.once ≡ x.none
  pub plus_less : (a b : E) → (x.number b ≡ pos 0 → ⊥) → x.plus a (x.less b) ≡ x.less (x.plus a b)
  pub near : (e : E) → Near x e

-- ---- the rules of derivatives
-- every monomial of every equation is in w variables
abbrev pub OfWidth : {M : Type 0} → Kind M → ℕ → List (Poly M) → Type 0
OfWidth {M} k w fs = (f : Poly M) (m : M) → f ∈ fs → m ∈ monos f → k.width m ≡ w

-- what the rules say of a derivation D of monomials in w variables, where fs has the equations
pub record Derivation {M : Type 0} (k : Kind M) (w : ℕ) (fs : List (Poly M)) (D : M → Poly M) : Type 0 where
  pub constant : Same k (D (k.one w)) []
  pub variable : (i : ℕ) → i < w → Same k (D (variable k w i)) (get_or fs i [])
  pub product : (z y : M) → k.width z ≡ w → k.width y ≡ w → Same k (D (k.mul z y)) (times k (pos 1) z (D y) ++ times k (pos 1) y (D z))
