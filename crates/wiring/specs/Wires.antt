-- The wiring list: for each left variable ascending, each monomial of its derivative ascending, with the total coefficient and the pair
-- (a, b) of smallest a, then smallest b, whose product it is, for any kind of monomials. Signals go by their numbers. Assumes nothing.
use Rattle.std.specs.Prelude.{◌≡◌, Bool, true, false, not, ◌&&◌, List, [], ◌∷◌, ◌++◌, map, ℕ, suc, ◌*◌, ◌-◌, ◌≤◌, ◌<◌, T, ℤ, length, get_or, replicate, Option, is_some, IfSome, MatchOption, Result, Ok, Err}
use Rattle.monomial.specs.Lists.{place, gather}
use Rattle.monomial.specs.Monomial.{Mono}
use Rattle.monomial.specs.Claims.{◌∈◌}
use Rattle.wiring.specs.Coefficient.{unsigned, four_bytes}
use Rattle.wiring.specs.Poly.{Kind, Poly, plain, coeff, support}
use Rattle.wiring.specs.Quadratic.{factor, in_v2, lacking}
use Rattle.wiring.specs.Choice.{beyond}
use Rattle.wiring.specs.Panel.{wire_bytes, most_signals}
use Rattle.wiring.specs.declared.wires.Pair.{Pair}
use Rattle.wiring.specs.declared.wires.Unmet.{Unmet}
use Rattle.monomial.specs.declared.Monomial.{Monomial}

pub record Wire : Type 0 where
  pub left : ℕ
  pub a : ℕ
  pub b : ℕ
  pub coefficient : ℤ

module _ {M : Type 0} (k : Kind M) (v : List M) where
  -- signal number i
  abbrev pub signal : ℕ → M
  signal i = get_or v i (k.one 0)

  -- the smallest a, and the smallest b beside it
  unfoldable pub first_of : M → ℕ
  first_of m = place (factor k v m) v

  unfoldable pub second_of : M → ℕ
  second_of m = place (λ b. k.same (k.mul (signal (first_of m)) b) m) v

  -- the records of one left variable, whose derivative is p
  unfoldable pub row : ℕ → Poly M → List Wire
  row left p = map (λ m. record { left = left; a = first_of m; b = second_of m; coefficient = coeff k p m }) (support k p)

  unfoldable pub rows_from : (M → Poly M) → ℕ → List M → List Wire
  rows_from d left [] = []
  rows_from d left (z ∷ zs) = row left (d z) ++ rows_from d (suc left) zs

  unfoldable pub wiring : (M → Poly M) → List Wire
  wiring d = rows_from d 0 v

  -- every monomial of every derivative is in V2
  abbrev pub Met : (M → Poly M) → Type 0
  Met d = (z m : M) → z ∈ v → m ∈ support k (d z) → T (in_v2 k v m)

-- the bytes of a wiring record
unfoldable pub wire_record : Wire → List ℕ
wire_record x = x.left ∷ x.a ∷ x.b ∷ 0 ∷ four_bytes (unsigned x.coefficient)

-- ---- a buffer with a list in it
-- the bytes of a list of records
abbrev pub wire_list : List Wire → List ℕ
wire_list l = gather wire_record l

-- the first `at` records of the buffer are the list, and the rest of it is zeros
pub record Sheet (list : List Wire) (at : ℕ) (out : List ℕ) : Type 0 where
  pub counted : at ≡ length list
  pub room : wire_bytes * at ≤ length out
  pub bytes : out ≡ wire_list list ++ replicate (length out - wire_bytes * at) 0

-- a list that was to be written: so many records stand there, or it is longer than the buffer holds
abbrev pub Wrote : List Wire → Option ℕ → List ℕ → Type 0
Wrote list w out = MatchOption w (length out < wire_bytes * length list) (λ at. Sheet list at out)

-- ---- as the code passes over the left variables
-- the pair that it finds for m, where there is one
pub record IsFirstPair (v : List Mono) (m : Mono) (p : Pair) : Type 0 where
  pub first : p.a ≡ first_of plain v m
  pub second : p.b ≡ second_of plain v m
  pub a_small : p.a < most_signals
  pub b_small : p.b < most_signals

pub record FirstPair (v : List Mono) (m : Mono) (p : Option Pair) : Type 0 where
  pub told : is_some p ≡ in_v2 plain v m
  pub pair : IfSome p (IsFirstPair v m)

-- what stands behind the pick and has no pair
abbrev pub unmet_beyond : List Mono → Option Monomial → Mono → Bool
unmet_beyond v last m = beyond last m && not (in_v2 plain v m)

module _ {M : Type 0} (k : Kind M) (v : List M) where
  -- past left variable number `left`, whose derivative is p: the list goes on with its row, or p is not met
  abbrev pub RowPassed : ℕ → Poly M → List Wire → Result (Option ℕ) Unmet → List ℕ → Type 0
  RowPassed left p done (Ok w) out = (lacking k v p ≡ false) × Wrote (done ++ row k v left p) w out
  RowPassed left p done (Err u) out = (lacking k v p ≡ true) × (u.left ≡ left)

  -- past all of them: the whole list, or the first whose derivative is not met
  abbrev pub Passed : (M → Poly M) → Result (Option ℕ) Unmet → List ℕ → Type 0
  Passed d (Ok w) out = (place (λ z. lacking k v (d z)) v ≡ length v) × Wrote (wiring k v d) w out
  Passed d (Err u) out = (u.left ≡ place (λ z. lacking k v (d z)) v) × (u.left < length v)
