-- One monomial of a list: the best by an order, as the nonsquare that is split (smallest score, on a tie the smallest monomial).
-- Assumes nothing.
use Rattle.std.specs.Prelude.{◌≡◌, Bool, true, cond, ◌&&◌, ◌||◌, List, [], ◌∷◌, T, eqb, ltb, Option, Some, None, is_some, IsNone, IsSomeAnd, IfSome, MatchOption}
use Rattle.monomial.specs.Monomial.{Mono}
use Rattle.monomial.specs.Order.{before}
use Rattle.monomial.specs.Divisors.{score}
use Rattle.monomial.specs.Claims.{◌∈◌}
use Rattle.monomial.specs.declared.Monomial.{Monomial}

-- a is split rather than b
unfoldable pub cheaper : Mono → Mono → Bool
cheaper a b = ltb (score a) (score b) || (eqb (score a) (score b) && before a b)

-- the one to split among m and l
unfoldable pub chosen : Mono → List Mono → Mono
chosen m [] = m
chosen m (x ∷ l) = chosen (cond (cheaper x m) x m) l

-- the pick among a list's nonsquares
abbrev pub Picked : List Mono → Option Monomial → Type 0
Picked [] p = IsNone p
Picked (m ∷ l) p = IsSomeAnd p (λ x. x.e ≡ chosen m l)

-- the pick is the first of a list
abbrev pub Heads : List Mono → Option Monomial → Type 0
Heads [] p = IsNone p
Heads (m ∷ l) p = IsSomeAnd p (λ x. x.e ≡ m)

-- m stands behind the pick; everything does behind none
abbrev pub beyond : Option Monomial → Mono → Bool
beyond None m = true
beyond (Some x) m = before x.e m

-- what a loop that keeps the best so far knows of the candidates l that it has met, in any order and with repeats
abbrev pub BestOf : (Mono → Mono → Bool) → List Mono → Mono → Type 0
BestOf earlier l m = (m ∈ l) × ((y : Mono) → y ∈ l → T (earlier y m) → ⊥)

abbrev pub Best : (Mono → Mono → Bool) → List Mono → Option Monomial → Type 0
Best earlier l p = MatchOption p ((y : Mono) → y ∈ l → ⊥) (λ x. BestOf earlier l x.e)

-- the pick is m where the test holds, and none where it fails
pub record Offered (test : Bool) (m : Mono) (p : Option Monomial) : Type 0 where
  pub told : is_some p ≡ test
  pub is : IfSome p (λ x. x.e ≡ m)
