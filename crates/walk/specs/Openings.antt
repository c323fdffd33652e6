-- The sets that steps open, found or not; and which child of a set is opened at a level. Assumes nothing.
use Rattle.std.specs.Prelude.{◌≡◌, true, false, List, [], ◌∷◌, ℕ, T}
use Rattle.monomial.specs.Lists.{gather}
use Rattle.monomial.specs.Monomial.{Mono}
use Rattle.monomial.specs.Divisors.{pairs}
use Rattle.monomial.specs.Claims.{◌∈◌}
use Rattle.wiring.specs.Poly.{Poly}
use Rattle.wiring.specs.Choice.{chosen}
use Rattle.wiring.specs.Answers.{missing}
use Rattle.walk.specs.Walk.{Finds, Rules, child, pair, opening, Step, found, other, opens, ends}

-- the set that a step opens; trying a pair opens none
abbrev pub opened_by : Step → Finds
opened_by (found s) = s ∷ []
opened_by (other (opening s)) = s ∷ []
opened_by (other pair) = []

-- the sets that steps open, one after the other
abbrev pub openings : List Step → Finds
openings es = gather opened_by es

module _ (r : Rules) (n : ℕ) (fs : List (Poly Mono)) (k : ℕ) where
  -- the set s goes on at level k, and p is a pair of its chosen nonsquare whose child is opened
  pub record Branch (s : List Mono) (p : Mono × Mono) : Type 0 where
    pub first : Mono
    pub others : List Mono
    pub are : missing n fs s ≡ first ∷ others
    pub on : ends r n k s (first ∷ others) ≡ false
    pub listed : p ∈ pairs (chosen first others)
    pub taken : opens r n k s p ≡ true

  -- t is the child of one of these sets by such a pair
  pub record ChildOf (sets : Finds) (t : List Mono) : Type 0 where
    pub of : List Mono
    pub of_in : of ∈ sets
    pub by : Mono × Mono
    pub parted : Branch of by
    pub is : t ≡ child n of by

-- each child that the walk opens keeps P of its set
abbrev pub Inherited : Rules → ℕ → List (Poly Mono) → ℕ → (List Mono → Type 0) → Type 0
Inherited r n fs k P = (s : List Mono) (m : Mono) (p : Mono × Mono) → P s → m ∈ missing n fs s → p ∈ pairs m → T (opens r n k s p) → P (child n s p)

-- what is claimed of a step: the set that it opens keeps P, and it is found exactly where it has no nonsquares
abbrev pub StepHolds : ℕ → List (Poly Mono) → (List Mono → Type 0) → Step → Type 0
StepHolds n fs P (found t) = P t × (missing n fs t ≡ [])
StepHolds n fs P (other (opening t)) = P t × (missing n fs t ≡ [] → ⊥)
StepHolds n fs P (other pair) = Unit {0}
