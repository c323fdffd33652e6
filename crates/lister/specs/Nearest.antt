-- How a cheap pair is found by V. Assumes nothing.
use Rattle.std.specs.Prelude.{Bool, true, cond, List, [], ◌∷◌, ◌++◌, map, ℕ, ◌/◌, ◌<◌, T, length, get_or, Option, None, Some, IfSome, IsSomeAnd}
use Rattle.monomial.specs.Monomial.{Mono, one, width}
use Rattle.monomial.specs.Order.{before}
use Rattle.monomial.specs.Quotient.{quo, divides}
use Rattle.monomial.specs.Divisors.{leads}
use Rattle.monomial.specs.Claims.{split}
use Rattle.lister.specs.declared.nearest.Near.{Near}
use Rattle.lister.specs.Cheap.{cheap, Holds}

-- every exponent halved: the root of a square
abbrev pub root_of : Mono → Mono
root_of m = map (λ e. e / 2) m

-- the first of the pair of m that w is of; 1, where w does not divide m
unfoldable pub lead_of : Mono → Mono → Mono
lead_of m w = cond (divides w m) (cond (leads m w) w (quo m w)) (one (length m))

-- one of a cheap pair is among these
abbrev pub asked : List Mono → Mono → List Mono
asked v m = v ++ (root_of m ∷ [])

-- the first factor d of a cheap pair of m, from a on
pub record CheapFrom (v : List Mono) (m a d : Mono) : Type 0 where
  pub divisor : T (divides d m)
  pub leading : T (leads m d)
  pub cheap : T (cheap v (split m d))
  pub later : T (before d a) → ⊥

-- number i of those that are asked
abbrev pub tried : List Mono → Mono → ℕ → Mono
tried v m i = lead_of m (get_or (asked v m) i (one width))

-- c stands before the nearest so far, if there is one
abbrev pub ahead : Mono → Option Near → Bool
ahead c None = true
ahead c (Some near) = before c near.a.e

module _ (v : List Mono) (m a : Mono) where
  -- what is told is a cheap pair from a on, with what V holds of it
  abbrev pub Own : Option Near → Type 0
  Own r = IfSome r (λ near. CheapFrom v m a near.a.e × Holds v (split m near.a.e) near.held)

  -- where d begins one, one is told, and not one behind it
  abbrev pub NotBehind : Option Near → Mono → Type 0
  NotBehind r d = CheapFrom v m a d → IsSomeAnd r (λ near. T (before d near.a.e) → ⊥)

  -- the nearest of the first j that are asked
  pub record Nearing (r : Option Near) (j : ℕ) : Type 0 where
    pub own : Own r
    pub least : (i : ℕ) → i < j → NotBehind r (tried v m i)

  -- the nearest of all
  pub record Nearest (r : Option Near) : Type 0 where
    pub own : Own r
    pub least : (d : Mono) → NotBehind r d
