-- What is claimed of the order of the pairs. Assumes nothing.
use Rattle.std.specs.Prelude.{◌≡◌, ◌⊎◌, List}
use Rattle.monomial.specs.Monomial.{Mono}
use Rattle.monomial.specs.Claims.{◌∈◌, Pair}

-- just one of the two is not in V, or they are one that is not
abbrev pub AddsOne : List Mono → Pair → Type 0
AddsOne v p = ((p.0 ∈ v) × (p.1 ∈ v → ⊥)) ⊎ (((p.1 ∈ v) × (p.0 ∈ v → ⊥)) ⊎ ((p.0 ≡ p.1) × (p.0 ∈ v → ⊥)))
