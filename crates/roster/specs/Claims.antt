-- What is claimed of new names, in plain equations and inequalities. Assumes nothing.
use Rattle.std.specs.Prelude.{◌≡◌, List, ℕ, ◌≤◌, get_or}
use Rattle.monomial.specs.Monomial.{Mono, constants, width}
use Rattle.monomial.specs.Claims.{◌∈◌, Different}
use Rattle.wiring.specs.Panel.{set_exponent}
use Rattle.wiring.specs.Claims.{Buildable}
use Rattle.wiring.specs.declared.panel.Panel.{Panel}

-- names that form a set: none is 1 or a single variable, no exponent is too large, those beyond xn are 0, the kit can build each, and no two are one
-- monomial. What order they stand in is not asked
pub record RightNames (panel : Panel) (names : List Mono) : Type 0 where
  pub new : (m : Mono) → m ∈ names → m ∈ constants width → ⊥
  pub small : (m : Mono) → m ∈ names → (i : ℕ) → get_or m i 0 ≤ set_exponent
  pub within : (m : Mono) → m ∈ names → (i : ℕ) → panel.n ≤ i → get_or m i 0 ≡ 0
  pub buildable : Buildable panel names
  pub different : Different names
