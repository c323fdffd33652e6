-- Monomials side by side in a lent list, each once: the nonsquares of a set, or that they are more than the list may hold. Assumes nothing.
use Rattle.std.specs.Prelude.{◌≡◌, List, ℕ, ◌*◌, ◌<◌, ◌≤◌, length, Option, MatchOption}
use Rattle.monomial.specs.Monomial.{Mono, width}
use Rattle.monomial.specs.Claims.{◌⊆◌, Different, Rearranged}
use Rattle.wiring.specs.Signals.{listed}

-- a list of len monomials, each once, with room for `most`
pub record Lent (most len : ℕ) (bytes : List ℕ) : Type 0 where
  pub room : width * most ≤ length bytes
  pub few : len ≤ most
  pub different : Different (listed len bytes)

-- it holds the monomials of l, each once, in whatever order and however often they stand in l
pub record Holds (l : List Mono) (most len : ℕ) (bytes : List ℕ) : Type 0 where
  pub few : len ≤ most
  pub different : Different (listed len bytes)
  pub inside : listed len bytes ⊆ l
  pub all : l ⊆ listed len bytes

-- l has more monomials than a list may hold: here are some of them, no two alike
pub record Exceeds (l : List Mono) (most : ℕ) : Type 0 where
  pub some : List Mono
  pub different : Different some
  pub inside : some ⊆ l
  pub many : most < length some

-- what is answered of l, and the list then: how many it lists, or that they are more than it may hold
abbrev pub Notes : List Mono → ℕ → Option ℕ → List ℕ → Type 0
Notes l most g bytes = MatchOption g (Exceeds l most) (λ len. Holds l most len bytes)

-- l is the list in another order
pub record Lists (l : List Mono) (most len : ℕ) (bytes : List ℕ) : Type 0 where
  pub few : len ≤ most
  pub many : len ≡ length l
  pub are : Rearranged l (listed len bytes)

-- what is answered of the nonsquares ns, and the list then
abbrev pub Gathers : ℕ → List Mono → Option ℕ → List ℕ → Type 0
Gathers most ns g bytes = MatchOption g (most < length ns) (λ len. Lists ns most len bytes)
