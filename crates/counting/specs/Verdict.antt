-- What follows for an opened set below its level: it is found, it is closed, or the pairs of a nonsquare are run. Assumes nothing.
use Rattle.std.specs.Prelude.{◌≡◌, Bool, true, false, List, [], ◌∷◌, ℕ, suc, ◌+◌, ◌*◌, ◌/◌, ◌<◌, ◌≤◌, length}
use Rattle.monomial.specs.Monomial.{Mono, width}
use Rattle.monomial.specs.Claims.{Different}
use Rattle.wiring.specs.Panel.{cards, set_exponent}
use Rattle.wiring.specs.Derivative.{Uncancelled}
use Rattle.wiring.specs.Signals.{Fitting, tabled, signals_at}
use Rattle.wiring.specs.Terms.{CleanTerms}
use Rattle.wiring.specs.Choice.{chosen}
use Rattle.counting.specs.Counting.{closes}
use Rattle.counting.specs.declared.verdict.Verdict.{Verdict}
use Rattle.counting.specs.declared.verdict.Verdict.TheVariants as verdict

-- nonsquares that a list need hold: of more a set is closed, however much room there is below the level. And the bytes of such a list
abbrev pub most_listed : ℕ
most_listed = cards * suc width + cards * suc cards / 2

abbrev pub list_bytes : ℕ
list_bytes = width * most_listed

-- what is asked: a set whose V has each member once, whether totals may be 0, and room below the level
pub record Weighing (terms : List ℕ) (n : ℕ) (set : List ℕ) (cancels : Bool) (room : ℕ) : Type 0 where
  pub clean : CleanTerms terms
  pub few : n ≤ width
  pub fitting : Fitting set_exponent (signals_at n set)
  pub different : Different (signals_at n set)
  pub summed : cancels ≡ false → Uncancelled terms
  pub low : 0 < room
  pub high : room ≤ cards
  pub within : length (tabled set) + room ≤ cards

-- the nonsquare that is split
pub record Split (may : Mono → Bool) (room : ℕ) (v ns : List Mono) (m : Mono) : Type 0 where
  pub first : Mono
  pub others : List Mono
  pub are : ns ≡ first ∷ others
  pub on : closes may room v ns ≡ false
  pub is : m ≡ chosen first others

-- what is answered of V and its nonsquares
abbrev pub Judged : (Mono → Bool) → ℕ → List Mono → List Mono → Verdict → Type 0
Judged may room v ns verdict.Found = ns ≡ []
Judged may room v ns verdict.Closed = closes may room v ns ≡ true
Judged may room v ns (verdict.Split m) = Split may room v ns m.e
