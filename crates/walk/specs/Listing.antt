-- The finds in the lent buffer: ascending, each once, then zeros. Assumes nothing.
use Rattle.std.specs.Prelude.{◌≡◌, true, false, not, List, ◌++◌, ℕ, ◌*◌, ◌-◌, ◌≤◌, length, replicate, Option, Some, None}
use Rattle.std.specs.declared.cmp.Ordering.TheVariants.{Less, Equal, Greater}
use Rattle.std.specs.declared.cmp.Ordering.{Ordering}
use Rattle.monomial.specs.Lists.{any, place}
use Rattle.monomial.specs.Monomial.{Mono, one, width}
use Rattle.monomial.specs.Order.{same, before, same_set, before_set}
use Rattle.monomial.specs.Claims.{Ascending, ◌∈◌}
use Rattle.wiring.specs.Panel.{cards, set_bytes}
use Rattle.wiring.specs.Signals.{tabled}
use Rattle.walk.specs.Walk.{Finds, Run, ended, full}
use Rattle.walk.specs.Plan.{sets_bytes}

-- a set that has a record: no more monomials than there are cards, strictly ascending, of the panel's width, none of them 1
pub record Recorded (s : List Mono) : Type 0 where
  pub few : length s ≤ cards
  pub ascending : Ascending before s
  pub wide : (m : Mono) → m ∈ s → length m ≡ width
  pub proper : (m : Mono) → m ∈ s → m ≡ one width → ⊥

-- such a set, whose monomials lie side by side in bytes
pub record Lies (set : List ℕ) : Type 0 where
  pub whole : length set ≡ width * length (tabled set)
  pub recorded : Recorded (tabled set)

-- the first `count` records of the buffer are the finds, and the rest of it is zeros
pub record Shown (finds : Finds) (count : ℕ) (out : List ℕ) : Type 0 where
  pub counted : count ≡ length finds
  pub room : set_bytes * count ≤ length out
  pub bytes : out ≡ sets_bytes finds ++ replicate (length out - set_bytes * count) 0
  pub ascending : Ascending before_set finds
  pub recorded : (s : List Mono) → s ∈ finds → Recorded s

-- what comparing two records tells: whether they are one, and whether the first stands before the second
abbrev pub Compares : List ℕ → List ℕ → Ordering → Type 0
Compares a b Less = (same a b ≡ false) × (before a b ≡ true)
Compares a b Equal = same a b ≡ true
Compares a b Greater = (same a b ≡ false) × (before a b ≡ false)

-- what looking for a set comes to: it is among the finds, or this is its place among them
abbrev pub Sought : List Mono → Finds → Option ℕ → Type 0
Sought s finds None = any (same_set s) finds ≡ true
Sought s finds (Some i) = (any (same_set s) finds ≡ false) × (i ≡ place (λ f. not (before_set f s)) finds)

-- what keeping a find comes to, at `taken` steps
abbrev pub KeptAs : Option ℕ → ℕ → List ℕ → Run → Type 0
KeptAs (Some count) taken out r = (finds : Finds) × Shown finds count out × (r ≡ ended taken finds)
KeptAs None taken out r = r ≡ full taken
