-- The new names of a listing as the code notes them: exponents above the largest that a set may have are kept as one more than that. Assumes nothing.
use Rattle.std.specs.Prelude.{◌≡◌, cond, map, ℕ, suc, ◌≤◌, ◌<◌, leb, length}
use Rattle.monomial.specs.Monomial.{Mono, width}
use Rattle.wiring.specs.Panel.{cards, set_exponent}
use Rattle.wiring.specs.Sets.{monomials_of}
use Rattle.listing.specs.Counted.{Small}
use Rattle.listing.specs.Meaning as meaning
use Rattle.listing.specs.declared.saying.Saying.{Saying}
use Rattle.listing.specs.declared.saying.Saying.TheVariants.{Silence, Variable, Raised, Digit, NameEnds, Minus, Number, Name, Again, TermEnds, LineEnds, ZeroLine}
use Rattle.desktop.specs.declared.names.Naming.{Naming}

abbrev pub above : ℕ
above = suc set_exponent

unfoldable pub cap : ℕ → ℕ
cap x = cond (leb x above) x above

abbrev pub capped : Mono → Mono
capped m = map cap m

-- the notes of a listing, and the code's that hold them
abbrev pub Notes : Type 0
Notes = meaning.Naming

pub record Holds (q : Notes) (k : Naming) : Type 0 where
  pub whole : monomials_of k.names ≡ map capped q.whole
  pub size : k.names.len ≡ length q.whole
  pub mono : k.mono.e ≡ capped q.mono
  pub variable : k.variable ≡ q.variable
  pub power : k.power ≡ cap q.power

-- where a power is closed there is a variable, and where a name ends there is a card for it
abbrev pub Closing : Naming → Saying → Type 0
Closing k Silence = Unit {0}
Closing k (Variable v) = k.variable < width
Closing k Raised = Unit {0}
Closing k (Digit d) = Unit {0}
Closing k NameEnds = (k.variable < width) × (k.names.len < cards)
Closing k Minus = Unit {0}
Closing k (Number v) = Unit {0}
Closing k (Name s) = Unit {0}
Closing k Again = Unit {0}
Closing k TermEnds = Unit {0}
Closing k LineEnds = Unit {0}
Closing k ZeroLine = Unit {0}

pub record Ready (k : Naming) (σ : Saying) : Type 0 where
  pub power : k.power ≤ above
  pub small : Small σ
  pub closing : Closing k σ
