-- What holds of every state that the machine comes to. Assumes nothing.
use Rattle.std.specs.Prelude.{◌+◌, ◌≤◌, ◌<◌}
use Rattle.listing.specs.declared.known.Known.{Known}
use Rattle.listing.specs.declared.machine.State.{State}
use Rattle.listing.specs.declared.machine.Reading.{Reading}
use Rattle.listing.specs.declared.machine.Reading.TheVariants.{Dead, Ended, At}
use Rattle.listing.specs.declared.machine.Place.{Place}
use Rattle.listing.specs.declared.machine.Place.TheVariants.{Heading, Names, NewName, Equals, Factor, Power, Star, Exponent, Digits, Next, Line, Left, Prime, Right, Zero, Term, Coefficient, First, X1, W1, One, Times, Square, X2, W2, Two, Sign, Gap}

-- each name has one digit, and there is a variable
pub record Fair (r : Known) : Type 0 where
  pub one : 1 ≤ r.n
  pub few : r.n ≤ 9
  pub low : r.cards ≤ 9

-- in a name's line there is a card for the name
abbrev pub InName : Known → State → Type 0
InName r s = s.names < r.cards

-- a derivative's line is one of those that are to come
abbrev pub InLine : Known → State → Type 0
InLine r s = s.line < r.n + s.names

abbrev pub Fit : Known → State → Place → Type 0
Fit r s Heading = s.number < 22
Fit r s Names = Unit {0}
Fit r s NewName = InName r s
Fit r s Equals = InName r s × (s.number < 4)
Fit r s Factor = InName r s
Fit r s Power = InName r s
Fit r s Star = InName r s
Fit r s Exponent = InName r s
Fit r s Digits = InName r s
Fit r s Next = InName r s
Fit r s Line = InLine r s
Fit r s Left = InLine r s
Fit r s Prime = InLine r s × (s.number < 4)
Fit r s Right = InLine r s
Fit r s Zero = InLine r s
Fit r s Term = InLine r s
Fit r s Coefficient = InLine r s
Fit r s First = InLine r s
Fit r s X1 = InLine r s
Fit r s W1 = InLine r s × (0 < s.names)
Fit r s One = InLine r s
Fit r s Times = InLine r s
Fit r s Square = InLine r s
Fit r s X2 = InLine r s
Fit r s W2 = InLine r s × (0 < s.names)
Fit r s Two = InLine r s
Fit r s Sign = InLine r s
Fit r s Gap = InLine r s

pub record Held (r : Known) (s : State) : Type 0 where
  pub names : s.names ≤ r.cards
  pub number : s.number ≤ 1000000000
  pub fit : Fit r s s.at

abbrev pub Stands : Known → Reading → Type 0
Stands r Dead = Unit {0}
Stands r Ended = Unit {0}
Stands r (At s) = Held r s
