-- What is counted while a listing is read, the names and the lines that are whole; and what the bytes of a readable listing say. Assumes nothing.
use Rattle.std.specs.Prelude.{◌≡◌, Bool, true, false, ℕ, ◌+◌, ◌≤◌, ◌<◌, length}
use Rattle.listing.specs.Lines.{lefts}
use Rattle.listing.specs.declared.known.Known.{Known}
use Rattle.listing.specs.declared.machine.State.{State}
use Rattle.listing.specs.declared.machine.Reading.{Reading}
use Rattle.listing.specs.declared.machine.Reading.TheVariants.{Dead, Ended, At}
use Rattle.listing.specs.declared.machine.Place.{Place}
use Rattle.listing.specs.declared.machine.Place.TheVariants.{Heading, Names, NewName, Equals, Factor, Power, Star, Exponent, Digits, Next, Line, Left, Prime, Right, Zero, Term, Coefficient, First, X1, W1, One, Times, Square, X2, W2, Two, Sign, Gap}
use Rattle.listing.specs.declared.saying.Saying.{Saying}
use Rattle.listing.specs.declared.saying.Saying.TheVariants.{Silence, Variable, Raised, Digit, NameEnds, Minus, Number, Name, Again, TermEnds, LineEnds, ZeroLine}

-- the names and the lines that a saying makes whole
abbrev pub name_ends : Saying → ℕ
name_ends Silence = 0
name_ends (Variable v) = 0
name_ends Raised = 0
name_ends (Digit d) = 0
name_ends NameEnds = 1
name_ends Minus = 0
name_ends (Number v) = 0
name_ends (Name s) = 0
name_ends Again = 0
name_ends TermEnds = 0
name_ends LineEnds = 0
name_ends ZeroLine = 0

abbrev pub line_ends : Saying → ℕ
line_ends Silence = 0
line_ends (Variable v) = 0
line_ends Raised = 0
line_ends (Digit d) = 0
line_ends NameEnds = 0
line_ends Minus = 0
line_ends (Number v) = 0
line_ends (Name s) = 0
line_ends Again = 0
line_ends TermEnds = 0
line_ends LineEnds = 1
line_ends ZeroLine = 1

-- the places of the second part
abbrev pub in_lines : Place → Bool
in_lines Heading = false
in_lines Names = false
in_lines NewName = false
in_lines Equals = false
in_lines Factor = false
in_lines Power = false
in_lines Star = false
in_lines Exponent = false
in_lines Digits = false
in_lines Next = false
in_lines Line = true
in_lines Left = true
in_lines Prime = true
in_lines Right = true
in_lines Zero = true
in_lines Term = true
in_lines Coefficient = true
in_lines First = true
in_lines X1 = true
in_lines W1 = true
in_lines One = true
in_lines Times = true
in_lines Square = true
in_lines X2 = true
in_lines W2 = true
in_lines Two = true
in_lines Sign = true
in_lines Gap = true

-- the second part is read, or nothing more
abbrev pub InLines : Reading → Type 0
InLines Dead = Unit {0}
InLines Ended = Unit {0}
InLines (At s) = in_lines s.at ≡ true

-- no line is whole in the first part; in the second one of those that are to come is read
abbrev pub PartOf : Bool → Known → ℕ → ℕ → Type 0
PartOf false r names line = line ≡ 0
PartOf true r names line = line < length (lefts r names)

abbrev pub Part : Known → ℕ → ℕ → Place → Type 0
Part r names line p = PartOf (in_lines p) r names line

pub record Counted (r : Known) (c d : ℕ) (s : State) : Type 0 where
  pub names : s.names ≡ c
  pub lines : s.line ≡ d
  pub part : Part r s.names s.line s.at

-- c names and d lines are whole
abbrev pub Counts : Known → ℕ → ℕ → Reading → Type 0
Counts r c d Dead = Unit {0}
Counts r c d Ended = d ≡ length (lefts r c)
Counts r c d (At s) = Counted r c d s

-- what a byte can say where c names are whole and the listing goes on: a variable that there is, a coefficient that is not too large, a known name
abbrev pub Sound : Known → ℕ → Saying → Type 0
Sound r c Silence = Unit {0}
Sound r c (Variable v) = v < r.n
Sound r c Raised = Unit {0}
Sound r c (Digit d) = Unit {0}
Sound r c NameEnds = Unit {0}
Sound r c Minus = Unit {0}
Sound r c (Number v) = v ≤ 1000000000
Sound r c (Name s) = (1 ≤ s) × (s ≤ r.n + c)
Sound r c Again = Unit {0}
Sound r c TermEnds = Unit {0}
Sound r c LineEnds = Unit {0}
Sound r c ZeroLine = Unit {0}

-- of any byte: a digit and a variable are no more than the byte
abbrev pub Small : Saying → Type 0
Small Silence = Unit {0}
Small (Variable v) = v < 256
Small Raised = Unit {0}
Small (Digit d) = d < 256
Small NameEnds = Unit {0}
Small Minus = Unit {0}
Small (Number v) = Unit {0}
Small (Name s) = Unit {0}
Small Again = Unit {0}
Small TermEnds = Unit {0}
Small LineEnds = Unit {0}
Small ZeroLine = Unit {0}
