-- What a byte of a listing says: a name's factors and their exponents, a term's sign, coefficient and names, and that a name, a term or a line is
-- whole. Assumes nothing.
use Rattle.std.specs.Prelude.{cond, ◌&&◌, ℕ, ◌+◌, ◌-◌, leb, eqb}
use Rattle.reader.specs.Bytes.{newline, blank, minus, nought, nine, longer}
use Rattle.listing.specs.Bytes.{star}
use Rattle.listing.specs.declared.known.Known.{Known}
use Rattle.listing.specs.declared.machine.State.{State}
use Rattle.listing.specs.declared.machine.Reading.{Reading}
use Rattle.listing.specs.declared.machine.Reading.TheVariants.{Dead, Ended, At}
use Rattle.listing.specs.declared.machine.Place.{Place}
use Rattle.listing.specs.declared.machine.Place.TheVariants.{Heading, Names, NewName, Equals, Factor, Power, Star, Exponent, Digits, Next, Line, Left, Prime, Right, Zero, Term, Coefficient, First, X1, W1, One, Times, Square, X2, W2, Two, Sign, Gap}
use Rattle.listing.specs.declared.saying.Saying.{Saying}
use Rattle.listing.specs.declared.saying.Saying.TheVariants.{Silence, Variable, Raised, Digit, NameEnds, Minus, Number, Name, Again, TermEnds, LineEnds, ZeroLine}

-- a newline ends a name
unfoldable pub name_said : ℕ → Saying
name_said x = cond (eqb x newline) NameEnds Silence

-- a digit goes on with an exponent
unfoldable pub digit_said : ℕ → Saying
digit_said x = cond (leb nought x) (Digit (x - nought)) (name_said x)

-- a second star leads on to an exponent
unfoldable pub star_said : ℕ → Saying
star_said x = cond (eqb x star) Raised Silence

-- a digit goes on with the coefficient v; another byte says what `other` says
unfoldable pub number_said : ℕ → ℕ → Saying → Saying
number_said v x other = cond (leb nought x && leb x nine) (Number (longer v x)) other

-- a minus before a term
unfoldable pub minus_said : ℕ → Saying → Saying
minus_said x other = cond (eqb x minus) Minus other

-- a space ends a term, a newline ends the last one of a line
unfoldable pub term_said : ℕ → Saying
term_said x = cond (eqb x blank) TermEnds (cond (eqb x newline) LineEnds Silence)

unfoldable pub saying_at : Known → ℕ → State → Place → Saying
saying_at r x s Heading = Silence
saying_at r x s Names = Silence
saying_at r x s NewName = Silence
saying_at r x s Equals = Silence
saying_at r x s Factor = Variable (x - (nought + 1))
saying_at r x s Power = name_said x
saying_at r x s Star = star_said x
saying_at r x s Exponent = Digit (x - nought)
saying_at r x s Digits = digit_said x
saying_at r x s Next = Silence
saying_at r x s Line = Silence
saying_at r x s Left = Silence
saying_at r x s Prime = Silence
saying_at r x s Right = minus_said x (number_said 0 x Silence)
saying_at r x s Zero = ZeroLine
saying_at r x s Term = number_said 0 x Silence
saying_at r x s Coefficient = number_said s.number x (term_said x)
saying_at r x s First = Silence
saying_at r x s X1 = Name (x - nought)
saying_at r x s W1 = Name (r.n + 1 + (x - nought))
saying_at r x s One = term_said x
saying_at r x s Times = Silence
saying_at r x s Square = Again
saying_at r x s X2 = Name (x - nought)
saying_at r x s W2 = Name (r.n + 1 + (x - nought))
saying_at r x s Two = term_said x
saying_at r x s Sign = minus_said x Silence
saying_at r x s Gap = Silence

unfoldable pub saying : Known → Reading → ℕ → Saying
saying r Dead x = Silence
saying r Ended x = Silence
saying r (At s) x = saying_at r x s s.at
