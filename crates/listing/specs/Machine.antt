-- The machine that reads a listing, a byte at a time. Assumes nothing.
use Rattle.std.specs.Prelude.{cond, ◌&&◌, List, ℕ, ◌+◌, ◌-◌, leb, ltb, eqb, length, get_or}
use Rattle.reader.specs.Bytes.{newline, blank, minus, nought, nine, longer, goes_longer}
use Rattle.listing.specs.Bytes.{star, plus, letter_w, letter_x, heading, equals, prime}
use Rattle.listing.specs.Lines.{left_of, letter_of, digit_of}
use Rattle.listing.specs.declared.known.Known.{Known}
use Rattle.listing.specs.declared.machine.State.{State}
use Rattle.listing.specs.declared.machine.Reading.{Reading}
use Rattle.listing.specs.declared.machine.Reading.TheVariants.{Dead, Ended, At}
use Rattle.listing.specs.declared.machine.Place.{Place}
use Rattle.listing.specs.declared.machine.Place.TheVariants.{Heading, Names, NewName, Equals, Factor, Power, Star, Exponent, Digits, Next, Line, Left, Prime, Right, Zero, Term, Coefficient, First, X1, W1, One, Times, Square, X2, W2, Two, Sign, Gap}

abbrev pub state : Place → ℕ → ℕ → ℕ → State
state p names line number = record { at = p; names = names; line = line; number = number }

-- the next byte stands at p
abbrev pub to : State → Place → Reading
to s p = At (state p s.names s.line 0)

-- the byte c leads on to p; the bytes from low to high do; a newline leads on to go; else it is as `other` says
unfoldable pub one : ℕ → ℕ → State → Place → Reading → Reading
one x c s p other = cond (eqb x c) (to s p) other

unfoldable pub span : ℕ → ℕ → ℕ → State → Place → Reading → Reading
span x low high s p other = cond (leb low x && leb x high) (to s p) other

unfoldable pub ended : ℕ → Reading → Reading → Reading
ended x go other = cond (eqb x newline) go other

-- the next byte of a fixed word; behind the word it goes on as `done` says
unfoldable pub spell : List ℕ → ℕ → State → Reading → Reading
spell word x s done =
    cond (eqb x (get_or word s.number 0))
    (cond (ltb (s.number + 1) (length word)) (At (state s.at s.names s.line (s.number + 1))) done)
    Dead

-- one more new name is whole
abbrev pub named : State → Reading
named s = At (state Names (s.names + 1) s.line 0)

-- the line of this number begins, unless there is none
unfoldable pub line_from : Known → ℕ → ℕ → Reading
line_from r names line = cond (eqb (left_of r names line) 0) Ended (At (state Line names line 0))

-- a name begins, at p for a variable's digit and at q for a new name's
unfoldable pub begin_name : ℕ → State → Place → Place → Reading
begin_name x s p q = one x letter_x s p (cond (ltb 0 s.names) (one x letter_w s q Dead) Dead)

-- a term begins
unfoldable pub begin_term : ℕ → State → Reading
begin_term x s = cond (leb (nought + 1) x && leb x nine) (At (state Coefficient s.names s.line (x - nought))) (begin_name x s X1 W1)

-- a term is whole: a sign and the next term, or the line's end
unfoldable pub behind : Known → ℕ → State → Reading
behind r x s = one x blank s Sign (ended x (line_from r s.names (s.line + 1)) Dead)

-- in a coefficient, which is at most 1,000,000,000
unfoldable pub in_coefficient : Known → ℕ → State → Reading
in_coefficient r x s =
    cond (goes_longer 1000000000 s.number x) (At (state Coefficient s.names s.line (longer s.number x))) (one x star s First (behind r x s))

-- a line of the first part begins, or the blank line ends that part
unfoldable pub begin_line : Known → ℕ → State → Reading
begin_line r x s = ended x (line_from r s.names 0) (cond (ltb s.names r.cards) (one x letter_w s NewName Dead) Dead)

-- what the byte x leads to
unfoldable pub eat_at : Known → ℕ → State → Place → Reading
eat_at r x s Heading = spell heading x s (to s Names)
eat_at r x s Names = begin_line r x s
eat_at r x s NewName = one x (nought + s.names) s Equals Dead
eat_at r x s Equals = spell equals x s (to s Factor)
eat_at r x s Factor = span x (nought + 1) (nought + r.n) s Power Dead
eat_at r x s Power = one x star s Star (ended x (named s) Dead)
eat_at r x s Star = one x star s Exponent (one x letter_x s Factor Dead)
eat_at r x s Exponent = span x (nought + 1) nine s Digits Dead
eat_at r x s Digits = span x nought nine s Digits (one x star s Next (ended x (named s) Dead))
eat_at r x s Next = one x letter_x s Factor Dead
eat_at r x s Line = one x (letter_of r (left_of r s.names s.line)) s Left Dead
eat_at r x s Left = one x (digit_of r (left_of r s.names s.line)) s Prime Dead
eat_at r x s Prime = spell prime x s (to s Right)
eat_at r x s Right = one x nought s Zero (one x minus s Term (begin_term x s))
eat_at r x s Zero = ended x (line_from r s.names (s.line + 1)) Dead
eat_at r x s Term = begin_term x s
eat_at r x s Coefficient = in_coefficient r x s
eat_at r x s First = begin_name x s X1 W1
eat_at r x s X1 = span x (nought + 1) (nought + r.n) s One Dead
eat_at r x s W1 = span x nought (nought + (s.names - 1)) s One Dead
eat_at r x s One = one x star s Times (behind r x s)
eat_at r x s Times = one x star s Square (begin_name x s X2 W2)
eat_at r x s Square = one x (nought + 2) s Two Dead
eat_at r x s X2 = span x (nought + 1) (nought + r.n) s Two Dead
eat_at r x s W2 = span x nought (nought + (s.names - 1)) s Two Dead
eat_at r x s Two = behind r x s
eat_at r x s Sign = one x plus s Gap (one x minus s Gap Dead)
eat_at r x s Gap = one x blank s Term Dead

-- behind the end there is nothing more to read
unfoldable pub eat : Known → Reading → ℕ → Reading
eat r Dead x = Dead
eat r Ended x = Dead
eat r (At s) x = eat_at r x s s.at

abbrev pub start : Reading
start = At (state Heading 0 0 0)
