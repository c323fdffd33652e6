-- The head of a case: numbers in two, four and eight bytes, low byte first, and which heads are answered. Assumes nothing.
use Rattle.std.specs.Prelude.{◌≡◌, Bool, ◌&&◌, Option, Some, None, option_map, Result, MatchResult, List, ℕ, ◌+◌, ◌*◌, if◌then◌else◌, ◌==◌, leb, get_or}
use Rattle.compare.specs.declared.head.Head.{Head}
use Rattle.compare.specs.declared.head.Operation.{Operation}
use Rattle.compare.specs.declared.head.Operation.TheVariants.{Plan, Wire, Thin, Read}
use Rattle.compare.specs.declared.head.UnknownOperation.{UnknownOperation}

abbrev pub head_bytes : ℕ
head_bytes = 56

-- the operations are numbered from 1
abbrev pub operation_of : ℕ → Option Operation
operation_of number =
    if number == 1 then Some Plan
    else if number == 2 then Some Wire
    else if number == 3 then Some Thin
    else if number == 4 then Some Read
    else None

-- the operation with this number, or an error with a number that no operation has
abbrev pub Numbered : ℕ → Result Operation UnknownOperation → Type 0
Numbered number r = MatchResult r (λ o. operation_of number ≡ Some o) (λ e. (e.0 ≡ number) × (operation_of number ≡ None))

-- the longest terms, set or text, and buffer that are answered
abbrev pub longest_terms : ℕ
longest_terms = 600

abbrev pub longest_given : ℕ
longest_given = 8192

abbrev pub longest_buffer : ℕ
longest_buffer = 65536

abbrev pub two : List ℕ → ℕ → ℕ
two l at = get_or l at 0 + 256 * get_or l (at + 1) 0

abbrev pub four : List ℕ → ℕ → ℕ
four l at = two l at + 65536 * two l (at + 2)

abbrev pub eight : List ℕ → ℕ → ℕ
eight l at = four l at + 4294967296 * four l (at + 4)

-- the head that asks for an operation
unfoldable pub head_with : List ℕ → Operation → Head
head_with bytes operation = record {
  operation = operation;
  terms = two bytes 2;
  given = four bytes 4;
  n = eight bytes 8;
  marks = eight bytes 16;
  degree = eight bytes 24;
  cap = eight bytes 32;
  limit = eight bytes 40;
  size = eight bytes 48;
}

-- nothing where the operation is unknown
unfoldable pub head_of : List ℕ → Option Head
head_of bytes = option_map (head_with bytes) (operation_of (two bytes 0))

-- lengths within the limits
abbrev pub right : Head → Bool
right h = leb h.terms longest_terms && leb h.given longest_given && leb h.size longest_buffer
