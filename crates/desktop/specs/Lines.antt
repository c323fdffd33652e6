-- The derivative lines of a listing: which of them are true, and the first that is not. Assumes nothing.
use Rattle.std.specs.Prelude.{◌≡◌, Bool, true, false, not, cond, List, [], ◌∷◌, ◌++◌, ℕ, ◌+◌, ◌≤◌, ◌<◌, length}
use Rattle.monomial.specs.Lists.{all, place, pointwise}
use Rattle.monomial.specs.Monomial.{Mono, width}
use Rattle.wiring.specs.Panel.{set_exponent}
use Rattle.wiring.specs.Poly.{Poly}
use Rattle.wiring.specs.Signals.{signals, signals_of, Fitting}
use Rattle.wiring.specs.declared.held.Signals.{Signals}
use Rattle.reader.specs.Reader.{Readable}
use Rattle.reader.specs.Said.{Verdict, whole, broken}
use Rattle.listing.specs.Held.{Fair}
use Rattle.listing.specs.Lines.{lefts}
use Rattle.listing.specs.Meaning.{Product, signed, names, lines}
use Rattle.listing.specs.Meaning as meaning
use Rattle.listing.specs.Readable.{listing}
use Rattle.listing.specs.declared.known.Known.{Known}
use Rattle.listing.specs.declared.saying.Saying.{Saying}
use Rattle.listing.specs.declared.saying.Saying.TheVariants.{Silence, Variable, Raised, Digit, NameEnds, Minus, Number, Name, Again, TermEnds, LineEnds, ZeroLine}
use Rattle.truth.specs.Truth.{line_true}
use Rattle.truth.specs.Sums.{most_number, most_sum, Bounded}
use Rattle.truth.specs.declared.truth.Sums.{Sums}
use Rattle.desktop.specs.declared.lines.Telling.{Telling}

-- the most bytes that a text may have
abbrev pub most_text : ℕ
most_text = 4096

-- whether each line is true, in the order of the lines
unfoldable pub line_tests : Known → List (Poly Mono) → List ℕ → List Bool
line_tests k fs text =
    pointwise (line_true (signals width k.n (names k text)) fs) (lefts k (length (names k text))) (lines k text)

-- the line of the text with the first that is false: the heading, the names and the blank line stand before them
unfoldable pub false_line : Known → List (Poly Mono) → List ℕ → ℕ
false_line k fs text = length (names k text) + 3 + place not (line_tests k fs text)

unfoldable pub lines_said : Known → List (Poly Mono) → List ℕ → Verdict
lines_said k fs text = cond (all (λ b. b) (line_tests k fs text)) whole (broken (false_line k fs text))

-- ---- as the code notes a term
abbrev pub Notes : Type 0
Notes = meaning.Telling

pub record Says (q : Notes) (t : Telling) : Type 0 where
  pub negative : t.negative ≡ q.negative
  pub number : t.number ≡ q.number
  pub a : t.a ≡ q.a
  pub b : t.b ≡ q.b

abbrev pub product_of : Telling → Product
product_of t = record { a = t.a; b = t.b; coefficient = signed t.negative t.number }

-- a saying that makes a term whole, and one that makes a line whole
abbrev pub ends_term : Saying → Bool
ends_term Silence = false
ends_term (Variable v) = false
ends_term Raised = false
ends_term (Digit d) = false
ends_term NameEnds = false
ends_term Minus = false
ends_term (Number v) = false
ends_term (Name s) = false
ends_term Again = false
ends_term TermEnds = true
ends_term LineEnds = true
ends_term ZeroLine = false

abbrev pub ends_line : Saying → Bool
ends_line Silence = false
ends_line (Variable v) = false
ends_line Raised = false
ends_line (Digit d) = false
ends_line NameEnds = false
ends_line Minus = false
ends_line (Number v) = false
ends_line (Name s) = false
ends_line Again = false
ends_line TermEnds = false
ends_line LineEnds = true
ends_line ZeroLine = true

-- the line with the term that a saying makes whole
unfoldable pub with_term : Saying → List Product → Product → List Product
with_term σ line p = cond (ends_term σ) (line ++ (p ∷ [])) line

-- where a term can be added up
pub record Adding (v : Signals) (sums : Sums) (t : Telling) : Type 0 where
  pub fits : Fitting set_exponent (signals_of v)
  pub first : t.a < v.len
  pub second : t.b < v.len
  pub limited : t.number ≤ most_number
  pub bounded : Bounded most_sum sums

-- a readable text whose names are signals
pub record Judging (known : Known) (v : Signals) (text : List ℕ) : Type 0 where
  pub fair : Fair known
  pub few : known.n ≤ width
  pub fits : Fitting set_exponent (signals_of v)
  pub size : v.len ≡ known.n + 1 + length (names known text)
  pub holds : signals_of v ≡ signals width known.n (names known text)
  pub short : length text ≤ most_text
  pub reads : Readable (listing known) text
