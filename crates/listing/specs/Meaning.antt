-- What a listing means: the monomials of its new names, and the products of each line, as its bytes say them one after the other. Assumes nothing.
use Rattle.std.specs.Prelude.{Bool, true, false, List, [], ◌∷◌, ◌++◌, ℕ, zero, suc, ◌+◌, ◌*◌, ℤ, pos, negsuc, get_or, set}
use Rattle.monomial.specs.Monomial.{Mono, one, width}
use Rattle.reader.specs.Reader.{heard, noted}
use Rattle.listing.specs.Machine.{start}
use Rattle.listing.specs.Readable.{listing}
use Rattle.listing.specs.Saying.{saying}
use Rattle.listing.specs.declared.known.Known.{Known}
use Rattle.listing.specs.declared.saying.Saying.{Saying}
use Rattle.listing.specs.declared.saying.Saying.TheVariants.{Silence, Variable, Raised, Digit, NameEnds, Minus, Number, Name, Again, TermEnds, LineEnds, ZeroLine}

-- ---- the first part: the monomials that are whole; of the one that is read the powers that are, and then a variable, from 0, with its power so far
pub record Naming : Type 0 where
  pub whole : List Mono
  pub mono : Mono
  pub variable : ℕ
  pub power : ℕ

abbrev pub naming : List Mono → Mono → ℕ → ℕ → Naming
naming whole mono variable power = record { whole = whole; mono = mono; variable = variable; power = power }

-- the monomial with that power
abbrev pub closed : Naming → Mono
closed k = set k.mono k.variable (get_or k.mono k.variable 0 + k.power)

unfoldable pub named : Saying → Naming → Naming
named Silence k = k
named (Variable v) k = naming k.whole (closed k) v 1
named Raised k = naming k.whole k.mono k.variable 0
named (Digit d) k = naming k.whole k.mono k.variable (10 * k.power + d)
named NameEnds k = naming (k.whole ++ (closed k ∷ [])) (one width) 0 0
named Minus k = k
named (Number v) k = k
named (Name s) k = k
named Again k = k
named TermEnds k = k
named LineEnds k = k
named ZeroLine k = k

abbrev pub unnamed : Naming
unnamed = naming [] (one width) 0 0

-- ---- the second part
-- a coefficient times the product of two signals; signal 0 is 1
pub record Product : Type 0 where
  pub a : ℕ
  pub b : ℕ
  pub coefficient : ℤ

-- the lines and the terms that are whole; of the term that is read its sign, its coefficient (0 where none is written) and its signals
pub record Telling : Type 0 where
  pub lines : List (List Product)
  pub terms : List Product
  pub negative : Bool
  pub number : ℕ
  pub a : ℕ
  pub b : ℕ

abbrev pub telling : List (List Product) → List Product → Bool → ℕ → ℕ → ℕ → Telling
telling lines terms negative number a b = record { lines = lines; terms = terms; negative = negative; number = number; a = a; b = b }

-- a coefficient with its sign; 1 where none is written
unfoldable pub signed : Bool → ℕ → ℤ
signed true zero = negsuc 0
signed true (suc v) = negsuc v
signed false zero = pos 1
signed false (suc v) = pos (suc v)

abbrev pub term : Telling → Product
term t = record { a = t.a; b = t.b; coefficient = signed t.negative t.number }

unfoldable pub told : Saying → Telling → Telling
told Silence t = t
told (Variable v) t = t
told Raised t = t
told (Digit d) t = t
told NameEnds t = t
told Minus t = telling t.lines t.terms true t.number t.a t.b
told (Number v) t = telling t.lines t.terms t.negative v t.a t.b
told (Name s) t = telling t.lines t.terms t.negative t.number t.b s
told Again t = telling t.lines t.terms t.negative t.number t.b t.b
told TermEnds t = telling t.lines (t.terms ++ (term t ∷ [])) false 0 0 0
told LineEnds t = telling (t.lines ++ ((t.terms ++ (term t ∷ [])) ∷ [])) [] false 0 0 0
told ZeroLine t = telling (t.lines ++ (t.terms ∷ [])) [] false 0 0 0

abbrev pub untold : Telling
untold = telling [] [] false 0 0 0

-- ---- of a text: the monomials of w0, w1, .., and the products of each line, in the order of the lines
abbrev pub names : Known → List ℕ → List Mono
names r text = (noted named unnamed (heard (listing r) (saying r) start text)).whole

abbrev pub lines : Known → List ℕ → List (List Product)
lines r text = (noted told untold (heard (listing r) (saying r) start text)).lines
