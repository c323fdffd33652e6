-- The grammar of a listing: a tree, and the text that it is written as. Assumes nothing.
use Rattle.std.specs.Prelude.{◌≡◌, Bool, cond, List, [], ◌∷◌, ◌++◌, map, ℕ, zero, suc, ◌+◌, ◌-◌, ◌≤◌, eqb, length, get_or, set}
use Rattle.monomial.specs.Lists.{gather}
use Rattle.monomial.specs.Monomial.{Mono, one, width}
use Rattle.monomial.specs.Claims.{◌∈◌}
use Rattle.lines.specs.Text.{decimal, joined}
use Rattle.reader.specs.Bytes.{newline, blank, minus, nought}
use Rattle.listing.specs.Bytes.{star, plus, letter_w, letter_x, heading, prime}
use Rattle.listing.specs.Lines.{lefts, letter_of, digit_of}
use Rattle.listing.specs.Meaning.{Product, signed}
use Rattle.listing.specs.declared.known.Known.{Known}

-- a variable, from 1, and its exponent; 0 where none is written
pub record Factor : Type 0 where
  pub variable : ℕ
  pub exponent : ℕ

-- at most two names, each by its signal number
pub data Names : Type 0 where
  none : Names
  alone : ℕ → Names
  square : ℕ → Names
  both : ℕ → ℕ → Names

-- a sign, a coefficient (0 where none is written) and names
pub record Term : Type 0 where
  pub negative : Bool
  pub coefficient : ℕ
  pub names : Names

-- the powers of each new name, and the terms of each line, which is a lone 0 where it has none
pub record Tree : Type 0 where
  pub names : List (List Factor)
  pub lines : List (List Term)

-- ---- what it means
-- the powers of a name, one after the other
unfoldable pub raised_by : Mono → List Factor → Mono
raised_by m [] = m
raised_by m (f ∷ fs) =
    raised_by (set m (f.variable - 1) (get_or m (f.variable - 1) 0 + cond (eqb f.exponent 0) 1 f.exponent)) fs

abbrev pub monomial_of : List Factor → Mono
monomial_of fs = raised_by (one width) fs

unfoldable pub product_of : Term → Product
product_of t = named t.names
  where
    named : Names → Product
    named none = record { a = 0; b = 0; coefficient = signed t.negative t.coefficient }
    named (alone s) = record { a = 0; b = s; coefficient = signed t.negative t.coefficient }
    named (square s) = record { a = s; b = s; coefficient = signed t.negative t.coefficient }
    named (both r s) = record { a = r; b = s; coefficient = signed t.negative t.coefficient }

module _ (k : Known) where
  -- ---- as it is written
  abbrev pub signal_text : ℕ → List ℕ
  signal_text s = letter_of k s ∷ digit_of k s ∷ []

  unfoldable pub exponent_text : ℕ → List ℕ
  exponent_text e = cond (eqb e 0) [] (star ∷ star ∷ decimal e)

  unfoldable pub factor_text : Factor → List ℕ
  factor_text f = letter_x ∷ (nought + f.variable) ∷ exponent_text f.exponent

  unfoldable pub name_text : ℕ → List Factor → List ℕ
  name_text i fs = letter_w ∷ (nought + i) ∷ blank ∷ 61 ∷ blank ∷ joined star (map factor_text fs) ++ (newline ∷ [])

  unfoldable pub names_text : Names → List ℕ
  names_text none = []
  names_text (alone s) = signal_text s
  names_text (square s) = signal_text s ++ (star ∷ star ∷ (nought + 2) ∷ [])
  names_text (both s t) = signal_text s ++ (star ∷ signal_text t)

  -- a coefficient, names, or a star between the two
  unfoldable pub body_text : ℕ → Names → List ℕ
  body_text zero m = names_text m
  body_text (suc c) none = decimal (suc c)
  body_text (suc c) (alone s) = decimal (suc c) ++ (star ∷ names_text (alone s))
  body_text (suc c) (square s) = decimal (suc c) ++ (star ∷ names_text (square s))
  body_text (suc c) (both s t) = decimal (suc c) ++ (star ∷ names_text (both s t))

  -- the first term, and each that follows
  unfoldable pub first_text : Term → List ℕ
  first_text t = cond t.negative (minus ∷ []) [] ++ body_text t.coefficient t.names

  unfoldable pub next_text : Term → List ℕ
  next_text t = blank ∷ cond t.negative minus plus ∷ blank ∷ body_text t.coefficient t.names

  unfoldable pub right_text : List Term → List ℕ
  right_text [] = nought ∷ []
  right_text (t ∷ ts) = first_text t ++ gather next_text ts

  unfoldable pub line_text : ℕ → List Term → List ℕ
  line_text s ts = signal_text s ++ prime ++ right_text ts ++ (newline ∷ [])

  -- the lines of the first part from name number i on, and those of the second for the signals that have one
  unfoldable pub names_from : ℕ → List (List Factor) → List ℕ
  names_from i [] = []
  names_from i (fs ∷ l) = name_text i fs ++ names_from (i + 1) l

  unfoldable pub lines_from : List ℕ → List (List Term) → List ℕ
  lines_from [] l = []
  lines_from (s ∷ ss) [] = []
  lines_from (s ∷ ss) (ts ∷ l) = line_text s ts ++ lines_from ss l

  unfoldable pub text : Tree → List ℕ
  text t = heading ++ names_from 0 t.names ++ (newline ∷ lines_from (lefts k (length t.names)) t.lines)

  -- ---- which trees there are
  -- a variable that there is
  pub record FactorRight (f : Factor) : Type 0 where
    pub low : 1 ≤ f.variable
    pub high : f.variable ≤ k.n

  -- a signal other than 1, with so many new names
  abbrev pub Signal : ℕ → ℕ → Type 0
  Signal count s = (1 ≤ s) × (s ≤ k.n + count)

  abbrev pub NamesRight : ℕ → Names → Type 0
  NamesRight count none = Unit {0}
  NamesRight count (alone s) = Signal count s
  NamesRight count (square s) = Signal count s
  NamesRight count (both s t) = Signal count s × Signal count t

  -- a coefficient of at most 1,000,000,000, which is written where there is no name
  pub record TermRight (count : ℕ) (t : Term) : Type 0 where
    pub some : t.names ≡ none → 1 ≤ t.coefficient
    pub limited : t.coefficient ≤ 1000000000
    pub names : NamesRight count t.names

  pub record TreeRight (t : Tree) : Type 0 where
    pub few : length t.names ≤ k.cards
    pub factors : (fs : List Factor) → fs ∈ t.names → (1 ≤ length fs) × ((f : Factor) → f ∈ fs → FactorRight f)
    pub told : length t.lines ≡ length (lefts k (length t.names))
    pub terms : (ts : List Term) → ts ∈ t.lines → (x : Term) → x ∈ ts → TermRight (length t.names) x
