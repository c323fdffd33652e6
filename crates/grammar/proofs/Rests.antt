-- What is left of a text at each place of the machine: what is left of a tree, as it is written. Assumes nothing.
use mathlib.Core.Path.{◌≡◌}
use mathlib.Core.Bool.{Bool, cond}
use mathlib.Core.List.{List, [], ◌∷◌, ◌++◌, map}
use Prim.Native.Nat.{ℕ, ◌+◌, ◌≤◌, ◌<◌}
use lib.ListN.{length, drop}
use Rattle.monomial.specs.Lists.{gather}
use Rattle.monomial.specs.Claims.{◌∈◌}
use Rattle.lines.specs.Text.{decimal, joined}
use Rattle.reader.specs.Bytes.{newline, blank, minus, nought}
use Rattle.listing.specs.Bytes.{star, plus, letter_w, letter_x, heading, equals, prime}
use Rattle.listing.specs.Lines.{lefts, left_of, letter_of}
use Rattle.listing.specs.declared.known.Known.{Known}
use Rattle.listing.specs.declared.machine.Reading.{Reading}
use Rattle.listing.specs.declared.machine.Reading.TheVariants.{Dead, Ended, At}
use Rattle.listing.specs.declared.machine.Place.{Place}
use Rattle.listing.specs.declared.machine.Place.TheVariants.{Heading, Names as AtNames, NewName, Equals, Factor as AtFactor, Power, Star, Exponent, Digits, Next, Line, Left, Prime, Right, Zero, Term as AtTerm, Coefficient, First, X1, W1, One, Times, Square, X2, W2, Two, Sign, Gap}
use Rattle.grammar.specs.Grammar.{Factor, Names, Term, signal_text, exponent_text, factor_text, names_text, body_text, next_text, right_text, names_from, lines_from, FactorRight, Signal, NamesRight, TermRight}
use Rattle.grammar.proofs.Terms.{Some}

-- a text is something right, as it is written before an end
pub record Piece {A : Type 0} (write : A → List ℕ → List ℕ) (IsRight : A → Type 0) (End : List ℕ → Type 0) (text : List ℕ) : Type 0 where
  pub what : A
  pub right : IsRight what
  pub end : List ℕ
  pub on : End end
  pub is : text ≡ write what end

-- the rest of a fixed word, from letter v on
abbrev pub Spelled : List ℕ → ℕ → (List ℕ → Type 0) → List ℕ → Type 0
Spelled word v End text = v < length word → Piece {A = Unit {0}} (λ u end. drop v word ++ end) (λ u. Unit {0}) End text

-- what follows the first name of a term
pub data Second : Type 0 where
  nothing : Second
  itself : Second
  another : ℕ → Second

-- a term without its sign
pub record Bare : Type 0 where
  pub coefficient : ℕ
  pub names : Names

abbrev pub signed_by : Bool → Bare → Term
signed_by negative b = record { negative = negative; coefficient = b.coefficient; names = b.names }

module _ (k : Known) where
  -- ---- the second part: the lines from line l on, with i new names
  pub record Lines (i l : ℕ) (text : List ℕ) : Type 0 where
    pub lines : List (List Term)
    pub told : length lines ≡ length (drop l (lefts k i))
    pub terms : (ts : List Term) → ts ∈ lines → (t : Term) → t ∈ ts → TermRight k i t
    pub is : text ≡ lines_from k (drop l (lefts k i)) lines

  abbrev pub second_text : Second → List ℕ
  second_text nothing = []
  second_text itself = star ∷ star ∷ (nought + 2) ∷ []
  second_text (another s) = star ∷ signal_text k s

  abbrev pub bare_text : Bare → List ℕ
  bare_text b = body_text k b.coefficient b.names

  abbrev pub SecondRight : ℕ → Second → Type 0
  SecondRight i nothing = Unit {0}
  SecondRight i itself = Unit {0}
  SecondRight i (another s) = Signal k i s

  module _ (i l : ℕ) where
    -- the terms behind one; a right side
    abbrev pub Terms : List ℕ → Type 0
    Terms = Piece {A = List Term} (λ ts end. gather (next_text k) ts ++ (newline ∷ end)) (λ ts. (t : Term) → t ∈ ts → TermRight k i t) (Lines i (l + 1))

    abbrev pub Sum : List ℕ → Type 0
    Sum = Piece {A = List Term} (λ ts end. right_text k ts ++ (newline ∷ end)) (λ ts. (t : Term) → t ∈ ts → TermRight k i t) (Lines i (l + 1))

    -- of a term what follows its first name; its names; all but its sign
    abbrev pub Seconds : List ℕ → Type 0
    Seconds = Piece {A = Second} (λ q end. second_text q ++ end) (SecondRight i) Terms

    abbrev pub Signals : List ℕ → Type 0
    Signals = Piece {A = Names} (λ m end. names_text k m ++ end) (λ m. Some m × NamesRight k i m) Terms

    abbrev pub Body : List ℕ → Type 0
    Body = Piece {A = Bare} (λ b end. bare_text b ++ end) (λ b. (negative : Bool) → TermRight k i (signed_by negative b)) Terms

  -- ---- the first part: the name lines from number i on, and the second part
  pub record NameLines (i : ℕ) (text : List ℕ) : Type 0 where
    pub names : List (List Factor)
    pub count : ℕ
    pub counts : count ≡ i + length names
    pub few : i ≤ k.cards → count ≤ k.cards
    pub factors : (fs : List Factor) → fs ∈ names → (1 ≤ length fs) × ((f : Factor) → f ∈ fs → FactorRight k f)
    pub end : List ℕ
    pub on : Lines count 0 end
    pub is : text ≡ names_from k i names ++ (newline ∷ end)

  module _ (i : ℕ) where
    -- the factors of a name; those behind one; an exponent and those
    abbrev pub Factors : List ℕ → Type 0
    Factors =
        Piece {A = List Factor} (λ fs end. joined star (map (factor_text k) fs) ++ (newline ∷ end)) (λ fs. (1 ≤ length fs) × ((f : Factor) → f ∈ fs → FactorRight k f))
        (NameLines (i + 1))

    abbrev pub FactorsOn : List ℕ → Type 0
    FactorsOn =
        Piece {A = List Factor} (λ fs end. gather (λ y. star ∷ y) (map (factor_text k) fs) ++ (newline ∷ end)) (λ fs. (f : Factor) → f ∈ fs → FactorRight k f) (NameLines (i + 1))

    abbrev pub Raised : List ℕ → Type 0
    Raised = Piece {A = ℕ} (λ e end. exponent_text k e ++ end) (λ e. Unit {0}) FactorsOn

  -- ---- place by place: in the midst of a piece, with the bytes of it that are read
  abbrev pub RestAt : Place → ℕ → ℕ → ℕ → List ℕ → Type 0
  RestAt Heading i l v text = Spelled heading v (NameLines i) text
  RestAt AtNames i l v text = NameLines i text
  RestAt NewName i l v text = i < k.cards → NameLines i (letter_w ∷ text)
  RestAt Equals i l v text = Spelled equals v (λ end. Factors i (letter_x ∷ end)) text
  RestAt AtFactor i l v text = Factors i (letter_x ∷ text)
  RestAt Power i l v text = Raised i text
  RestAt Star i l v text = Raised i (star ∷ text)
  RestAt Exponent i l v text = Raised i (star ∷ star ∷ text)
  RestAt Digits i l v text = (e : ℕ) → 1 ≤ e → Raised i (star ∷ star ∷ decimal e ++ text)
  RestAt Next i l v text = FactorsOn i (star ∷ text)
  RestAt Line i l v text = l < length (lefts k i) → Lines i l text
  RestAt Left i l v text = l < length (lefts k i) → Lines i l (letter_of k (left_of k i l) ∷ text)
  RestAt Prime i l v text = Spelled prime v (Sum i l) text
  RestAt Right i l v text = Sum i l text
  RestAt Zero i l v text = Sum i l (nought ∷ text)
  RestAt AtTerm i l v text = Body i l text
  RestAt Coefficient i l v text = 1 ≤ v → v ≤ 1000000000 → Body i l (decimal v ++ text)
  RestAt First i l v text = Signals i l text
  RestAt X1 i l v text = Signals i l (letter_x ∷ text)
  RestAt W1 i l v text = 0 < i → Signals i l (letter_w ∷ text)
  RestAt One i l v text = Seconds i l text
  RestAt Times i l v text = Seconds i l (star ∷ text)
  RestAt Square i l v text = Seconds i l (star ∷ star ∷ text)
  RestAt X2 i l v text = Seconds i l (star ∷ letter_x ∷ text)
  RestAt W2 i l v text = 0 < i → Seconds i l (star ∷ letter_w ∷ text)
  RestAt Two i l v text = Terms i l text
  RestAt Sign i l v text = Terms i l (blank ∷ text)
  RestAt Gap i l v text = (negative : Bool) → Terms i l (blank ∷ cond negative minus plus ∷ text)

  abbrev pub Rest : Reading → List ℕ → Type 0
  Rest Dead text = ⊥
  Rest Ended text = text ≡ []
  Rest (At s) text = RestAt s.at s.names s.line s.number text
