-- A term is read, and tells its product. Assumes nothing.
use mathlib.Core.Path.{◌≡◌, refl, ap, ◌∙◌}
use mathlib.Core.Bool.{Bool, true, false, cond}
use mathlib.Core.List.{List, [], ◌∷◌, ◌++◌}
use Prim.Native.Nat.{ℕ, zero, suc, ◌+◌, ◌*◌, ◌-◌, ◌≤◌, ◌<◌}
use native.Mathlib.Omega.{arith}
use borrow.Author.Tests.{lt-ltb, le-leb, ne_eqb, leb-true, leb-false}
use lib.Dec.{leb}
use Rattle.monomial.proofs.Tests.{Tested, passed, failed, test}
use Rattle.lines.specs.Text.{decimal}
use Rattle.reader.specs.Bytes.{newline, blank, minus, nought, nine, longer}
use Rattle.reader.specs.Reader.{run}
use Rattle.listing.specs.Bytes.{star, plus, letter_w, letter_x}
use Rattle.listing.specs.Lines.{letter_of, digit_of}
use Rattle.listing.specs.Machine.{state, one, span, ended, line_from, begin_name, begin_term, behind, in_coefficient, eat_at, eat}
use Rattle.listing.specs.Saying.{minus_said, number_said, term_said, saying_at, saying}
use Rattle.listing.specs.Meaning.{Naming, named, Product, Telling, telling, signed, told}
use Rattle.listing.specs.declared.known.Known.{Known}
use Rattle.listing.specs.declared.machine.Reading.{Reading}
use Rattle.listing.specs.declared.machine.Reading.TheVariants.{Dead, At}
use Rattle.listing.specs.declared.machine.Place.{Place}
use Rattle.listing.specs.declared.machine.Place.TheVariants.{Right, Term as AtTerm, Coefficient, First, X1, W1, One, Times, X2, W2, Two, Sign}
use Rattle.listing.specs.declared.saying.Saying.{Saying}
use Rattle.listing.specs.declared.saying.Saying.TheVariants.{Silence, Number, Name, TermEnds, LineEnds}
use Rattle.listing.proofs.Finishes.{span_hit}
use Rattle.grammar.specs.Grammar.{Names, none, alone, square, both, product_of, signal_text, names_text, body_text, Signal, NamesRight}
use Rattle.grammar.proofs.Noting.{with, at, Eats, then, byte}
use Rattle.grammar.proofs.Digits.{Numbers, reads_number}

-- ---- a name: with i new names, in line l, a signal is read from g on and leads to p
pub record Signals (k : Known) (i l : ℕ) (g : Reading) (p : Place) : Type 0 where
  pub x : Place
  pub w : Place
  pub opens_x : eat k g letter_x ≡ At (state x i l 0)
  pub opens_w : 0 < i → eat k g letter_w ≡ At (state w i l 0)
  pub silent_x : saying k g letter_x ≡ Silence
  pub silent_w : saying k g letter_w ≡ Silence
  pub eats_x : (c : ℕ) → eat k (At (state x i l 0)) c ≡ span c (nought + 1) (nought + k.n) (state x i l 0) p Dead
  pub eats_w : (c : ℕ) → eat k (At (state w i l 0)) c ≡ span c nought (nought + (i - 1)) (state w i l 0) p Dead
  pub says_x : (c : ℕ) → saying k (At (state x i l 0)) c ≡ Name (c - nought)
  pub says_w : (c : ℕ) → saying k (At (state w i l 0)) c ≡ Name (k.n + 1 + (c - nought))

module _ {k : Known} {i l : ℕ} {g : Reading} {p : Place} (r : Signals k i l g p) (n : Naming) (t : Telling) (s : ℕ) where
  variable : 1 ≤ s → s ≤ k.n → Eats k (with g n t) (letter_x ∷ (nought + s) ∷ []) (at p i l 0 n (told (Name s) t))
  unfolding named told
  variable h j =
      let e : nought + s - nought ≡ s = omega arith in
      let to : span (nought + s) (nought + 1) (nought + k.n) (state r.x i l 0) p Dead ≡ At (state p i l 0) =
      span_hit (nought + s) (nought + 1) (nought + k.n) (state r.x i l 0) p Dead (omega arith) (omega arith) in
      then k (byte k letter_x r.opens_x r.silent_x) (byte k (nought + s) (r.eats_x (nought + s) ∙ to) (r.says_x (nought + s) ∙ ap Name e))

  new : k.n < s → s ≤ k.n + i → Eats k (with g n t) (letter_w ∷ (nought + (s - (k.n + 1))) ∷ []) (at p i l 0 n (told (Name s) t))
  unfolding named told
  new h j =
      let c = nought + (s - (k.n + 1)) in
      let e : k.n + 1 + (nought + (s - (k.n + 1)) - nought) ≡ s = omega arith in
      let to : span c nought (nought + (i - 1)) (state r.w i l 0) p Dead ≡ At (state p i l 0) =
      span_hit c nought (nought + (i - 1)) (state r.w i l 0) p Dead (omega arith) (omega arith) in
      then k (byte k letter_w (r.opens_w (omega arith)) r.silent_w) (byte k c (r.eats_w c ∙ to) (r.says_w c ∙ ap Name e))

  pub signal : Signal k i s → Eats k (with g n t) (signal_text k s) (at p i l 0 n (told (Name s) t))
  unfolding letter_of digit_of
  signal h = go (test (leb s k.n))
    where
      go : Tested (leb s k.n) → Eats k (with g n t) (signal_text k s) (at p i l 0 n (told (Name s) t))
      go (passed e) = rw e (variable h.0 (leb-true s k.n e))
      go (failed e) = rw e (new (leb-false s k.n e) h.1)

-- ---- where a name may begin, and where a coefficient may
pub record Begins (k : Known) (i l : ℕ) (g : Reading) : Type 0 where
  pub signals : Signals k i l g One
  pub eats : (d : ℕ) → 1 ≤ d → d ≤ 9 → eat k g (nought + d) ≡ At (state Coefficient i l d)
  pub says : (d : ℕ) → d ≤ 9 → saying k g (nought + d) ≡ Number d

module _ (k : Known) (i l : ℕ) where
  -- the first name of a term
  one_signals : (g : Reading) → eat k g letter_x ≡ At (state X1 i l 0) → (0 < i → eat k g letter_w ≡ At (state W1 i l 0)) → saying k g letter_x ≡ Silence → saying k g letter_w ≡ Silence → Signals k i l g One
  unfolding eat eat_at saying saying_at
  one_signals g x w sx sw = record {
    x = X1;
    w = W1;
    opens_x = x;
    opens_w = w;
    silent_x = sx;
    silent_w = sw;
    eats_x = λ c. refl;
    eats_w = λ c. refl;
    says_x = λ c. refl;
    says_w = λ c. refl;
  }

  first_signals : Signals k i l (At (state First i l 0)) One
  unfolding eat eat_at begin_name one saying saying_at
  first_signals = one_signals (At (state First i l 0)) refl (λ h. rw (lt-ltb 0 i h)) refl refl

  second_signals : Signals k i l (At (state Times i l 0)) Two
  unfolding eat eat_at begin_name one saying saying_at
  second_signals = record {
    x = X2;
    w = W2;
    opens_x = refl;
    opens_w = λ h. rw (lt-ltb 0 i h);
    silent_x = refl;
    silent_w = refl;
    eats_x = λ c. refl;
    eats_w = λ c. refl;
    says_x = λ c. refl;
    says_w = λ c. refl;
  }

  -- a digit of a coefficient
  number-said : (v d : ℕ) (other : Saying) → d ≤ 9 → number_said v (nought + d) other ≡ Number (10 * v + d)
  unfolding number_said
  number-said v d other j =
      let e : 10 * v + (nought + d - nought) ≡ 10 * v + d = omega arith in
      rw (le-leb nought (nought + d) (omega arith), le-leb (nought + d) nine (omega arith)) (ap Number e)

  first_said : (d : ℕ) (other : Saying) → d ≤ 9 → number_said 0 (nought + d) other ≡ Number d
  first_said d other j = let e : 10 * 0 + d ≡ d = omega arith in number-said 0 d other j ∙ ap Number e

  begun : (p : Place) (d : ℕ) → 1 ≤ d → d ≤ 9 → begin_term (nought + d) (state p i l 0) ≡ At (state Coefficient i l d)
  unfolding begin_term
  begun p d h j =
      let e : nought + d - nought ≡ d = omega arith in
      rw (le-leb (nought + 1) (nought + d) (omega arith), le-leb (nought + d) nine (omega arith)) (ap (λ v. At (state Coefficient i l v)) e)

  -- the two places where a term begins: behind a sign, and at the start of a right side
  pub term_begins : Begins k i l (At (state AtTerm i l 0))
  unfolding eat eat_at begin_term begin_name one saying saying_at number_said
  term_begins = record {
    signals = one_signals (At (state AtTerm i l 0)) refl (λ h. rw (lt-ltb 0 i h)) refl refl;
    eats = begun AtTerm;
    says = λ d j. first_said d Silence j;
  }

  right_eats : (d : ℕ) → 1 ≤ d → d ≤ 9 → eat k (At (state Right i l 0)) (nought + d) ≡ At (state Coefficient i l d)
  unfolding eat eat_at one
  right_eats d h j = rw (ne_eqb (nought + d) nought (omega arith), ne_eqb (nought + d) minus (omega arith)) (begun Right d h j)

  right_says : (d : ℕ) → d ≤ 9 → saying k (At (state Right i l 0)) (nought + d) ≡ Number d
  unfolding saying saying_at minus_said
  right_says d j = rw (ne_eqb (nought + d) minus (omega arith)) (first_said d Silence j)

  pub right_begins : Begins k i l (At (state Right i l 0))
  unfolding eat eat_at begin_term begin_name one saying saying_at minus_said number_said
  right_begins = record {
    signals = one_signals (At (state Right i l 0)) refl (λ h. rw (lt-ltb 0 i h)) refl refl;
    eats = right_eats;
    says = right_says;
  }

-- ---- behind a term
-- the place, and the number that is kept there
abbrev pub place_of : Names → Place
place_of none = Coefficient
place_of (alone s) = One
place_of (square s) = Two
place_of (both r s) = Two

abbrev pub number_of : ℕ → Names → ℕ
number_of c none = c
number_of c (alone s) = 0
number_of c (square s) = 0
number_of c (both r s) = 0

-- the two signals
abbrev pub first_of : Names → ℕ
first_of none = 0
first_of (alone s) = 0
first_of (square s) = s
first_of (both r s) = r

abbrev pub second_of : Names → ℕ
second_of none = 0
second_of (alone s) = s
second_of (square s) = s
second_of (both r s) = s

-- there is one at least
abbrev pub Some : Names → Type 0
Some none = ⊥
Some (alone s) = Unit {0}
Some (square s) = Unit {0}
Some (both r s) = Unit {0}

pub product_is : (negative : Bool) (c : ℕ) (m : Names)
    → product_of (record { negative = negative; coefficient = c; names = m }) ≡ record { a = first_of m; b = second_of m; coefficient = signed negative c }
unfolding product_of
product_is negative c none = refl
product_is negative c (alone s) = refl
product_is negative c (square s) = refl
product_is negative c (both r s) = refl

-- ---- a term without its sign
module _ (k : Known) (i l : ℕ) (n : Naming) (lines : List (List Product)) (terms : List Product) (negative : Bool) where
  abbrev so : ℕ → ℕ → ℕ → Telling
  so c a b = telling lines terms negative c a b

  -- names
  squared : (c s : ℕ) → Eats k (at One i l 0 n (so c 0 s)) (star ∷ star ∷ (nought + 2) ∷ []) (at Two i l 0 n (so c s s))
  unfolding run eat eat_at one saying saying_at term_said named told
  squared c s = record { is = refl }

  times : (c s : ℕ) → Eats k (at One i l 0 n (so c 0 s)) (star ∷ []) (at Times i l 0 n (so c 0 s))
  unfolding run eat eat_at one saying saying_at term_said named told
  times c s = record { is = refl }

  named_first : (c s : ℕ) {g : Reading} → Signals k i l g One → Signal k i s → Eats k (with g n (so c 0 0)) (signal_text k s) (at One i l 0 n (so c 0 s))
  unfolding told
  named_first c s r h = signal r n (so c 0 0) s h

  named_second : (c r s : ℕ) → Signal k i s → Eats k (at Times i l 0 n (so c 0 r)) (signal_text k s) (at Two i l 0 n (so c r s))
  unfolding told
  named_second c r s h = signal (second_signals k i l) n (so c 0 r) s h

  -- the coefficient
  module _ {g : Reading} (b : Begins k i l g) where
    number_first : (d : ℕ) → 1 ≤ d → d ≤ 9 → Eats k (with g n (so 0 0 0)) ((nought + d) ∷ []) (at Coefficient i l d n (so d 0 0))
    unfolding named told
    number_first d h j = byte k (nought + d) (b.eats d h j) (b.says d j)

  coefficient_eats : (v d : ℕ) → d ≤ 9 → 10 * v + d ≤ 1000000000 → eat k (At (state Coefficient i l v)) (nought + d) ≡ At (state Coefficient i l (10 * v + d))
  unfolding eat eat_at in_coefficient
  coefficient_eats v d j h =
      let e : longer v (nought + d) ≡ 10 * v + d = omega arith in
      rw (le-leb nought (nought + d) (omega arith), le-leb (nought + d) nine (omega arith), le-leb (longer v (nought + d)) 1000000000 (omega arith))
      (ap (λ u. At (state Coefficient i l u)) e)

  number_next : (v d : ℕ) → d ≤ 9 → 10 * v + d ≤ 1000000000
      → Eats k (at Coefficient i l v n (so v 0 0)) ((nought + d) ∷ []) (at Coefficient i l (10 * v + d) n (so (10 * v + d) 0 0))
  unfolding saying saying_at named told
  number_next v d j h = byte k (nought + d) (coefficient_eats v d j h) (number-said k i l v d (term_said (nought + d)) j)

  numbers : {g : Reading} → Begins k i l g → Numbers k (with g n (so 0 0 0)) (λ v. at Coefficient i l v n (so v 0 0)) 1000000000
  numbers b = record { first = number_first b; next = number_next }

  -- and the star between the two
  starred : (c : ℕ) → Eats k (at Coefficient i l c n (so c 0 0)) (star ∷ []) (at First i l 0 n (so c 0 0))
  unfolding run eat eat_at in_coefficient one saying saying_at number_said term_said named told
  starred c = record { is = refl }

  -- names from a place where they may begin, and a coefficient in front of them
  names : (c : ℕ) (m : Names) {g : Reading} → Signals k i l g One → Some m → NamesRight k i m
      → Eats k (with g n (so c 0 0)) (names_text k m) (at (place_of m) i l (number_of c m) n (so c (first_of m) (second_of m)))
  unfolding names_text
  names c none r some h = absurd some
  names c (alone s) r some h = named_first c s r h
  names c (square s) r some h = then k (named_first c s r h) (squared c s)
  names c (both s t) r some h = then k (named_first c s r h.0) (then k (times c s) (named_second c s t h.1))

  counted : (c : ℕ) (m : Names) {g : Reading} → Begins k i l g → suc c ≤ 1000000000 → Some m → NamesRight k i m
      → Eats k (with g n (so 0 0 0)) (decimal (suc c) ++ (star ∷ names_text k m)) (at (place_of m) i l (number_of (suc c) m) n (so (suc c) (first_of m) (second_of m)))
  counted c m b j some h = then k (reads_number (numbers b) (suc c) (omega arith) j) (then k (starred (suc c)) (names (suc c) m (first_signals k i l) some h))

  pub body : (c : ℕ) (m : Names) {g : Reading} → Begins k i l g → (m ≡ none → 1 ≤ c) → c ≤ 1000000000 → NamesRight k i m
      → Eats k (with g n (so 0 0 0)) (body_text k c m) (at (place_of m) i l (number_of c m) n (so c (first_of m) (second_of m)))
  unfolding body_text
  body zero none b some j h = absurd (omega (arith, some refl))
  body zero (alone s) b some j h = names 0 (alone s) b.signals tt h
  body zero (square s) b some j h = names 0 (square s) b.signals tt h
  body zero (both s t) b some j h = names 0 (both s t) b.signals tt h
  body (suc c) none b some j h = reads_number (numbers b) (suc c) (omega arith) j
  body (suc c) (alone s) b some j h = counted c (alone s) b j tt h
  body (suc c) (square s) b some j h = counted c (square s) b j tt h
  body (suc c) (both s t) b some j h = counted c (both s t) b j tt h

-- ---- what follows a term: a space and the next one's sign, or the line's end
module _ (k : Known) (i l : ℕ) (n : Naming) where
  pub blank_behind : (c : ℕ) (m : Names) (t : Telling) → Eats k (at (place_of m) i l (number_of c m) n t) (blank ∷ []) (at Sign i l 0 n (told TermEnds t))
  unfolding run eat eat_at in_coefficient behind one saying saying_at number_said term_said named
  blank_behind c none t = record { is = refl }
  blank_behind c (alone s) t = record { is = refl }
  blank_behind c (square s) t = record { is = refl }
  blank_behind c (both r s) t = record { is = refl }

  pub newline_behind : (c : ℕ) (m : Names) (t : Telling) → Eats k (at (place_of m) i l (number_of c m) n t) (newline ∷ []) (with (line_from k i (l + 1)) n (told LineEnds t))
  unfolding run eat eat_at in_coefficient behind one ended saying saying_at number_said term_said named
  newline_behind c none t = record { is = refl }
  newline_behind c (alone s) t = record { is = refl }
  newline_behind c (square s) t = record { is = refl }
  newline_behind c (both r s) t = record { is = refl }

  pub signed_next : (negative : Bool) (lines : List (List Product)) (terms : List Product)
      → Eats k (at Sign i l 0 n (telling lines terms false 0 0 0)) (cond negative minus plus ∷ blank ∷ []) (at AtTerm i l 0 n (telling lines terms negative 0 0 0))
  unfolding run eat eat_at one saying saying_at minus_said named told
  signed_next true lines terms = record { is = refl }
  signed_next false lines terms = record { is = refl }
