-- A number that is no byte leads nowhere: place by place, from what each step says of it. Assumes nothing.
use mathlib.Core.Path.{◌≡◌, refl}
use mathlib.Core.Bool.{Bool, true, ◌&&◌}
use mathlib.Core.List.{List, [], ◌∷◌}
use Prim.Native.Nat.{ℕ, zero, suc, ◌+◌, ◌-◌, ◌≤◌, ◌<◌}
use native.Mathlib.Omega.{arith}
use lib.Dec.{T, leb, ltb, leb→le}
use lib.ListN.{get_or}
use borrow.Author.Tests.{ne_eqb}
use Rattle.monomial.proofs.Tests.{and_l, and_r, cond_cases}
use Rattle.reader.specs.Bytes.{newline, blank, minus, nought, nine, longer, goes_longer}
use Rattle.listing.specs.Bytes.{star, plus, letter_w, letter_x, heading, equals, prime}
use Rattle.listing.specs.Lines.{left_of}
use Rattle.listing.specs.Held.{Fair, Stands}
use Rattle.listing.specs.Machine.{state, to, one, span, ended, spell, begin_name, begin_term, behind, in_coefficient, begin_line, eat_at, eat}
use Rattle.listing.specs.declared.known.Known.{Known}
use Rattle.listing.specs.declared.machine.State.{State}
use Rattle.listing.specs.declared.machine.Reading.{Reading}
use Rattle.listing.specs.declared.machine.Reading.TheVariants.{Dead, Ended, At}
use Rattle.listing.specs.declared.machine.Place.{Place}
use Rattle.listing.specs.declared.machine.Place.TheVariants.{Heading, Names, NewName, Equals, Factor, Power, Star, Exponent, Digits, Next, Line, Left, Prime, Right, Zero, Term, Coefficient, First, X1, W1, One, Times, Square, X2, W2, Two, Sign, Gap}
use Rattle.listing.proofs.lines.Laws.{letter_byte, digit_byte}

-- ---- the fixed words are of bytes
abbrev bytes : List ℕ → Bool
bytes [] = true
bytes (b ∷ word) = leb b 255 && bytes word

byte_at : (word : List ℕ) → T (bytes word) → (i : ℕ) → get_or word i 0 < 256
byte_at [] t i = omega arith
byte_at (b ∷ word) t zero = let h = leb→le b 255 (and_l (leb b 255) (bytes word) t) in omega arith
byte_at (b ∷ word) t (suc i) = byte_at word (and_r (leb b 255) (bytes word) t) i

-- ---- step by step
module _ (x : ℕ) (wide : 256 ≤ x) where
  one_wide : (c : ℕ) (s : State) (p : Place) (other : Reading) → c < 256 → other ≡ Dead → one x c s p other ≡ Dead
  unfolding one
  one_wide c s p other h e = rw (ne_eqb x c (omega arith)) e

  span_wide : (low high : ℕ) (s : State) (p : Place) (other : Reading) → high < 256 → other ≡ Dead → span x low high s p other ≡ Dead
  unfolding span
  span_wide low high s p other h e =
      cond_cases (λ g. g ≡ Dead) (leb low x && leb x high) (to s p) other
      (λ t. absurd (let i = leb→le x high (and_r (leb low x) (leb x high) t) in omega arith)) (λ u. e)

  ended_wide : (go other : Reading) → other ≡ Dead → ended x go other ≡ Dead
  unfolding ended
  ended_wide go other e = rw (ne_eqb x newline (omega arith)) e

  spell_wide : (word : List ℕ) → T (bytes word) → (s : State) (done : Reading) → spell word x s done ≡ Dead
  unfolding spell
  spell_wide word t s done = let h = byte_at word t s.number in rw (ne_eqb x (get_or word s.number 0) (omega arith))

  name_wide : (s : State) (p q : Place) → begin_name x s p q ≡ Dead
  unfolding begin_name
  name_wide s p q =
      one_wide letter_x s p _ (omega arith)
      (cond_cases (λ g. g ≡ Dead) (ltb 0 s.names) (one x letter_w s q Dead) Dead (λ t. one_wide letter_w s q Dead (omega arith) refl) (λ u. refl))

  term_wide : (s : State) → begin_term x s ≡ Dead
  unfolding begin_term
  term_wide s =
      cond_cases (λ g. g ≡ Dead) (leb (nought + 1) x && leb x nine) (At (state Coefficient s.names s.line (x - nought))) (begin_name x s X1 W1)
      (λ t. absurd (let i = leb→le x nine (and_r (leb (nought + 1) x) (leb x nine) t) in omega arith)) (λ u. name_wide s X1 W1)

  module _ (r : Known) (s : State) where
    behind_wide : behind r x s ≡ Dead
    unfolding behind
    behind_wide = one_wide blank s Sign _ (omega arith) (ended_wide _ Dead refl)

    coefficient_wide : in_coefficient r x s ≡ Dead
    unfolding in_coefficient
    coefficient_wide =
        cond_cases (λ g. g ≡ Dead) (goes_longer 1000000000 s.number x) (At (state Coefficient s.names s.line (longer s.number x))) _
        (λ t. absurd (let i = leb→le x nine (and_l (leb x nine) (leb (longer s.number x) 1000000000) (and_r (leb nought x) _ t)) in omega arith))
        (λ u. one_wide star s First _ (omega arith) behind_wide)

    line_wide : begin_line r x s ≡ Dead
    unfolding begin_line
    line_wide =
        ended_wide _ _
        (cond_cases (λ g. g ≡ Dead) (ltb s.names r.cards) (one x letter_w s NewName Dead) Dead (λ t. one_wide letter_w s NewName Dead (omega arith) refl) (λ u. refl))

  -- ---- place by place
  module _ (r : Known) (few : r.n ≤ 9) (k l v : ℕ) (low : k ≤ 9) where
    wide_at : (p : Place) → eat_at r x (state p k l v) p ≡ Dead
    unfolding eat_at
    wide_at Heading = spell_wide heading tt (state Heading k l v) _
    wide_at Names = line_wide r (state Names k l v)
    wide_at NewName = one_wide (nought + k) (state NewName k l v) Equals Dead (omega arith) refl
    wide_at Equals = spell_wide equals tt (state Equals k l v) _
    wide_at Factor = span_wide _ (nought + r.n) (state Factor k l v) Power Dead (omega arith) refl
    wide_at Power = one_wide star (state Power k l v) Star _ (omega arith) (ended_wide _ Dead refl)
    wide_at Star = one_wide star (state Star k l v) Exponent _ (omega arith) (one_wide letter_x (state Star k l v) Factor Dead (omega arith) refl)
    wide_at Exponent = span_wide _ nine (state Exponent k l v) Digits Dead (omega arith) refl
    wide_at Digits =
        span_wide _ nine (state Digits k l v) Digits _ (omega arith) (one_wide star (state Digits k l v) Next _ (omega arith) (ended_wide _ Dead refl))
    wide_at Next = one_wide letter_x (state Next k l v) Factor Dead (omega arith) refl
    wide_at Line = one_wide _ (state Line k l v) Left Dead (letter_byte r (left_of r k l)) refl
    wide_at Left = one_wide _ (state Left k l v) Prime Dead (digit_byte r k l few (omega arith)) refl
    wide_at Prime = spell_wide prime tt (state Prime k l v) _
    wide_at Right = one_wide nought (state Right k l v) Zero _ (omega arith) (one_wide minus (state Right k l v) Term _ (omega arith) (term_wide (state Right k l v)))
    wide_at Zero = ended_wide _ Dead refl
    wide_at Term = term_wide (state Term k l v)
    wide_at Coefficient = coefficient_wide r (state Coefficient k l v)
    wide_at First = name_wide (state First k l v) X1 W1
    wide_at X1 = span_wide _ (nought + r.n) (state X1 k l v) One Dead (omega arith) refl
    wide_at W1 = span_wide _ (nought + (k - 1)) (state W1 k l v) One Dead (omega arith) refl
    wide_at One = one_wide star (state One k l v) Times _ (omega arith) (behind_wide r (state One k l v))
    wide_at Times = one_wide star (state Times k l v) Square _ (omega arith) (name_wide (state Times k l v) X2 W2)
    wide_at Square = one_wide (nought + 2) (state Square k l v) Two Dead (omega arith) refl
    wide_at X2 = span_wide _ (nought + r.n) (state X2 k l v) Two Dead (omega arith) refl
    wide_at W2 = span_wide _ (nought + (k - 1)) (state W2 k l v) Two Dead (omega arith) refl
    wide_at Two = behind_wide r (state Two k l v)
    wide_at Sign = one_wide plus (state Sign k l v) Gap _ (omega arith) (one_wide minus (state Sign k l v) Gap Dead (omega arith) refl)
    wide_at Gap = one_wide blank (state Gap k l v) Term Dead (omega arith) refl

-- in no state that the machine comes to
pub wide_dead : (r : Known) (g : Reading) (x : ℕ) → Fair r → Stands r g → 256 ≤ x → eat r g x ≡ Dead
unfolding eat
wide_dead r Dead x fair h wide = refl
wide_dead r Ended x fair h wide = refl
wide_dead r (At s) x fair h wide = wide_at x wide r fair.few s.names s.line s.number (omega (arith, h.names, fair.low)) s.at
