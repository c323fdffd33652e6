-- A word is read byte by byte: what a digit adds, and where a word stops being a number. Assumes nothing.
use Rattle.std.proofs.Common.{◌≡◌, ℕ, ◌+◌, ◌-◌, ◌*◌, ◌<◌, ◌≤◌, Bool, true, false, cond, ◌&&◌, ltb, List, [], ◌∷◌, length, get_or, drop, sym, refl, ap, ◌∙◌, add-one, arith, drop_of_length-le, drop-cons, ltb-false, ltb-true, le-ltb, lt-ltb, le-leb}
use borrow.Author.Tests.{lt-leb}
use Rattle.monomial.specs.Lists.{some, all}
use Rattle.monomial.proofs.Tests.{Tested, passed, failed, test}
use Rattle.lines.specs.Number.{is_digit, extended, number_from, number_of}
use Rattle.std.specs.Prelude.{Option, Some, None, SomeIff}
use Rattle.lines.specs.Claims.{bound}

abbrev pub longer : ℕ → ℕ → ℕ
longer v x = 10 * v + (x - 48)

pub digit_low : (x : ℕ) → x < 48 → is_digit x ≡ false
digit_low x h = rw (lt-leb 48 x h)

pub digit_high : (x : ℕ) → 48 ≤ x → 57 < x → is_digit x ≡ false
digit_high x l h = rw (le-leb 48 x l, lt-leb x 57 h)

pub digit_is : (x : ℕ) → 48 ≤ x → x ≤ 57 → is_digit x ≡ true
digit_is x l h = rw (le-leb 48 x l, le-leb x 57 h)

pub extended_least : (v : ℕ) (word : List ℕ) → v ≤ extended v word
unfolding extended
extended_least v [] = omega arith
extended_least v (x ∷ word) = omega (arith, extended_least (longer v x) word)

-- ---- what is read behind v
module _ (v : ℕ) where
  pub from_other : (x : ℕ) (word : List ℕ) → is_digit x ≡ false → number_from v (x ∷ word) ≡ None
  unfolding number_from all
  from_other x word e = rw e

  pub from_digit : (x : ℕ) (word : List ℕ) → is_digit x ≡ true → number_from v (x ∷ word) ≡ number_from (longer v x) word
  unfolding number_from all extended
  from_digit x word e = rw e

  pub from_none : v < bound → number_from v [] ≡ Some v
  unfolding number_from all extended
  from_none h = rw (lt-ltb v bound h)

  pub from_large : (word : List ℕ) → bound ≤ v → number_from v word ≡ None
  unfolding number_from
  from_large word h = go (all is_digit word)
    where
      large : ltb (extended v word) bound ≡ false
      large = le-ltb (extended v word) bound (omega (arith, extended_least v word))

      go : (b : Bool) → cond (b && ltb (extended v word) bound) (Some (extended v word)) None ≡ None
      go true = rw large
      go false = refl

-- ---- one more byte: the word goes on behind the number that it makes, or is no number
data Byte (v x : ℕ) (r : Option ℕ) : Type 0 where
  digit : is_digit x ≡ true → longer v x < bound → r ≡ Some (longer v x) → Byte v x r
  other : ((word : List ℕ) → number_from v (x ∷ word) ≡ None) → r ≡ None → Byte v x r

byte : (v x : ℕ) → Byte v x (number_from v (x ∷ []))
byte v x = go (test (is_digit x))
  where
    sized : is_digit x ≡ true → Tested (ltb (longer v x) bound) → Byte v x (number_from v (x ∷ []))
    sized d (passed e) = let h = ltb-true (longer v x) bound e in digit d h (from_digit v x [] d ∙ from_none (longer v x) h)
    sized d (failed e) =
        let stops : (word : List ℕ) → number_from v (x ∷ word) ≡ None =
        λ word. from_digit v x word d ∙ from_large (longer v x) word (ltb-false (longer v x) bound e) in
        other stops (stops [])

    go : Tested (is_digit x) → Byte v x (number_from v (x ∷ []))
    go (passed d) = sized d (test (ltb (longer v x) bound))
    go (failed d) = other (λ word. from_other v x word d) (from_other v x [] d)

pub from_next : (v x w : ℕ) (word : List ℕ) → number_from v (x ∷ []) ≡ Some w → number_from v (x ∷ word) ≡ number_from w word
from_next v x w word e = go (byte v x)
  where
    go : Byte v x (number_from v (x ∷ [])) → number_from v (x ∷ word) ≡ number_from w word
    go (digit d h p) = let same : longer v x ≡ w = cc in from_digit v x word d ∙ ap (λ n. number_from n word) same
    go (other f p) = cc

pub from_stop : (v x : ℕ) (word : List ℕ) → number_from v (x ∷ []) ≡ None → number_from v (x ∷ word) ≡ None
from_stop v x word e = go (byte v x)
  where
    go : Byte v x (number_from v (x ∷ [])) → number_from v (x ∷ word) ≡ None
    go (digit d h p) = cc
    go (other f p) = f word

-- ---- a loop over the bytes: what is left, behind the number so far, gives what the whole gives
pub record Reading (word : List ℕ) (v i : ℕ) : Type 0 where
  pub within : i ≤ length word
  pub fits : v < bound
  pub left : number_from v (drop i word) ≡ number_of word

pub reading_start : (word : List ℕ) → 0 < length word → Reading word 0 0
unfolding number_of some
reading_start [] h = absurd (omega arith)
reading_start (x ∷ word) h = record { within = omega arith; fits = omega arith; left = refl }

module _ {word : List ℕ} {v i : ℕ} (d : Reading word v i) (h : i < length word) where
  pub reading_next : (w : ℕ) → w < bound → number_from v (get_or word i 0 ∷ []) ≡ Some w → Reading word w (i + 1)
  reading_next w f e = record {
    within = omega arith;
    fits = f;
    left = rw (add-one i) (sym (from_next v _ w _ e) ∙ rw (drop-cons word i 0 h) at d.left);
  }

  pub reading_stop : number_from v (get_or word i 0 ∷ []) ≡ None → number_of word ≡ None
  reading_stop e = sym (rw (drop-cons word i 0 h) at d.left) ∙ from_stop v _ _ e

pub reading_end : {word : List ℕ} {v i : ℕ} → Reading word v i → length word ≤ i → number_of word ≡ Some v
reading_end {word} {v} d h = sym (rw (drop_of_length-le word h) at d.left) ∙ from_none v d.fits

pub empty_none : (word : List ℕ) → length word ≡ 0 → number_of word ≡ None
unfolding number_of some
empty_none [] e = refl
empty_none (x ∷ word) e = absurd (omega arith)

-- a digit makes ten times the number and itself, where that fits
module _ (v x tens : ℕ) (d : is_digit x ≡ true) (e : tens ≡ v * 10) where
  pub followed_is : (r : Option ℕ) → SomeIff r (tens + (x - 48) < bound) (tens + (x - 48)) → r ≡ number_from v (x ∷ [])
  followed_is None h = sym (from_digit v x [] d ∙ from_large (longer v x) [] (omega arith))
  followed_is (Some w) h = let same : longer v x ≡ w = omega arith in sym (from_digit v x [] d ∙ from_none (longer v x) (omega arith) ∙ ap (λ n. Some n) same)
