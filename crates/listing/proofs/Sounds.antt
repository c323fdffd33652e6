-- What the bytes of a listing that goes on can say, and that no name ends in the second part. Assumes nothing.
use mathlib.Core.Path.{◌≡◌, refl, sym}
use mathlib.Core.Logic.{◌⊎◌, inl, inr}
use mathlib.Core.Bool.{true, false, cond, ◌&&◌}
use Prim.Native.Nat.{ℕ, ◌+◌, ◌-◌, ◌≤◌, ◌<◌}
use native.Mathlib.Omega.{arith}
use lib.Dec.{T, leb, eqb, leb→le}
use borrow.Author.Tests.{ne_eqb}
use Rattle.monomial.proofs.Tests.{Tested, passed, failed, test, is→T, is_not, and_l, and_r, cond_cases}
use Rattle.reader.specs.Bytes.{newline, blank, minus, nought, nine, longer, goes_longer}
use Rattle.listing.specs.Bytes.{star, prime}
use Rattle.listing.specs.Lines.{left_of}
use Rattle.listing.specs.Held.{Held, Stands}
use Rattle.listing.specs.Machine.{state, to, one, span, ended, line_from, behind, in_coefficient, eat_at, eat}
use Rattle.listing.specs.Readable.{alive}
use Rattle.listing.specs.Saying.{name_said, digit_said, star_said, number_said, minus_said, term_said, saying_at, saying}
use Rattle.listing.specs.Counted.{name_ends, line_ends, in_lines, InLines, Counts, Sound, Small}
use Rattle.listing.specs.declared.known.Known.{Known}
use Rattle.listing.specs.declared.machine.State.{State}
use Rattle.listing.specs.declared.machine.Reading.{Reading}
use Rattle.listing.specs.declared.machine.Reading.TheVariants.{Dead, Ended, At}
use Rattle.listing.specs.declared.machine.Place.{Place}
use Rattle.listing.specs.declared.machine.Place.TheVariants.{Heading, Names, NewName, Equals, Factor, Power, Star, Exponent, Digits, Next, Line, Left, Prime, Right, Zero, Term, Coefficient, First, X1, W1, One, Times, Square, X2, W2, Two, Sign, Gap}
use Rattle.listing.specs.declared.saying.Saying.{Saying}
use Rattle.listing.specs.declared.saying.Saying.TheVariants.{Silence, Raised, Digit, NameEnds, Minus, Number, TermEnds, LineEnds}
use Rattle.listing.proofs.Steps.{one_all, span_all, ended_all, spell_all, name_all, term_all}

-- ---- a byte that says less than it could: the words that take a test
module _ (P : Saying → Type 0) (x : ℕ) where
  name-said : P NameEnds → P Silence → P (name_said x)
  unfolding name_said
  name-said n o = cond_cases P (eqb x newline) NameEnds Silence (λ t. n) (λ u. o)

  digit-said : P (Digit (x - nought)) → P NameEnds → P Silence → P (digit_said x)
  unfolding digit_said
  digit-said d n o = cond_cases P (leb nought x) (Digit (x - nought)) (name_said x) (λ t. d) (λ u. name-said n o)

  star-said : P Raised → P Silence → P (star_said x)
  unfolding star_said
  star-said n o = cond_cases P (eqb x star) Raised Silence (λ t. n) (λ u. o)

  number-said : (v : ℕ) (other : Saying) → (T (leb nought x && leb x nine) → P (Number (longer v x))) → P other → P (number_said v x other)
  unfolding number_said
  number-said v other n o = cond_cases P (leb nought x && leb x nine) (Number (longer v x)) other n (λ u. o)

  minus-said : (other : Saying) → P Minus → P other → P (minus_said x other)
  unfolding minus_said
  minus-said other n o = cond_cases P (eqb x minus) Minus other (λ t. n) (λ u. o)

  term-said : P TermEnds → P LineEnds → P Silence → P (term_said x)
  unfolding term_said
  term-said t l o =
      cond_cases P (eqb x blank) TermEnds (cond (eqb x newline) LineEnds Silence) (λ h. t)
      (λ u. cond_cases P (eqb x newline) LineEnds Silence (λ h. l) (λ u. o))

-- ---- what goes on has passed its test
span_alive : (x low high : ℕ) (s : State) (p : Place) → alive (span x low high s p Dead) ≡ true → (low ≤ x) × (x ≤ high)
unfolding span
span_alive x low high s p = go (test (leb low x && leb x high))
  where
    go : Tested (leb low x && leb x high) → alive (cond (leb low x && leb x high) (to s p) Dead) ≡ true → (low ≤ x) × (x ≤ high)
    go (passed t) a = (leb→le low x (and_l (leb low x) (leb x high) (is→T _ t)), leb→le x high (and_r (leb low x) (leb x high) (is→T _ t)))
    go (failed t) a = absurd (is_not false (rw t at a) refl)

-- a digit that the coefficient has no room for goes nowhere
module _ (r : Known) (x : ℕ) (s : State) (d : T (leb nought x && leb x nine)) where
  low : nought ≤ x
  low = leb→le nought x (and_l (leb nought x) (leb x nine) d)

  digit_stops : one x star s First (behind r x s) ≡ Dead
  unfolding one behind ended
  digit_stops = let i = low in rw (ne_eqb x star (omega arith), ne_eqb x blank (omega arith), ne_eqb x newline (omega arith))

  number_alive : alive (in_coefficient r x s) ≡ true → longer s.number x ≤ 1000000000
  unfolding in_coefficient
  number_alive = go (test (goes_longer 1000000000 s.number x))
    where
      go : Tested (goes_longer 1000000000 s.number x)
          → alive (cond (goes_longer 1000000000 s.number x) (At (state Coefficient s.names s.line (longer s.number x))) (one x star s First (behind r x s))) ≡ true → longer s.number x ≤ 1000000000
      go (passed t) a = leb→le _ _ (and_r (leb x nine) (leb (longer s.number x) 1000000000) (and_r (leb nought x) _ (is→T _ t)))
      go (failed t) a = absurd (is_not false (rw (t, digit_stops) at a) refl)

-- ---- place by place
module _ (r : Known) (x k l v : ℕ) where
  nine_most : T (leb nought x && leb x nine) → longer 0 x ≤ 1000000000
  nine_most t = let h = leb→le x nine (and_r (leb nought x) (leb x nine) t) in omega arith

  sound_at : (p : Place) → Held r (state p k l v) → alive (eat_at r x (state p k l v) p) ≡ true → Sound r k (saying_at r x (state p k l v) p)
  unfolding eat_at saying_at
  sound_at Heading h a = tt
  sound_at Names h a = tt
  sound_at NewName h a = tt
  sound_at Equals h a = tt
  sound_at Factor h a = let i = span_alive x _ _ (state Factor k l v) Power a in omega (arith, i)
  sound_at Power h a = name-said (Sound r k) x tt tt
  sound_at Star h a = star-said (Sound r k) x tt tt
  sound_at Exponent h a = tt
  sound_at Digits h a = digit-said (Sound r k) x tt tt tt
  sound_at Next h a = tt
  sound_at Line h a = tt
  sound_at Left h a = tt
  sound_at Prime h a = tt
  sound_at Right h a = minus-said (Sound r k) x _ tt (number-said (Sound r k) x 0 Silence nine_most tt)
  sound_at Zero h a = tt
  sound_at Term h a = number-said (Sound r k) x 0 Silence nine_most tt
  sound_at Coefficient h a = number-said (Sound r k) x v (term_said x) (λ t. number_alive r x (state Coefficient k l v) t a) (term-said (Sound r k) x tt tt tt)
  sound_at First h a = tt
  sound_at X1 h a = let i = span_alive x _ _ (state X1 k l v) One a in (omega (arith, i), omega (arith, i))
  sound_at W1 h a = let i = span_alive x _ _ (state W1 k l v) One a in (omega (arith, i), omega (arith, i, h.fit))
  sound_at One h a = term-said (Sound r k) x tt tt tt
  sound_at Times h a = tt
  sound_at Square h a = tt
  sound_at X2 h a = let i = span_alive x _ _ (state X2 k l v) Two a in (omega (arith, i), omega (arith, i))
  sound_at W2 h a = let i = span_alive x _ _ (state W2 k l v) Two a in (omega (arith, i), omega (arith, i, h.fit))
  sound_at Two h a = term-said (Sound r k) x tt tt tt
  sound_at Sign h a = minus-said (Sound r k) x Silence tt tt
  sound_at Gap h a = tt

  small_at : (p : Place) → x < 256 → Small (saying_at r x (state p k l v) p)
  unfolding saying_at
  small_at Heading h = tt
  small_at Names h = tt
  small_at NewName h = tt
  small_at Equals h = tt
  small_at Factor h = omega arith
  small_at Power h = name-said Small x tt tt
  small_at Star h = star-said Small x tt tt
  small_at Exponent h = omega arith
  small_at Digits h = digit-said Small x (omega arith) tt tt
  small_at Next h = tt
  small_at Line h = tt
  small_at Left h = tt
  small_at Prime h = tt
  small_at Right h = minus-said Small x _ tt (number-said Small x 0 Silence (λ t. tt) tt)
  small_at Zero h = tt
  small_at Term h = number-said Small x 0 Silence (λ t. tt) tt
  small_at Coefficient h = number-said Small x v (term_said x) (λ t. tt) (term-said Small x tt tt tt)
  small_at First h = tt
  small_at X1 h = tt
  small_at W1 h = tt
  small_at One h = term-said Small x tt tt tt
  small_at Times h = tt
  small_at Square h = tt
  small_at X2 h = tt
  small_at W2 h = tt
  small_at Two h = term-said Small x tt tt tt
  small_at Sign h = minus-said Small x Silence tt tt
  small_at Gap h = tt

  -- there is a card for each name that ends
  abbrev Carded : Saying → Type 0
  Carded σ = k + name_ends σ ≤ r.cards

  carded_at : (p : Place) → Held r (state p k l v) → Carded (saying_at r x (state p k l v) p)
  unfolding saying_at
  carded_at Heading h = omega (arith, h.names)
  carded_at Names h = omega (arith, h.names)
  carded_at NewName h = omega (arith, h.names)
  carded_at Equals h = omega (arith, h.names)
  carded_at Factor h = omega (arith, h.names)
  carded_at Power h = name-said Carded x (omega (arith, h.fit)) (omega (arith, h.names))
  carded_at Star h = star-said Carded x (omega (arith, h.names)) (omega (arith, h.names))
  carded_at Exponent h = omega (arith, h.names)
  carded_at Digits h = digit-said Carded x (omega (arith, h.names)) (omega (arith, h.fit)) (omega (arith, h.names))
  carded_at Next h = omega (arith, h.names)
  carded_at Line h = omega (arith, h.names)
  carded_at Left h = omega (arith, h.names)
  carded_at Prime h = omega (arith, h.names)
  carded_at Right h = minus-said Carded x _ (omega (arith, h.names)) (number-said Carded x 0 Silence (λ t. omega (arith, h.names)) (omega (arith, h.names)))
  carded_at Zero h = omega (arith, h.names)
  carded_at Term h = number-said Carded x 0 Silence (λ t. omega (arith, h.names)) (omega (arith, h.names))
  carded_at Coefficient h = number-said Carded x v (term_said x) (λ t. omega (arith, h.names)) (term-said Carded x (omega (arith, h.names)) (omega (arith, h.names)) (omega (arith, h.names)))
  carded_at First h = omega (arith, h.names)
  carded_at X1 h = omega (arith, h.names)
  carded_at W1 h = omega (arith, h.names)
  carded_at One h = term-said Carded x (omega (arith, h.names)) (omega (arith, h.names)) (omega (arith, h.names))
  carded_at Times h = omega (arith, h.names)
  carded_at Square h = omega (arith, h.names)
  carded_at X2 h = omega (arith, h.names)
  carded_at W2 h = omega (arith, h.names)
  carded_at Two h = term-said Carded x (omega (arith, h.names)) (omega (arith, h.names)) (omega (arith, h.names))
  carded_at Sign h = minus-said Carded x Silence (omega (arith, h.names)) (omega (arith, h.names))
  carded_at Gap h = omega (arith, h.names)

  -- no line ends in the first part
  abbrev Unlined : Saying → Type 0
  Unlined σ = line_ends σ ≡ 0

  unlined_at : (p : Place) → (Unlined (saying_at r x (state p k l v) p)) ⊎ (in_lines p ≡ true)
  unfolding saying_at
  unlined_at Heading = inl refl
  unlined_at Names = inl refl
  unlined_at NewName = inl refl
  unlined_at Equals = inl refl
  unlined_at Factor = inl refl
  unlined_at Power = inl (name-said Unlined x refl refl)
  unlined_at Star = inl (star-said Unlined x refl refl)
  unlined_at Exponent = inl refl
  unlined_at Digits = inl (digit-said Unlined x refl refl refl)
  unlined_at Next = inl refl
  unlined_at Line = inr refl
  unlined_at Left = inr refl
  unlined_at Prime = inr refl
  unlined_at Right = inr refl
  unlined_at Zero = inr refl
  unlined_at Term = inr refl
  unlined_at Coefficient = inr refl
  unlined_at First = inr refl
  unlined_at X1 = inr refl
  unlined_at W1 = inr refl
  unlined_at One = inr refl
  unlined_at Times = inr refl
  unlined_at Square = inr refl
  unlined_at X2 = inr refl
  unlined_at W2 = inr refl
  unlined_at Two = inr refl
  unlined_at Sign = inr refl
  unlined_at Gap = inr refl

  -- no name ends in the second part
  abbrev Told : Saying → Type 0
  Told σ = name_ends σ ≡ 0

  told_at : (p : Place) → in_lines p ≡ true → Told (saying_at r x (state p k l v) p)
  unfolding saying_at
  told_at Heading e = absurd (is_not true refl (sym e))
  told_at Names e = absurd (is_not true refl (sym e))
  told_at NewName e = absurd (is_not true refl (sym e))
  told_at Equals e = absurd (is_not true refl (sym e))
  told_at Factor e = absurd (is_not true refl (sym e))
  told_at Power e = absurd (is_not true refl (sym e))
  told_at Star e = absurd (is_not true refl (sym e))
  told_at Exponent e = absurd (is_not true refl (sym e))
  told_at Digits e = absurd (is_not true refl (sym e))
  told_at Next e = absurd (is_not true refl (sym e))
  told_at Line e = refl
  told_at Left e = refl
  told_at Prime e = refl
  told_at Right e = minus-said Told x _ refl (number-said Told x 0 Silence (λ t. refl) refl)
  told_at Zero e = refl
  told_at Term e = number-said Told x 0 Silence (λ t. refl) refl
  told_at Coefficient e = number-said Told x v (term_said x) (λ t. refl) (term-said Told x refl refl refl)
  told_at First e = refl
  told_at X1 e = refl
  told_at W1 e = refl
  told_at One e = term-said Told x refl refl refl
  told_at Times e = refl
  told_at Square e = refl
  told_at X2 e = refl
  told_at W2 e = refl
  told_at Two e = term-said Told x refl refl refl
  told_at Sign e = minus-said Told x Silence refl refl
  told_at Gap e = refl

  -- and the second part is not left
  line_lines : (names line : ℕ) → InLines (line_from r names line)
  unfolding line_from
  line_lines names line = cond_cases InLines (eqb (left_of r names line) 0) Ended (At (state Line names line 0)) (λ t. tt) (λ u. refl)

  behind_lines : (s : State) → InLines (behind r x s)
  unfolding behind
  behind_lines s = one_all InLines x _ s Sign _ refl (ended_all InLines x _ Dead (line_lines s.names (s.line + 1)) tt)

  number_lines : (s : State) → InLines (in_coefficient r x s)
  unfolding in_coefficient
  number_lines s =
      cond_cases InLines (goes_longer 1000000000 s.number x) (At (state Coefficient s.names s.line (longer s.number x))) _ (λ t. refl)
      (λ u. one_all InLines x star s First _ refl (behind_lines s))

  lines_at : (p : Place) → in_lines p ≡ true → InLines (eat_at r x (state p k l v) p)
  unfolding eat_at
  lines_at Heading e = absurd (is_not true refl (sym e))
  lines_at Names e = absurd (is_not true refl (sym e))
  lines_at NewName e = absurd (is_not true refl (sym e))
  lines_at Equals e = absurd (is_not true refl (sym e))
  lines_at Factor e = absurd (is_not true refl (sym e))
  lines_at Power e = absurd (is_not true refl (sym e))
  lines_at Star e = absurd (is_not true refl (sym e))
  lines_at Exponent e = absurd (is_not true refl (sym e))
  lines_at Digits e = absurd (is_not true refl (sym e))
  lines_at Next e = absurd (is_not true refl (sym e))
  lines_at Line e = one_all InLines x _ (state Line k l v) Left Dead refl tt
  lines_at Left e = one_all InLines x _ (state Left k l v) Prime Dead refl tt
  lines_at Prime e = spell_all InLines tt x (state Prime k l v) prime _ (λ i. refl) refl
  lines_at Right e = one_all InLines x _ (state Right k l v) Zero _ refl (one_all InLines x _ (state Right k l v) Term _ refl (term_all InLines tt x (state Right k l v) (λ i. refl) refl (λ i. refl)))
  lines_at Zero e = ended_all InLines x _ Dead (line_lines k (l + 1)) tt
  lines_at Term e = term_all InLines tt x (state Term k l v) (λ i. refl) refl (λ i. refl)
  lines_at Coefficient e = number_lines (state Coefficient k l v)
  lines_at First e = name_all InLines tt x (state First k l v) X1 W1 refl (λ i. refl)
  lines_at X1 e = span_all InLines x _ _ (state X1 k l v) One Dead refl tt
  lines_at W1 e = span_all InLines x _ _ (state W1 k l v) One Dead refl tt
  lines_at One e = one_all InLines x _ (state One k l v) Times _ refl (behind_lines (state One k l v))
  lines_at Times e = one_all InLines x _ (state Times k l v) Square _ refl (name_all InLines tt x (state Times k l v) X2 W2 refl (λ i. refl))
  lines_at Square e = one_all InLines x _ (state Square k l v) Two Dead refl tt
  lines_at X2 e = span_all InLines x _ _ (state X2 k l v) Two Dead refl tt
  lines_at W2 e = span_all InLines x _ _ (state W2 k l v) Two Dead refl tt
  lines_at Two e = behind_lines (state Two k l v)
  lines_at Sign e = one_all InLines x _ (state Sign k l v) Gap _ refl (one_all InLines x _ (state Sign k l v) Gap Dead refl tt)
  lines_at Gap e = one_all InLines x _ (state Gap k l v) Term Dead refl tt

module _ (r : Known) where
  pub sound : (c d : ℕ) (g : Reading) (x : ℕ) → Stands r g → Counts r c d g → alive (eat r g x) ≡ true → Sound r c (saying r g x)
  unfolding eat saying
  sound c d Dead x h n a = tt
  sound c d Ended x h n a = tt
  sound c d (At s) x h n a = rw (sym n.names) (sound_at r x s.names s.line s.number s.at h a)

  pub small : (g : Reading) (x : ℕ) → x < 256 → Small (saying r g x)
  unfolding saying
  small Dead x h = tt
  small Ended x h = tt
  small (At s) x h = small_at r x s.names s.line s.number s.at h

  pub lines_next : (g : Reading) (x : ℕ) → InLines g → InLines (eat r g x)
  unfolding eat
  lines_next Dead x h = tt
  lines_next Ended x h = tt
  lines_next (At s) x h = lines_at r x s.names s.line s.number s.at h

  pub lines_say : (g : Reading) (x : ℕ) → InLines g → name_ends (saying r g x) ≡ 0
  unfolding saying
  lines_say Dead x h = refl
  lines_say Ended x h = refl
  lines_say (At s) x h = told_at r x s.names s.line s.number s.at h

  pub carded : (c d : ℕ) (g : Reading) (x : ℕ) → Stands r g → Counts r c d g → c + name_ends (saying r g x) ≤ r.cards ⊎ (name_ends (saying r g x) ≡ 0)
  unfolding saying
  carded c d Dead x h n = inr refl
  carded c d Ended x h n = inr refl
  carded c d (At s) x h n = inl (rw (sym n.names) (carded_at r x s.names s.line s.number s.at h))

  -- what is said is said where the listing goes on; else it is nothing
  pub speaks : (P : Saying → Type 0) (g : Reading) (x : ℕ) → P Silence → (alive g ≡ true → P (saying r g x)) → P (saying r g x)
  unfolding saying
  speaks P Dead x n f = n
  speaks P Ended x n f = n
  speaks P (At s) x n f = f refl

  pub line-ends : (g : Reading) (x : ℕ) → (line_ends (saying r g x) ≡ 0) ⊎ InLines g
  unfolding saying
  line-ends Dead x = inl refl
  line-ends Ended x = inl refl
  line-ends (At s) x = unlined_at r x s.names s.line s.number s.at
