-- The machine counts what its bytes say: with each name and each line that a byte makes whole one more. Assumes nothing.
use mathlib.Core.Path.{◌≡◌, refl, ap, ◌∙◌}
use mathlib.Core.Logic.{◌⊎◌, inl, inr}
use mathlib.Core.Bool.{Bool, true, false, cond, ◌&&◌}
use Prim.Native.Nat.{ℕ, ◌+◌, ◌≤◌, ◌<◌}
use native.Mathlib.Omega.{arith}
use lib.Dec.{T, leb, ltb, eqb}
use lib.ListN.{length}
use borrow.Author.Tests.{eqb-true, eqb-false, leb-true, ne_eqb}
use Rattle.monomial.proofs.Tests.{Tested, passed, failed, test, T→is, is→T, is_not, and_l, cond_cases}
use Rattle.reader.specs.Bytes.{newline, blank, minus, nought, nine, longer, goes_longer}
use Rattle.listing.specs.Bytes.{star, letter_w, heading, equals, prime}
use Rattle.listing.specs.Lines.{lefts, left_of}
use Rattle.listing.specs.Machine.{state, to, one, span, ended, line_from, behind, in_coefficient, begin_line, eat_at, eat, start}
use Rattle.listing.specs.Saying.{name_said, digit_said, star_said, number_said, minus_said, term_said, saying_at, saying}
use Rattle.listing.specs.Counted.{name_ends, line_ends, in_lines, InLines, PartOf, Part, Counted, Counts}
use Rattle.listing.specs.declared.known.Known.{Known}
use Rattle.listing.specs.declared.machine.State.{State}
use Rattle.listing.specs.declared.machine.Reading.{Reading}
use Rattle.listing.specs.declared.machine.Reading.TheVariants.{Dead, Ended, At}
use Rattle.listing.specs.declared.machine.Place.{Place}
use Rattle.listing.specs.declared.machine.Place.TheVariants.{Heading, Names, NewName, Equals, Factor, Power, Star, Exponent, Digits, Next, Line, Left, Prime, Right, Zero, Term, Coefficient, First, X1, W1, One, Times, Square, X2, W2, Two, Sign, Gap}
use Rattle.listing.specs.declared.saying.Saying.{Saying}
use Rattle.listing.specs.declared.saying.Saying.TheVariants.{Silence, Number}
use Rattle.listing.proofs.lines.Laws.{left_none, left_here}
use Rattle.listing.proofs.Steps.{one_all, span_all, ended_all, spell_all, name_all, term_all}

-- a saying that makes nothing whole
record Quiet (σ : Saying) : Type 0 where
  names : name_ends σ ≡ 0
  lines : line_ends σ ≡ 0

quiet_number : (v x : ℕ) → Quiet (number_said v x Silence)
unfolding number_said
quiet_number v x = cond_cases Quiet (leb nought x && leb x nine) (Number (longer v x)) Silence (λ t. record { names = refl; lines = refl }) (λ u. record { names = refl; lines = refl })

quiet_minus : (x : ℕ) (σ : Saying) → Quiet σ → Quiet (minus_said x σ)
unfolding minus_said
quiet_minus x σ q = cond_cases Quiet (eqb x minus) _ σ (λ t. record { names = refl; lines = refl }) (λ u. q)

quiet_star : (x : ℕ) → Quiet (star_said x)
unfolding star_said
quiet_star x = cond_cases Quiet (eqb x star) _ Silence (λ t. record { names = refl; lines = refl }) (λ u. record { names = refl; lines = refl })

-- ---- one byte more: c names and d lines become c' and d'
module _ (r : Known) (c d c' d' : ℕ) where
  abbrev P : Reading → Type 0
  P = Counts r c' d'

  line_counts : (names line : ℕ) → names ≡ c' → line ≡ d' → line ≤ length (lefts r names) → P (line_from r names line)
  unfolding line_from
  line_counts names line a b h = go (test (eqb (left_of r names line) 0))
    where
      go : Tested (eqb (left_of r names line) 0) → P (cond (eqb (left_of r names line) 0) Ended (At (state Line names line 0)))
      go (passed e) =
          let past : length (lefts r names) ≤ line = left_none r names line (eqb-true _ _ e) in
          let same : d' ≡ length (lefts r names) = omega arith in
          rw e (same ∙ ap (λ n. length (lefts r n)) a)
      go (failed e) = rw e (record { names = a; lines = b; part = left_here r names line (eqb-false _ _ e) })

  module _ (s : State) (h : Counted r c d s) where
    -- nothing is made whole
    module _ (σ : Saying) (q : Quiet σ) (e : c' ≡ c + name_ends σ) (f : d' ≡ d + line_ends σ) where
      stood : (p : Place) (w : ℕ) → Part r s.names s.line p → P (At (state p s.names s.line w))
      stood p w part = record { names = omega (arith, e, q.names, h.names); lines = omega (arith, f, q.lines, h.lines); part = part }

    module _ (x : ℕ) where
      -- a newline ends a name
      name_whole : (other : Reading) → s.line ≡ 0 → c' ≡ c + name_ends (name_said x) → d' ≡ d + line_ends (name_said x) → (eqb x newline ≡ false → P other)
          → P (ended x (At (state Names (s.names + 1) s.line 0)) other)
      unfolding ended name_said
      name_whole other z e f k = go (test (eqb x newline))
        where
          go : Tested (eqb x newline) → P (cond (eqb x newline) (At (state Names (s.names + 1) s.line 0)) other)
          go (passed t) =
              let one : c' ≡ c + 1 = rw t at e in
              let none : d' ≡ d + 0 = rw t at f in
              rw t (record { names = omega (arith, one, h.names); lines = omega (arith, none, h.lines); part = z })
          go (failed t) = rw t (k t)

      -- a byte that ends no name says nothing
      name_quiet : eqb x newline ≡ false → Quiet (name_said x)
      unfolding name_said
      name_quiet t = rw t (record { names = refl; lines = refl })

      star_name : (p : Place) → Part r s.names s.line p → s.line ≡ 0 → c' ≡ c + name_ends (name_said x) → d' ≡ d + line_ends (name_said x)
          → P (one x star s p (ended x (At (state Names (s.names + 1) s.line 0)) Dead))
      unfolding one
      star_name p part z e f = go (test (eqb x star))
        where
          go : Tested (eqb x star) → P (cond (eqb x star) (to s p) (ended x (At (state Names (s.names + 1) s.line 0)) Dead))
          go (passed t) = rw t (stood (name_said x) (name_quiet (ne_eqb x newline (let i : x ≡ star = eqb-true x star t in omega arith))) e f p 0 part)
          go (failed t) = rw t (name_whole Dead z e f (λ k. tt))

      -- a digit goes on with an exponent; another byte ends it
      digit_quiet : leb nought x ≡ true → Quiet (digit_said x)
      unfolding digit_said
      digit_quiet t = rw t (record { names = refl; lines = refl })

      digit_none : leb nought x ≡ false → digit_said x ≡ name_said x
      unfolding digit_said
      digit_none t = rw t

      no_span : (high : ℕ) (p : Place) (other : Reading) → leb nought x ≡ false → span x nought high s p other ≡ other
      unfolding span
      no_span high p other t = rw t

      no_newline : leb nought x ≡ true → eqb x newline ≡ false
      no_newline t = ne_eqb x newline (let i : nought ≤ x = leb-true nought x t in omega arith)

      in_exponent : s.line ≡ 0 → c' ≡ c + name_ends (digit_said x) → d' ≡ d + line_ends (digit_said x)
          → P (span x nought nine s Digits (one x star s Next (ended x (At (state Names (s.names + 1) s.line 0)) Dead)))
      unfolding ended
      in_exponent z e f = go (test (leb nought x))
        where
          go : Tested (leb nought x) → P (span x nought nine s Digits (one x star s Next (ended x (At (state Names (s.names + 1) s.line 0)) Dead)))
          go (passed t) =
              let on = stood (digit_said x) (digit_quiet t) e f in
              rw (no_newline t) (span_all P x nought nine s Digits _ (on Digits 0 z) (one_all P x star s Next Dead (on Next 0 z) tt))
          go (failed t) = rw (no_span nine Digits (one x star s Next (ended x (At (state Names (s.names + 1) s.line 0)) Dead)) t)
              (star_name Next z z (rw (digit_none t) at e) (rw (digit_none t) at f))

      -- a space ends a term, a newline the line
      behind_whole : s.line < length (lefts r s.names) → c' ≡ c + name_ends (term_said x) → d' ≡ d + line_ends (term_said x) → P (behind r x s)
      unfolding behind one ended term_said
      behind_whole z e f = go (test (eqb x blank)) (test (eqb x newline))
        where
          go : Tested (eqb x blank) → Tested (eqb x newline) → P (behind r x s)
          go (passed t) u =
              let none : c' ≡ c + 0 = rw t at e in
              let still : d' ≡ d + 0 = rw t at f in
              rw t (record { names = omega (arith, none, h.names); lines = omega (arith, still, h.lines); part = z })
          go (failed t) (passed u) =
              let none : c' ≡ c + 0 = rw (t, u) at e in
              let one : d' ≡ d + 1 = rw (t, u) at f in
              rw (t, u) (line_counts s.names (s.line + 1) (omega (arith, none, h.names)) (omega (arith, one, h.lines)) (omega arith))
          go (failed t) (failed u) = rw (t, u) tt

      term_quiet : eqb x blank ≡ false → eqb x newline ≡ false → Quiet (term_said x)
      unfolding term_said
      term_quiet t u = rw (t, u) (record { names = refl; lines = refl })

      star_term : (p : Place) → Part r s.names s.line p → s.line < length (lefts r s.names) → c' ≡ c + name_ends (term_said x) → d' ≡ d + line_ends (term_said x)
          → P (one x star s p (behind r x s))
      unfolding one
      star_term p part z e f = go (test (eqb x star))
        where
          go : Tested (eqb x star) → P (cond (eqb x star) (to s p) (behind r x s))
          go (passed t) =
              let i : x ≡ star = eqb-true x star t in
              rw t (stood (term_said x) (term_quiet (ne_eqb x blank (omega arith)) (ne_eqb x newline (omega arith))) e f p 0 part)
          go (failed t) = rw t (behind_whole z e f)

      -- a digit goes on with the coefficient; another byte ends it
      abbrev digit : Bool
      digit = leb nought x && leb x nine

      number_says : (b : Bool) (v : ℕ) → digit ≡ b → number_said v x (term_said x) ≡ cond b (Number (longer v x)) (term_said x)
      unfolding number_said
      number_says b v t = rw t

      no_digit : digit ≡ false → in_coefficient r x s ≡ one x star s First (behind r x s)
      unfolding in_coefficient
      no_digit t = go (test (leb nought x))
        where
          go : Tested (leb nought x) → cond (goes_longer 1000000000 s.number x) (At (state Coefficient s.names s.line (longer s.number x))) (one x star s First (behind r x s)) ≡ one x star s First (behind r x s)
          go (passed u) = let out : leb x nine ≡ false = rw u at t in rw (u, out)
          go (failed u) = rw u

      digit_behind : leb nought x ≡ true → behind r x s ≡ Dead
      unfolding behind one ended
      digit_behind t = let i : nought ≤ x = leb-true nought x t in rw (ne_eqb x blank (omega arith), ne_eqb x newline (omega arith))

      longer_on : T digit → ((p : Place) (w : ℕ) → Part r s.names s.line p → P (At (state p s.names s.line w))) → s.line < length (lefts r s.names) → P (in_coefficient r x s)
      unfolding in_coefficient
      longer_on t on z =
          cond_cases P (goes_longer 1000000000 s.number x) (At (state Coefficient s.names s.line (longer s.number x))) _
          (λ u. on Coefficient (longer s.number x) z)
          (λ u. rw (digit_behind (T→is _ (and_l (leb nought x) (leb x nine) t))) (one_all P x star s First Dead (on First 0 z) tt))

      in_number : s.line < length (lefts r s.names) → c' ≡ c + name_ends (number_said s.number x (term_said x)) → d' ≡ d + line_ends (number_said s.number x (term_said x))
          → P (in_coefficient r x s)
      in_number z e f = go (test digit)
        where
          go : Tested digit → P (in_coefficient r x s)
          go (passed t) =
              let said = number_says true s.number t in
              longer_on (is→T digit t) (stood (Number (longer s.number x)) (record { names = refl; lines = refl }) (rw said at e) (rw said at f)) z
          go (failed t) =
              let said = number_says false s.number t in
              rw (no_digit t) (star_term First z z (rw said at e) (rw said at f))

-- ---- place by place
module _ (r : Known) (x k l v c d c' d' : ℕ) where
  abbrev After : Place → Type 0
  After p = let s = state p k l v in
      Counted r c d s → c' ≡ c + name_ends (saying_at r x s p) → d' ≡ d + line_ends (saying_at r x s p) → Counts r c' d' (eat_at r x s p)

  -- a place whose byte says nothing that counts
  module _ (p : Place) (σ : Saying) (q : Quiet σ) (h : Counted r c d (state p k l v)) (e : c' ≡ c + name_ends σ) (f : d' ≡ d + line_ends σ) where
    on : (p : Place) (w : ℕ) → Part r k l p → Counts r c' d' (At (state p k l w))
    on = stood r c d c' d' (state p k l v) h σ q e f

  none : Quiet Silence
  none = record { names = refl; lines = refl }

  after : (p : Place) → After p
  unfolding eat_at saying_at begin_line
  after Heading h e f =
      spell_all (Counts r c' d') tt x (state Heading k l v) heading _ (λ i. on Heading Silence none h e f Heading (v + 1) h.part) (on Heading Silence none h e f Names 0 h.part)
  after Names h e f =
      let s = (state Names k l v) in
      let whole = line_counts r c d c' d' k 0 (omega (arith, e, h.names)) (let z : l ≡ 0 = h.part in omega (arith, f, h.lines)) (omega arith) in
      ended_all (Counts r c' d') x _ _ whole
      (cond_cases (Counts r c' d') (ltb k r.cards) (one x letter_w s NewName Dead) Dead (λ u. one_all (Counts r c' d') x letter_w s NewName Dead (on Names Silence none h e f NewName 0 h.part) tt) (λ u. tt))
  after NewName h e f =
      one_all (Counts r c' d') x _ (state NewName k l v) Equals Dead (on NewName Silence none h e f Equals 0 h.part) tt
  after Equals h e f =
      spell_all (Counts r c' d') tt x (state Equals k l v) equals _ (λ i. on Equals Silence none h e f Equals (v + 1) h.part) (on Equals Silence none h e f Factor 0 h.part)
  after Factor h e f =
      span_all (Counts r c' d') x _ _ (state Factor k l v) Power Dead (on Factor Silence none h e f Power 0 h.part) tt
  after Power h e f =
      star_name r c d c' d' (state Power k l v) h x Star h.part h.part e f
  after Star h e f =
      let on' = on Star (star_said x) (quiet_star x) h e f in
      one_all (Counts r c' d') x _ (state Star k l v) Exponent _ (on' Exponent 0 h.part) (one_all (Counts r c' d') x _ (state Star k l v) Factor Dead (on' Factor 0 h.part) tt)
  after Exponent h e f =
      span_all (Counts r c' d') x _ _ (state Exponent k l v) Digits Dead (on Exponent Silence none h e f Digits 0 h.part) tt
  after Digits h e f =
      in_exponent r c d c' d' (state Digits k l v) h x h.part e f
  after Next h e f =
      one_all (Counts r c' d') x _ (state Next k l v) Factor Dead (on Next Silence none h e f Factor 0 h.part) tt
  after Line h e f =
      one_all (Counts r c' d') x _ (state Line k l v) Left Dead (on Line Silence none h e f Left 0 h.part) tt
  after Left h e f =
      one_all (Counts r c' d') x _ (state Left k l v) Prime Dead (on Left Silence none h e f Prime 0 h.part) tt
  after Prime h e f =
      spell_all (Counts r c' d') tt x (state Prime k l v) prime _ (λ i. on Prime Silence none h e f Prime (v + 1) h.part) (on Prime Silence none h e f Right 0 h.part)
  after Right h e f =
      let on' = on Right _ (quiet_minus x _ (quiet_number 0 x)) h e f in
      one_all (Counts r c' d') x _ (state Right k l v) Zero _ (on' Zero 0 h.part)
      (one_all (Counts r c' d') x _ (state Right k l v) Term _ (on' Term 0 h.part) (term_all (Counts r c' d') tt x (state Right k l v) (λ i. on' Coefficient _ h.part) (on' X1 0 h.part) (λ i. on' W1 0 h.part)))
  after Zero h e f =
      ended_all (Counts r c' d') x _ Dead (line_counts r c d c' d' k (l + 1) (omega (arith, e, h.names)) (omega (arith, f, h.lines)) (let z : l < length (lefts r k) = h.part in omega arith)) tt
  after Term h e f =
      let on' = on Term _ (quiet_number 0 x) h e f in term_all (Counts r c' d') tt x (state Term k l v) (λ i. on' Coefficient _ h.part) (on' X1 0 h.part) (λ i. on' W1 0 h.part)
  after Coefficient h e f =
      in_number r c d c' d' (state Coefficient k l v) h x h.part e f
  after First h e f =
      name_all (Counts r c' d') tt x (state First k l v) X1 W1 (on First Silence none h e f X1 0 h.part) (λ i. on First Silence none h e f W1 0 h.part)
  after X1 h e f =
      span_all (Counts r c' d') x _ _ (state X1 k l v) One Dead (on X1 Silence none h e f One 0 h.part) tt
  after W1 h e f =
      span_all (Counts r c' d') x _ _ (state W1 k l v) One Dead (on W1 Silence none h e f One 0 h.part) tt
  after X2 h e f =
      span_all (Counts r c' d') x _ _ (state X2 k l v) Two Dead (on X2 Silence none h e f Two 0 h.part) tt
  after W2 h e f =
      span_all (Counts r c' d') x _ _ (state W2 k l v) Two Dead (on W2 Silence none h e f Two 0 h.part) tt
  after One h e f =
      star_term r c d c' d' (state One k l v) h x Times h.part h.part e f
  after Times h e f =
      one_all (Counts r c' d') x _ (state Times k l v) Square _ (on Times Silence none h e f Square 0 h.part)
      (name_all (Counts r c' d') tt x (state Times k l v) X2 W2 (on Times Silence none h e f X2 0 h.part) (λ i. on Times Silence none h e f W2 0 h.part))
  after Square h e f =
      one_all (Counts r c' d') x _ (state Square k l v) Two Dead (on Square Silence none h e f Two 0 h.part) tt
  after Two h e f =
      behind_whole r c d c' d' (state Two k l v) h x h.part e f
  after Sign h e f =
      let on' = on Sign _ (quiet_minus x Silence none) h e f in
      one_all (Counts r c' d') x _ (state Sign k l v) Gap _ (on' Gap 0 h.part) (one_all (Counts r c' d') x _ (state Sign k l v) Gap Dead (on' Gap 0 h.part) tt)
  after Gap h e f =
      one_all (Counts r c' d') x _ (state Gap k l v) Term Dead (on Gap Silence none h e f Term 0 h.part) tt

pub counts_next : (r : Known) (c d : ℕ) (g : Reading) (x : ℕ) → Counts r c d g → Counts r (c + name_ends (saying r g x)) (d + line_ends (saying r g x)) (eat r g x)
unfolding eat saying
counts_next r c d Dead x h = tt
counts_next r c d Ended x h = tt
counts_next r c d (At s) x h = after r x s.names s.line s.number c d _ _ s.at h refl refl

pub counts_start : (r : Known) → Counts r 0 0 start
counts_start r = record { names = refl; lines = refl; part = refl }

-- where a line is read, it is one of those that are to come
pub line_here : (r : Known) (c d : ℕ) (g : Reading) (x : ℕ) → Counts r c d g → InLines g → (line_ends (saying r g x) ≡ 0) ⊎ (d < length (lefts r c))
unfolding saying
line_here r c d Dead x h i = inl refl
line_here r c d Ended x h i = inl refl
line_here r c d (At s) x h i = inr (rw (← h.names, ← h.lines) (in_part (in_lines s.at) i h.part))
  where
    in_part : (b : Bool) → b ≡ true → PartOf b r s.names s.line → s.line < length (lefts r s.names)
    in_part true e p = p
    in_part false e p = absurd (is_not false e refl)
