-- What holds of a state holds of every state behind it. Assumes nothing.
use mathlib.Core.Path.{◌≡◌, sym, ap, subst}
use Prim.Native.Nat.{ℕ, ◌+◌, ◌≤◌, ◌<◌}
use native.Mathlib.Omega.{arith}
use lib.Dec.{leb, ltb, eqb, leb→le, ltb→lt}
use borrow.Author.Tests.{eq-eqb}
use Rattle.reader.specs.Bytes.{nought, nine, longer, goes_longer}
use Rattle.listing.specs.Bytes.{letter_w, heading, equals, prime}
use Rattle.listing.specs.Lines.{left_of}
use Rattle.listing.specs.Machine.{state, to, one, line_from, begin_name, begin_term, behind, in_coefficient, begin_line, eat_at, eat, start}
use Rattle.listing.specs.Held.{Held, Fit, InName, InLine, Stands}
use Rattle.listing.specs.declared.known.Known.{Known}
use Rattle.listing.specs.declared.machine.State.{State}
use Rattle.listing.specs.declared.machine.Reading.{Reading}
use Rattle.listing.specs.declared.machine.Reading.TheVariants.{Dead, Ended, At}
use Rattle.listing.specs.declared.machine.Place.{Place}
use Rattle.listing.specs.declared.machine.Place.TheVariants.{Heading, Names, NewName, Equals, Factor, Power, Star, Exponent, Digits, Next, Line, Left, Prime, Right, Zero, Term, Coefficient, First, X1, W1, One, Times, Square, X2, W2, Two, Sign, Gap}
use Rattle.monomial.proofs.Tests.{and_r, cond_cases}
use Rattle.listing.proofs.lines.Laws.{left_some}
use Rattle.listing.proofs.Steps.{one_all, span_all, ended_all, spell_all, name_all, term_all}

-- The place where a byte stands: its clause of `eat_at`, and what holds there.
pub at_place : (r : Known) (x : ℕ) (s : State) (p : Place) → s.at ≡ p → eat_at r x s p ≡ eat_at r x s s.at
at_place r x s p e = sym (ap (eat_at r x s) e)

pub at_fit : {r : Known} {s : State} {p : Place} → Held r s → s.at ≡ p → Fit r s p
at_fit {r} {s} h e = subst (Fit r s) e h.fit

module _ (r : Known) where
  line_keeps : (names line : ℕ) → names ≤ r.cards → Stands r (line_from r names line)
  unfolding line_from
  line_keeps names line h =
      cond_cases (Stands r) (eqb (left_of r names line) 0) Ended (At (state Line names line 0)) (λ t. tt)
      (λ f. record { names = h; number = omega arith; fit = left_some r names line (λ e. f (rw (eq-eqb (left_of r names line) 0 e) tt)) })

  module _ (x : ℕ) (s : State) (h : s.names ≤ r.cards) where
    at : (p : Place) → Fit r (state p s.names s.line 0) p → Stands r (to s p)
    at p f = record { names = h; number = omega arith; fit = f }

    named_keeps : InName r s → Stands r (At (state Names (s.names + 1) s.line 0))
    named_keeps k = record { names = omega arith; number = omega arith; fit = tt }

    name_keeps : InLine r s → (p q : Place) → Fit r (state p s.names s.line 0) p → (0 < s.names → Fit r (state q s.names s.line 0) q) → Stands r (begin_name x s p q)
    name_keeps k p q f g = name_all (Stands r) tt x s p q (at p f) (λ o. at q (g o))

    term_keeps : InLine r s → Stands r (begin_term x s)
    term_keeps k = term_all (Stands r) tt x s (λ i. record { names = h; number = omega arith; fit = k }) (at X1 k) (λ o. at W1 (k, o))

    behind_keeps : InLine r s → Stands r (behind r x s)
    unfolding behind
    behind_keeps k = one_all (Stands r) x _ s Sign _ (at Sign k) (ended_all (Stands r) x _ Dead (line_keeps s.names (s.line + 1) h) tt)

    coefficient_keeps : InLine r s → Stands r (in_coefficient r x s)
    unfolding in_coefficient
    coefficient_keeps k =
        cond_cases (Stands r) (goes_longer 1000000000 s.number x) (At (state Coefficient s.names s.line (longer s.number x))) _
        (λ t. record { names = h; number = leb→le _ _ (and_r (leb x nine) (leb (longer s.number x) 1000000000) (and_r (leb nought x) _ t)); fit = k })
        (λ u. one_all (Stands r) x _ s First _ (at First k) (behind_keeps k))

    begin_keeps : Stands r (begin_line r x s)
    unfolding begin_line
    begin_keeps =
        ended_all (Stands r) x _ _ (line_keeps s.names 0 h)
        (cond_cases (Stands r) (ltb s.names r.cards) (one x letter_w s NewName Dead) Dead (λ t. one_all (Stands r) x letter_w s NewName Dead (at NewName (ltb→lt _ _ t)) tt) (λ u. tt))

  eat_keeps : (x k l v : ℕ) (p : Place) → Held r (state p k l v) → Stands r (eat_at r x (state p k l v) p)
  unfolding eat_at
  eat_keeps x k l v Heading h = spell_all (Stands r) tt x (state Heading k l v) heading _ (λ i. record { names = h.names; number = omega arith; fit = i }) (at x (state Heading k l v) h.names Names tt)
  eat_keeps x k l v Names h = begin_keeps x (state Names k l v) h.names
  eat_keeps x k l v NewName h = one_all (Stands r) x _ (state NewName k l v) Equals Dead (at x (state NewName k l v) h.names Equals (h.fit, omega arith)) tt
  eat_keeps x k l v Equals h =
      spell_all (Stands r) tt x (state Equals k l v) equals _ (λ i. record { names = h.names; number = omega arith; fit = (h.fit.0, i) }) (at x (state Equals k l v) h.names Factor h.fit.0)
  eat_keeps x k l v Factor h = span_all (Stands r) x _ _ (state Factor k l v) Power Dead (at x (state Factor k l v) h.names Power h.fit) tt
  eat_keeps x k l v Power h =
      one_all (Stands r) x _ (state Power k l v) Star _ (at x (state Power k l v) h.names Star h.fit) (ended_all (Stands r) x _ Dead (named_keeps x (state Power k l v) h.names h.fit) tt)
  eat_keeps x k l v Star h =
      one_all (Stands r) x _ (state Star k l v) Exponent _ (at x (state Star k l v) h.names Exponent h.fit)
      (one_all (Stands r) x _ (state Star k l v) Factor Dead (at x (state Star k l v) h.names Factor h.fit) tt)
  eat_keeps x k l v Exponent h = span_all (Stands r) x _ _ (state Exponent k l v) Digits Dead (at x (state Exponent k l v) h.names Digits h.fit) tt
  eat_keeps x k l v Digits h =
      span_all (Stands r) x _ _ (state Digits k l v) Digits _ (at x (state Digits k l v) h.names Digits h.fit)
      (one_all (Stands r) x _ (state Digits k l v) Next _ (at x (state Digits k l v) h.names Next h.fit) (ended_all (Stands r) x _ Dead (named_keeps x (state Digits k l v) h.names h.fit) tt))
  eat_keeps x k l v Next h = one_all (Stands r) x _ (state Next k l v) Factor Dead (at x (state Next k l v) h.names Factor h.fit) tt
  eat_keeps x k l v Line h = one_all (Stands r) x _ (state Line k l v) Left Dead (at x (state Line k l v) h.names Left h.fit) tt
  eat_keeps x k l v Left h = one_all (Stands r) x _ (state Left k l v) Prime Dead (at x (state Left k l v) h.names Prime (h.fit, omega arith)) tt
  eat_keeps x k l v Prime h =
      spell_all (Stands r) tt x (state Prime k l v) prime _ (λ i. record { names = h.names; number = omega arith; fit = (h.fit.0, i) }) (at x (state Prime k l v) h.names Right h.fit.0)
  eat_keeps x k l v Right h =
      one_all (Stands r) x _ (state Right k l v) Zero _ (at x (state Right k l v) h.names Zero h.fit)
      (one_all (Stands r) x _ (state Right k l v) Term _ (at x (state Right k l v) h.names Term h.fit) (term_keeps x (state Right k l v) h.names h.fit))
  eat_keeps x k l v Zero h = ended_all (Stands r) x _ Dead (line_keeps k (l + 1) h.names) tt
  eat_keeps x k l v Term h = term_keeps x (state Term k l v) h.names h.fit
  eat_keeps x k l v Coefficient h = coefficient_keeps x (state Coefficient k l v) h.names h.fit
  eat_keeps x k l v First h = name_keeps x (state First k l v) h.names h.fit X1 W1 h.fit (λ o. (h.fit, o))
  eat_keeps x k l v X1 h = span_all (Stands r) x _ _ (state X1 k l v) One Dead (at x (state X1 k l v) h.names One h.fit) tt
  eat_keeps x k l v W1 h = span_all (Stands r) x _ _ (state W1 k l v) One Dead (at x (state W1 k l v) h.names One h.fit.0) tt
  eat_keeps x k l v One h =
      one_all (Stands r) x _ (state One k l v) Times _ (at x (state One k l v) h.names Times h.fit) (behind_keeps x (state One k l v) h.names h.fit)
  eat_keeps x k l v Times h =
      one_all (Stands r) x _ (state Times k l v) Square _ (at x (state Times k l v) h.names Square h.fit)
      (name_keeps x (state Times k l v) h.names h.fit X2 W2 h.fit (λ o. (h.fit, o)))
  eat_keeps x k l v Square h = one_all (Stands r) x _ (state Square k l v) Two Dead (at x (state Square k l v) h.names Two h.fit) tt
  eat_keeps x k l v X2 h = span_all (Stands r) x _ _ (state X2 k l v) Two Dead (at x (state X2 k l v) h.names Two h.fit) tt
  eat_keeps x k l v W2 h = span_all (Stands r) x _ _ (state W2 k l v) Two Dead (at x (state W2 k l v) h.names Two h.fit.0) tt
  eat_keeps x k l v Two h = behind_keeps x (state Two k l v) h.names h.fit
  eat_keeps x k l v Sign h =
      one_all (Stands r) x _ (state Sign k l v) Gap _ (at x (state Sign k l v) h.names Gap h.fit)
      (one_all (Stands r) x _ (state Sign k l v) Gap Dead (at x (state Sign k l v) h.names Gap h.fit) tt)
  eat_keeps x k l v Gap h = one_all (Stands r) x _ (state Gap k l v) Term Dead (at x (state Gap k l v) h.names Term h.fit) tt

  pub keeps : (g : Reading) (x : ℕ) → Stands r g → Stands r (eat r g x)
  unfolding eat
  keeps Dead x h = tt
  keeps Ended x h = tt
  keeps (At s) x h = eat_keeps x s.names s.line s.number s.at h

  pub starts : Stands r start
  starts = record { names = omega arith; number = omega arith; fit = omega arith }
