-- What is left before a byte, from what is left behind it, place by place; so a text that is read from a place on is what is left there. Assumes nothing.
use mathlib.Core.Path.{◌≡◌, refl, sym, ap, subst}
use mathlib.Core.Bool.{true, false, ◌&&◌}
use mathlib.Core.List.{List, [], ◌∷◌, ◌++◌}
use Prim.Native.Nat.{ℕ, suc, ◌+◌, ◌-◌, ◌≤◌, ◌<◌}
use native.Mathlib.Omega.{arith}
use native.Mathlib.Numerals.{add-one}
use borrow.Author.Tests.{eqb-true, eq-eqb}
use lib.Dec.{T, leb, ltb, eqb, leb→le, ltb→lt}
use lib.ListN.{length, get_or, drop_of_length-le}
use lib.Seq.{drop-cons}
use Rattle.monomial.proofs.Tests.{T→is, is_not, and_l, and_r, cond_cases}
use Rattle.reader.specs.Bytes.{blank, minus, nought, nine, longer, goes_longer}
use Rattle.reader.specs.Reader.{run}
use Rattle.listing.specs.Bytes.{star, plus, letter_w, letter_x, heading, equals, prime}
use Rattle.listing.specs.Lines.{left_of}
use Rattle.listing.specs.Machine.{state, one, spell, line_from, begin_term, behind, in_coefficient, begin_line, eat_at, eat}
use Rattle.listing.specs.Readable.{listing, ends}
use Rattle.listing.specs.declared.known.Known.{Known}
use Rattle.listing.specs.declared.machine.State.{State}
use Rattle.listing.specs.declared.machine.Reading.{Reading}
use Rattle.listing.specs.declared.machine.Reading.TheVariants.{Dead, Ended, At}
use Rattle.listing.specs.declared.machine.Place.{Place}
use Rattle.listing.specs.declared.machine.Place.TheVariants.{Heading, Names as AtNames, NewName, Equals, Factor as AtFactor, Power, Star, Exponent, Digits, Next, Line, Left, Prime, Right, Zero, Term as AtTerm, Coefficient, First, X1, W1, One, Times, Square, X2, W2, Two, Sign, Gap}
use Rattle.listing.proofs.lines.Laws.{left_none, left_here}
use Rattle.lines.specs.Text.{decimal}
use Rattle.grammar.proofs.Decimals.{digit_text, longer_text}
use Rattle.grammar.proofs.Hits.{ended_hits, one_hits, span_hits, spell_hits, name_hits, term_hits}
use Rattle.grammar.proofs.Rests.{Spelled, Lines, Terms, Sum, Body, NameLines, Raised, RestAt, Rest}
use Rattle.grammar.proofs.TermsBack.{variable, new, second_none, second_square, second_name, signals-of, body_names, body_number, body_both, terms_none, terms_more, sum_none, sum_more, lines_none, lines_more}
use Rattle.grammar.proofs.NamesBack.{factors_none, factors_more, raised_not, raised-by, factors-of, names_none, names_more}

module _ (k : Known) (rest : List ℕ) where
  -- the byte x, in front of what is left at g, makes what Q says
  abbrev Back : (List ℕ → Type 0) → ℕ → Reading → Type 0
  Back Q x g = Rest k g rest → Q (x ∷ rest)

  -- ---- a fixed word
  module _ (word : List ℕ) (End : List ℕ → Type 0) where
    letter : (v : ℕ) → v + 1 < length word → Spelled word (v + 1) End rest → Spelled word v End (get_or word v 0 ∷ rest)
    letter v j w h =
        let p = w j in
        record { what = tt; right = tt; end = p.end; on = p.on; is = rw (drop-cons word v 0 h) (ap (λ r. get_or word v 0 ∷ r) (rw (add-one v) at p.is)) }

    letter_last : (v : ℕ) → length word ≤ v + 1 → End rest → Spelled word v End (get_or word v 0 ∷ rest)
    letter_last v j e h =
        let past : length word ≤ suc v = omega arith in
        record { what = tt; right = tt; end = rest; on = e; is = rw (drop-cons word v 0 h, drop_of_length-le word past) }

    spelled : (x : ℕ) (s : State) (done : Reading) → (Rest k (At (state s.at s.names s.line (s.number + 1))) rest → Spelled word (s.number + 1) End rest)
        → (Rest k done rest → End rest) → Back (Spelled word s.number End) x (spell word x s done)
    spelled x s done f g =
        spell_hits (Back (Spelled word s.number End)) x s (λ h. absurd h) word done (λ j h. letter s.number j (f h)) (λ j h. letter_last s.number j (g h))

  -- ---- what several places share
  line_back : (i l : ℕ) → Rest k (line_from k i l) rest → Lines k i l rest
  unfolding line_from
  line_back i l =
      cond_cases (λ g. Rest k g rest → Lines k i l rest) (eqb (left_of k i l) 0) Ended (At (state Line i l 0))
      (λ t e. lines_none k i l (left_none k i l (eqb-true _ _ (T→is _ t))) e) (λ u h. h (left_here k i l (λ z. u (rw (eq-eqb (left_of k i l) 0 z) tt))))

  module _ (x : ℕ) (s : State) where
    behind_back : Back (Terms k s.names s.line) x (behind k x s)
    unfolding behind
    behind_back =
        one_hits (Back (Terms k s.names s.line)) x s blank Sign _ (λ h. h)
        (ended_hits (Back (Terms k s.names s.line)) x s _ Dead (λ h. terms_none k _ _ (line_back _ _ h)) (λ h. absurd h))

    term_back : Back (Body k s.names s.line) x (begin_term x s)
    term_back =
        term_hits (Back (Body k s.names s.line)) x s (λ h. absurd h) (λ low high h. rw (digit_text x (omega arith) high) at (h (omega arith) (omega arith)))
        (λ h. body_names k _ _ h) (λ o h. body_names k _ _ (h o))

    abbrev Counted : List ℕ → Type 0
    Counted text = 1 ≤ s.number → s.number ≤ 1000000000 → Body k s.names s.line (decimal s.number ++ text)

    digit_back : T (goes_longer 1000000000 s.number x) → Back Counted x (At (state Coefficient s.names s.line (longer s.number x)))
    digit_back t h some most =
        let low = leb→le nought x (and_l (leb nought x) _ t) in
        let more = and_r (leb nought x) (leb x nine && leb (longer s.number x) 1000000000) t in
        let high = leb→le x nine (and_l (leb x nine) _ more) in
        let fits = leb→le (longer s.number x) 1000000000 (and_r (leb x nine) _ more) in
        subst (Body k s.names s.line) (longer_text x low high s.number rest some) (h (omega arith) fits)

    coefficient_back : Back Counted x (in_coefficient k x s)
    unfolding in_coefficient
    coefficient_back =
        cond_cases (Back Counted x) (goes_longer 1000000000 s.number x) (At (state Coefficient s.names s.line (longer s.number x))) _ digit_back
        (λ u. one_hits (Back Counted) x s star First _ (λ h some most. body_both k _ _ s.number some most h) (λ h some most. body_number k _ _ s.number some most (behind_back h)))

    begin_back : Back (NameLines k s.names) x (begin_line k x s)
    unfolding begin_line
    begin_back =
        ended_hits (Back (NameLines k s.names)) x s _ _ (λ h. names_none k _ (line_back _ _ h))
        (cond_cases (Back (NameLines k s.names) x) (ltb s.names k.cards) (one x letter_w s NewName Dead) Dead
        (λ t. one_hits (Back (NameLines k s.names)) x s letter_w NewName Dead (λ h. h (ltb→lt _ _ t)) (λ h. absurd h)) (λ u h. absurd h))

  -- ---- place by place
  module _ (x i l v : ℕ) where
    abbrev BackAt : Place → ℕ → Reading → Type 0
    BackAt p = Back (RestAt k p i l v)

    back_at : (p : Place) → Rest k (eat_at k x (state p i l v) p) rest → RestAt k p i l v (x ∷ rest)
    unfolding eat_at
    back_at Heading = spelled heading (NameLines k i) x (state Heading i l v) _ (λ h. h) (λ h. h)
    back_at AtNames = begin_back x (state AtNames i l v)
    back_at NewName = one_hits (BackAt NewName) x (state NewName i l v) (nought + i) Equals Dead (λ h c. names_more k i c h) (λ h. absurd h)
    back_at Equals = spelled equals _ x (state Equals i l v) _ (λ h. h) (λ h. h)
    back_at AtFactor = span_hits (BackAt AtFactor) x (state AtFactor i l v) _ _ Power Dead (λ low high h. factors-of k i x low high h) (λ h. absurd h)
    back_at Power =
        one_hits (BackAt Power) x (state Power i l v) star Star _ (λ h. h)
        (ended_hits (BackAt Power) x (state Power i l v) _ Dead (λ h. raised_not k i (factors_none k i h)) (λ h. absurd h))
    back_at Star =
        one_hits (BackAt Star) x (state Star i l v) star Exponent _ (λ h. h)
        (one_hits (BackAt Star) x (state Star i l v) letter_x AtFactor Dead (λ h. raised_not k i (factors_more k i h)) (λ h. absurd h))
    back_at Exponent =
        span_hits (BackAt Exponent) x (state Exponent i l v) _ _ Digits Dead
        (λ low high h. rw (digit_text x (omega arith) high) at (h (x - nought) (omega arith))) (λ h. absurd h)
    back_at Digits =
        span_hits (BackAt Digits) x (state Digits i l v) _ _ Digits _
        (λ low high h e some. subst (λ r. Raised k i (star ∷ star ∷ r)) (longer_text x low high e rest some) (h (longer e x) (omega arith)))
        (one_hits (BackAt Digits) x (state Digits i l v) star Next _ (λ h e some. raised-by k i e some h)
        (ended_hits (BackAt Digits) x (state Digits i l v) _ Dead (λ h e some. raised-by k i e some (factors_none k i h)) (λ h. absurd h)))
    back_at Next = one_hits (BackAt Next) x (state Next i l v) letter_x AtFactor Dead (λ h. factors_more k i h) (λ h. absurd h)
    back_at Line = one_hits (BackAt Line) x (state Line i l v) _ Left Dead (λ h. h) (λ h. absurd h)
    back_at Left = one_hits (BackAt Left) x (state Left i l v) _ Prime Dead (λ h c. lines_more k i l c h) (λ h. absurd h)
    back_at Prime = spelled prime (Sum k i l) x (state Prime i l v) _ (λ h. h) (λ h. h)
    back_at Right =
        one_hits (BackAt Right) x (state Right i l v) nought Zero _ (λ h. h)
        (one_hits (BackAt Right) x (state Right i l v) minus AtTerm _ (λ h. sum_more k i l true h) (λ h. sum_more k i l false (term_back x (state Right i l v) h)))
    back_at Zero = ended_hits (BackAt Zero) x (state Zero i l v) _ Dead (λ h. sum_none k i l (line_back i (l + 1) h)) (λ h. absurd h)
    back_at AtTerm = term_back x (state AtTerm i l v)
    back_at Coefficient = coefficient_back x (state Coefficient i l v)
    back_at First = name_hits (BackAt First) x (state First i l v) (λ h. absurd h) X1 W1 (λ h. h) (λ o h. h o)
    back_at X1 = span_hits (BackAt X1) x (state X1 i l v) _ _ One Dead (λ low high h. signals-of k i l (variable k i x low high) h) (λ h. absurd h)
    back_at W1 = span_hits (BackAt W1) x (state W1 i l v) _ _ One Dead (λ low high h o. signals-of k i l (new k i x low high o) h) (λ h. absurd h)
    back_at One = one_hits (BackAt One) x (state One i l v) star Times _ (λ h. h) (λ h. second_none k i l (behind_back x (state One i l v) h))
    back_at Times =
        one_hits (BackAt Times) x (state Times i l v) star Square _ (λ h. h) (name_hits (BackAt Times) x (state Times i l v) (λ h. absurd h) X2 W2 (λ h. h) (λ o h. h o))
    back_at Square = one_hits (BackAt Square) x (state Square i l v) (nought + 2) Two Dead (λ h. second_square k i l h) (λ h. absurd h)
    back_at X2 = span_hits (BackAt X2) x (state X2 i l v) _ _ Two Dead (λ low high h. second_name k i l (variable k i x low high) h) (λ h. absurd h)
    back_at W2 = span_hits (BackAt W2) x (state W2 i l v) _ _ Two Dead (λ low high h o. second_name k i l (new k i x low high o) h) (λ h. absurd h)
    back_at Two = behind_back x (state Two i l v)
    back_at Sign = one_hits (BackAt Sign) x (state Sign i l v) plus Gap _ (λ h. h false) (one_hits (BackAt Sign) x (state Sign i l v) minus Gap Dead (λ h. h true) (λ h. absurd h))
    back_at Gap = one_hits (BackAt Gap) x (state Gap i l v) blank AtTerm Dead (λ h negative. terms_more k i l negative h) (λ h. absurd h)

  back : (g : Reading) (x : ℕ) → Rest k (eat k g x) rest → Rest k g (x ∷ rest)
  unfolding eat
  back Dead x h = h
  back Ended x h = absurd h
  back (At s) x h = back_at x s.names s.line s.number s.at h

module _ (k : Known) where
  none_left : (g : Reading) → ends g ≡ true → Rest k g []
  none_left Dead e = absurd (is_not true refl (sym e))
  none_left Ended e = refl
  none_left (At s) e = absurd (is_not true refl (sym e))

  -- a text that is read from g on is what is left at g
  pub rest_is : (g : Reading) (text : List ℕ) → ends (run (listing k) g text) ≡ true → Rest k g text
  unfolding run
  rest_is g [] e = none_left g e
  rest_is g (x ∷ text) e = back k text g x (rest_is (eat k g x) text e)
