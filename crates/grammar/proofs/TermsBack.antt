-- A byte in front of what is left of a tree is what is left before it: terms, and lines of the second part. Assumes nothing.
use mathlib.Core.Path.{◌≡◌, refl, sym, ap, ◌∙◌, subst}
use mathlib.Core.Bool.{Bool, cond}
use mathlib.Core.List.{List, [], ◌∷◌, ◌++◌}
use Prim.Native.Nat.{ℕ, zero, suc, ◌+◌, ◌-◌, ◌≤◌, ◌<◌}
use native.Mathlib.Omega.{arith}
use borrow.Author.Tests.{le-leb, lt-leb}
use lib.ListN.{length, drop, drop_of_length-le}
use Rattle.monomial.specs.Lists.{gather}
use Rattle.monomial.specs.Claims.{◌∈◌}
use Rattle.lines.specs.Text.{decimal}
use Rattle.reader.specs.Bytes.{newline, blank, minus, nought}
use Rattle.listing.specs.Bytes.{star, plus, letter_w, letter_x, prime}
use Rattle.listing.specs.Lines.{lefts, left_of, letter_of, digit_of}
use Rattle.listing.specs.declared.known.Known.{Known}
use Rattle.grammar.specs.Grammar.{Names, none, alone, square, both, Term, signal_text, names_text, body_text, first_text, next_text, right_text, line_text, lines_from, Signal, NamesRight, TermRight}
use Rattle.grammar.proofs.Terms.{Some}
use Rattle.grammar.proofs.DerivativeLines.{left_on}
use Rattle.grammar.proofs.Gluing.{glued, each, each_none}
use Rattle.grammar.proofs.Rests.{Spelled, Second, nothing, itself, another, signed_by, Lines, second_text, SecondRight, bare_text, Terms, Sum, Seconds, Signals, Body}

-- ---- names
-- a first name, and what follows it
unfoldable pub with_first : ℕ → Second → Names
with_first s nothing = alone s
with_first s itself = square s
with_first s (another t) = both s t

some_names : (m : Names) → Some m → m ≡ none → ⊥
some_names m s e = subst (λ n. Some n) e s

module _ (k : Known) where
  -- a signal by its two bytes
  pub record Written (i letter digit : ℕ) : Type 0 where
    pub signal : ℕ
    pub right : Signal k i signal
    pub is : signal_text k signal ≡ letter ∷ digit ∷ []

  pub variable : (i x : ℕ) → nought + 1 ≤ x → x ≤ nought + k.n → Written i letter_x x
  unfolding letter_of digit_of
  variable i x low high =
      let e : nought + (x - nought) ≡ x = omega arith in
      record { signal = x - nought; right = (omega arith, omega arith); is = rw (le-leb (x - nought) k.n (omega arith), e) }

  pub new : (i x : ℕ) → nought ≤ x → x ≤ nought + (i - 1) → 0 < i → Written i letter_w x
  unfolding letter_of digit_of
  new i x low high some =
      let e : nought + ((k.n + 1 + (x - nought)) - (k.n + 1)) ≡ x = omega arith in
      record { signal = k.n + 1 + (x - nought); right = (omega arith, omega arith); is = rw (lt-leb (k.n + 1 + (x - nought)) k.n (omega arith), e) }

  first_right : (i s : ℕ) (q : Second) → Signal k i s → SecondRight k i q → Some (with_first s q) × NamesRight k i (with_first s q)
  unfolding with_first
  first_right i s nothing h j = (tt, h)
  first_right i s itself h j = (tt, h)
  first_right i s (another t) h j = (tt, (h, j))

  pub first-text : (s : ℕ) (q : Second) → names_text k (with_first s q) ≡ signal_text k s ++ second_text k q
  unfolding with_first names_text
  first-text s nothing = refl
  first-text s itself = refl
  first-text s (another t) = refl

  -- ---- coefficients
  number_text : (c : ℕ) → 1 ≤ c → body_text k c none ≡ decimal c
  unfolding body_text
  number_text zero h = absurd (omega arith)
  number_text (suc c) h = refl

  both_text : (c : ℕ) (m : Names) → 1 ≤ c → Some m → body_text k c m ≡ decimal c ++ (star ∷ names_text k m)
  unfolding body_text
  both_text zero m h s = absurd (omega arith)
  both_text (suc c) none h s = absurd s
  both_text (suc c) (alone a) h s = refl
  both_text (suc c) (square a) h s = refl
  both_text (suc c) (both a b) h s = refl

  bare_right : (i c : ℕ) (m : Names) → c ≤ 1000000000 → Some m × NamesRight k i m → (negative : Bool) → TermRight k i (signed_by negative (record { coefficient = c; names = m }))
  bare_right i c m h r negative = record { some = λ e. absurd (some_names m r.0 e); limited = h; names = r.1 }

  module _ (i l : ℕ) {text : List ℕ} where
    -- ---- behind the first name of a term
    pub second_none : Terms k i l text → Seconds k i l text
    second_none t = record { what = nothing; right = tt; end = text; on = t; is = refl }

    pub second_square : Terms k i l text → Seconds k i l (star ∷ star ∷ (nought + 2) ∷ text)
    second_square t = record { what = itself; right = tt; end = text; on = t; is = refl }

    pub second_name : {letter digit : ℕ} → Written i letter digit → Terms k i l text → Seconds k i l (star ∷ letter ∷ digit ∷ text)
    second_name w t = record { what = another w.signal; right = w.right; end = text; on = t; is = ap (λ r. star ∷ r ++ text) (sym w.is) }

    -- ---- its names
    pub signals-of : {letter digit : ℕ} → Written i letter digit → Seconds k i l text → Signals k i l (letter ∷ digit ∷ text)
    signals-of w q = record {
      what = with_first w.signal q.what;
      right = first_right i w.signal q.what w.right q.right;
      end = q.end;
      on = q.on;
      is = rw (first-text w.signal q.what) (glued (signal_text k w.signal) (second_text k q.what) q.end (ap (λ r. r ++ text) (sym w.is)) q.is);
    }

    -- ---- all but its sign: names, a coefficient, or both
    pub body_names : Signals k i l text → Body k i l text
    unfolding body_text
    body_names n =
        record { what = record { coefficient = 0; names = n.what }; right = bare_right i 0 n.what (omega arith) n.right; end = n.end; on = n.on; is = n.is }

    pub body_number : (c : ℕ) → 1 ≤ c → c ≤ 1000000000 → Terms k i l text → Body k i l (decimal c ++ text)
    body_number c h j t = record {
      what = record { coefficient = c; names = none };
      right = λ negative. record { some = λ e. h; limited = j; names = tt };
      end = text;
      on = t;
      is = rw (number_text c h);
    }

    pub body_both : (c : ℕ) → 1 ≤ c → c ≤ 1000000000 → Signals k i l text → Body k i l (decimal c ++ (star ∷ text))
    body_both c h j n = record {
      what = record { coefficient = c; names = n.what };
      right = bare_right i c n.what j n.right;
      end = n.end;
      on = n.on;
      is = rw (both_text c n.what h n.right.0) (glued (decimal c) (star ∷ names_text k n.what) n.end refl (ap (λ r. star ∷ r) n.is));
    }

    -- ---- the terms of a line, up to its end
    pub terms_none : Lines k i (l + 1) text → Terms k i l (newline ∷ text)
    unfolding gather
    terms_none h = record { what = []; right = each_none (TermRight k i); end = text; on = h; is = refl }

    pub terms_more : (negative : Bool) → Body k i l text → Terms k i l (blank ∷ cond negative minus plus ∷ blank ∷ text)
    unfolding gather next_text
    terms_more negative b =
        let t = b.on in
        record {
          what = signed_by negative b.what ∷ t.what;
          right = each (TermRight k i) (b.right negative) t.right;
          end = t.end;
          on = t.on;
          is = ap (λ r. blank ∷ cond negative minus plus ∷ blank ∷ r) (glued (bare_text k b.what) (gather (next_text k) t.what) (newline ∷ t.end) b.is t.is);
        }

    pub sum_none : Lines k i (l + 1) text → Sum k i l (nought ∷ newline ∷ text)
    unfolding right_text
    sum_none h = record { what = []; right = each_none (TermRight k i); end = text; on = h; is = refl }

    pub sum_more : (negative : Bool) → Body k i l text → Sum k i l (cond negative (minus ∷ []) [] ++ text)
    unfolding right_text first_text
    sum_more negative b =
        let t = b.on in
        let sign : List ℕ = cond negative (minus ∷ []) [] in
        record {
          what = signed_by negative b.what ∷ t.what;
          right = each (TermRight k i) (b.right negative) t.right;
          end = t.end;
          on = t.on;
          is = glued (sign ++ bare_text k b.what) (gather (next_text k) t.what) (newline ∷ t.end) (glued sign (bare_text k b.what) b.end refl b.is) t.is;
        }

    -- ---- lines
    pub lines_none : length (lefts k i) ≤ l → text ≡ [] → Lines k i l text
    unfolding lines_from
    lines_none h e = record {
      lines = [];
      told = rw (drop_of_length-le (lefts k i) h);
      terms = each_none (λ ts. (t : Term) → t ∈ ts → TermRight k i t);
      is = rw (drop_of_length-le (lefts k i) h) e;
    }

    pub lines_more : l < length (lefts k i) → Spelled prime 0 (Sum k i l) text → Lines k i l (letter_of k (left_of k i l) ∷ digit_of k (left_of k i l) ∷ text)
    unfolding lines_from line_text
    lines_more h w =
        let p = w (omega arith) in
        let s = p.on in
        let ls = s.on in
        let more : List ℕ = lines_from k (drop (l + 1) (lefts k i)) ls.lines in
        let sum : p.end ≡ (right_text k s.what ++ (newline ∷ [])) ++ more =
        glued (right_text k s.what) (newline ∷ []) more s.is (ap (λ r. newline ∷ r) ls.is) in
        record {
          lines = s.what ∷ ls.lines;
          told = rw (left_on k i l h) (ap suc ls.told);
          terms = each (λ ts. (t : Term) → t ∈ ts → TermRight k i t) s.right ls.terms;
          is = rw (left_on k i l h) (ap (λ r. letter_of k (left_of k i l) ∷ digit_of k (left_of k i l) ∷ r) (p.is ∙ ap (λ r. prime ++ r) sum));
        }
