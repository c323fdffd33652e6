-- A loop over the bytes of a text that follows what they say, with its notes. Assumes nothing.
use mathlib.Core.Path.{◌≡◌, refl, sym, ap, ◌∙◌}
use mathlib.Core.Logic.{⊎_elim}
use mathlib.Core.Bool.{true}
use mathlib.Core.List.{List, [], ◌∷◌, ◌++◌, append-nil, append_assoc}
use Prim.Native.Nat.{ℕ, ◌+◌, ◌≤◌, ◌<◌}
use native.Mathlib.Omega.{arith}
use lib.ListN.{length, length-append, get_or, drop}
use Rattle.monomial.specs.Monomial.{width}
use Rattle.monomial.proofs.Tests.{Tested, passed, failed, test, is_not}
use Rattle.reader.specs.Reader.{heard, noted}
use Rattle.reader.proofs.Loop.{Noting, noting_start, noting_next}
use Rattle.listing.specs.Held.{Stands}
use Rattle.listing.specs.Machine.{eat, start}
use Rattle.listing.specs.Meaning.{Naming, closed, named, unnamed, names, Product, Telling, term, told, untold, lines}
use Rattle.listing.specs.Readable.{alive, listing}
use Rattle.listing.specs.Saying.{saying}
use Rattle.listing.specs.Counted.{name_ends, line_ends, InLines, Counts}
use Rattle.listing.specs.declared.known.Known.{Known}
use Rattle.listing.specs.declared.machine.Reading.{Reading}
use Rattle.listing.specs.declared.saying.Saying.{Saying}
use Rattle.listing.specs.declared.saying.Saying.TheVariants.{Silence, Variable, Raised, Digit, NameEnds, Minus, Number, Name, Again, TermEnds, LineEnds, ZeroLine}
use Rattle.listing.proofs.Counts.{counts_next, counts_start}
use Rattle.listing.proofs.Keeps.{keeps, starts}
use Rattle.listing.proofs.Notes.{Noted, noted_start, noted_next}
use Rattle.listing.proofs.Places.{stays}
use Rattle.listing.proofs.Sounds.{sound, carded, lines_next, lines_say}

named_count : (σ : Saying) (k : Naming) → length (named σ k).whole ≡ length k.whole + name_ends σ
unfolding named
named_count Silence k = omega arith
named_count (Variable v) k = omega arith
named_count Raised k = omega arith
named_count (Digit d) k = omega arith
named_count NameEnds k = length-append k.whole (closed k ∷ [])
named_count Minus k = omega arith
named_count (Number v) k = omega arith
named_count (Name s) k = omega arith
named_count Again k = omega arith
named_count TermEnds k = omega arith
named_count LineEnds k = omega arith
named_count ZeroLine k = omega arith

told_count : (σ : Saying) (t : Telling) → length (told σ t).lines ≡ length t.lines + line_ends σ
unfolding told
told_count Silence t = omega arith
told_count (Variable v) t = omega arith
told_count Raised t = omega arith
told_count (Digit d) t = omega arith
told_count NameEnds t = omega arith
told_count Minus t = omega arith
told_count (Number v) t = omega arith
told_count (Name s) t = omega arith
told_count Again t = omega arith
told_count TermEnds t = omega arith
told_count LineEnds t = length-append t.lines ((t.terms ++ (term t ∷ [])) ∷ [])
told_count ZeroLine t = length-append t.lines (t.terms ∷ [])

told_terms : (σ : Saying) (t : Telling) → length (told σ t).terms ≤ length t.terms + 1
unfolding told
told_terms Silence t = omega arith
told_terms (Variable v) t = omega arith
told_terms Raised t = omega arith
told_terms (Digit d) t = omega arith
told_terms NameEnds t = omega arith
told_terms Minus t = omega arith
told_terms (Number v) t = omega arith
told_terms (Name s) t = omega arith
told_terms Again t = omega arith
told_terms TermEnds t = omega (arith, length-append t.terms (term t ∷ []))
told_terms LineEnds t = omega arith
told_terms ZeroLine t = omega arith

-- ---- what is noted once is kept
-- a saying that ends no name leaves those that are whole
kept_whole : (σ : Saying) (k : Naming) → name_ends σ ≡ 0 → (named σ k).whole ≡ k.whole
unfolding named
kept_whole Silence k e = refl
kept_whole (Variable v) k e = refl
kept_whole Raised k e = refl
kept_whole (Digit d) k e = refl
kept_whole NameEnds k e = absurd (omega arith)
kept_whole Minus k e = refl
kept_whole (Number v) k e = refl
kept_whole (Name s) k e = refl
kept_whole Again k e = refl
kept_whole TermEnds k e = refl
kept_whole LineEnds k e = refl
kept_whole ZeroLine k e = refl

-- in the second part all names are whole
whole_from : (r : Known) (g : Reading) (k : Naming) (rest : List ℕ) → InLines g → (noted named k (heard (listing r) (saying r) g rest)).whole ≡ k.whole
unfolding heard noted
whole_from r g k [] h = refl
whole_from r g k (x ∷ rest) h =
    whole_from r (eat r g x) (named (saying r g x) k) rest (lines_next r g x h) ∙ kept_whole (saying r g x) k (lines_say r g x h)

-- and a name that is whole stays
grows_from : (r : Known) (g : Reading) (k : Naming) (rest : List ℕ) → length k.whole ≤ length (noted named k (heard (listing r) (saying r) g rest)).whole
unfolding heard noted
grows_from r g k [] = omega arith
grows_from r g k (x ∷ rest) = omega (arith, grows_from r (eat r g x) (named (saying r g x) k) rest, named_count (saying r g x) k)

-- a line that is told stays
pub record More (l all : List (List Product)) : Type 0 where
  pub rest : List (List Product)
  pub is : all ≡ l ++ rest

more_none : (l : List (List Product)) → More l l
more_none l = record { rest = []; is = sym (append-nil l) }

more_one : (σ : Saying) (t : Telling) (all : List (List Product)) → More (told σ t).lines all → More t.lines all
unfolding told
more_one Silence t all m = m
more_one (Variable v) t all m = m
more_one Raised t all m = m
more_one (Digit d) t all m = m
more_one NameEnds t all m = m
more_one Minus t all m = m
more_one (Number v) t all m = m
more_one (Name s) t all m = m
more_one Again t all m = m
more_one TermEnds t all m = m
more_one LineEnds t all m = record { rest = _ ∷ m.rest; is = m.is ∙ append_assoc t.lines (_ ∷ []) m.rest }
more_one ZeroLine t all m = record { rest = _ ∷ m.rest; is = m.is ∙ append_assoc t.lines (_ ∷ []) m.rest }

more_from : (r : Known) (g : Reading) (t : Telling) (text : List ℕ) → More t.lines (noted told t (heard (listing r) (saying r) g text)).lines
unfolding heard noted
more_from r g t [] = more_none t.lines
more_from r g t (x ∷ text) = more_one (saying r g x) t _ (more_from r (eat r g x) (told (saying r g x) t) text)

module _ (r : Known) (text : List ℕ) where
  pub record Following (g : Reading) (i : ℕ) (k : Naming) (t : Telling) : Type 0 where
    pub stands : Stands r g
    pub counts : Counts r (length k.whole) (length t.lines) g
    pub few : length k.whole ≤ r.cards
    pub short : length t.terms ≤ i
    pub live : alive g ≡ true → Noted r.n k t
    pub naming : Noting (listing r) (saying r) named text unnamed g k i
    pub telling : Noting (listing r) (saying r) told text untold g t i

  pub following_start : Following start 0 unnamed untold
  following_start = record {
    stands = starts r;
    counts = counts_start r;
    few = omega arith;
    short = omega arith;
    live = λ e. noted_start r.n;
    naming = noting_start (listing r) (saying r) named text unnamed;
    telling = noting_start (listing r) (saying r) told text untold;
  }

  module _ {g : Reading} {i : ℕ} {k : Naming} {t : Telling} (f : Following g i k t) where
    -- what goes on has gone on
    pub lived : (x : ℕ) → alive (eat r g x) ≡ true → alive g ≡ true
    lived x e = go (test (alive g))
      where
        go : Tested (alive g) → alive g ≡ true
        go (passed a) = a
        go (failed a) = absurd (is_not (alive (eat r g x)) e (stays r g x a))

    pub following_next : r.n ≤ width → i < length text → (x : ℕ) → x ≡ get_or text i 0 → Following (eat r g x) (i + 1) (named (saying r g x) k) (told (saying r g x) t)
    following_next few h x e = record {
      stands = keeps r g x f.stands;
      counts = rw (named_count (saying r g x) k, told_count (saying r g x) t) (counts_next r (length k.whole) (length t.lines) g x f.counts);
      few = ⊎_elim (λ o. omega (arith, named_count (saying r g x) k)) (λ o. omega (arith, named_count (saying r g x) k, f.few)) (carded r _ _ g x f.stands f.counts);
      short = omega (arith, told_terms (saying r g x) t, f.short);
      live = λ a. noted_next r.n few k t (f.live (lived x a)) r refl (saying r g x) (sound r _ _ g x f.stands f.counts a);
      naming = rw e (noting_next (listing r) (saying r) named f.naming h);
      telling = rw e (noting_next (listing r) (saying r) told f.telling h);
    }

    -- the names are all there where a line is read
    pub following_whole : InLines g → k.whole ≡ names r text
    following_whole h = sym (whole_from r g k (drop i text) h) ∙ ap (λ (q : Naming). q.whole) f.naming.comes

    -- and a line that is told is one of the text
    pub following_more : More t.lines (lines r text)
    following_more = rw (← ap (λ (q : Telling). q.lines) f.telling.comes) (more_from r g t (drop i text))

    pub following_grows : length k.whole ≤ length (names r text)
    following_grows = rw (← ap (λ (q : Naming). length q.whole) f.naming.comes) (grows_from r g k (drop i text))
