-- The lines of the second part are read, and each tells its products. Assumes nothing.
use mathlib.Core.Path.{◌≡◌, refl}
use mathlib.Core.Bool.{Bool, true, false, cond}
use mathlib.Core.List.{List, [], ◌∷◌, ◌++◌, map, append-nil, append_assoc}
use Prim.Native.Nat.{ℕ, ◌+◌, ◌≤◌, ◌<◌}
use native.Mathlib.Omega.{arith}
use native.Mathlib.Numerals.{add-one}
use borrow.Author.Tests.{eq-eqb, ne_eqb}
use lib.ListN.{length, drop, drop_of_length-le}
use lib.Seq.{drop-cons}
use Rattle.monomial.specs.Lists.{gather}
use Rattle.monomial.specs.Claims.{◌∈◌}
use Rattle.monomial.proofs.Members.{here, there}
use Rattle.reader.specs.Bytes.{newline, blank, minus, nought}
use Rattle.reader.specs.Reader.{run}
use Rattle.listing.specs.Bytes.{prime}
use Rattle.listing.specs.Lines.{lefts, left_of, letter_of, digit_of}
use Rattle.listing.specs.Machine.{state, one, ended, spell, line_from, eat_at, eat}
use Rattle.listing.specs.Saying.{minus_said, number_said, saying_at, saying}
use Rattle.listing.specs.Meaning.{Naming, named, Product, Telling, telling, told}
use Rattle.listing.specs.declared.known.Known.{Known}
use Rattle.listing.specs.declared.machine.Reading.{Reading}
use Rattle.listing.specs.declared.machine.Reading.TheVariants.{Dead, Ended, At}
use Rattle.listing.specs.declared.machine.Place.TheVariants.{Line, Left, Prime, Right, Term as AtTerm, Sign}
use Rattle.listing.proofs.Finishes.{one_hit}
use Rattle.listing.proofs.lines.Laws.{left_past, left_none}
use Rattle.grammar.specs.Grammar.{Term, product_of, body_text, first_text, next_text, right_text, line_text, lines_from, TermRight}
use Rattle.grammar.proofs.Noting.{Notes, with, at, Eats, nothing, then, byte}
use Rattle.grammar.proofs.Terms.{Begins, term_begins, right_begins, place_of, number_of, first_of, second_of, product_is, body, blank_behind, newline_behind, signed_next}

module _ (k : Known) (i l : ℕ) (n : Naming) (lines : List (List Product)) where
  -- behind a term, which the next byte ends
  abbrev behind_term : List Product → Term → Notes
  behind_term terms x =
      at (place_of x.names) i l (number_of x.coefficient x.names) n (telling lines terms x.negative x.coefficient (first_of x.names) (second_of x.names))

  -- behind the line
  abbrev behind_line : List Product → Notes
  behind_line terms = with (line_from k i (l + 1)) n (telling (lines ++ (terms ∷ [])) [] false 0 0 0)

  ended_term : (terms : List Product) (x : Term) → Eats k (behind_term terms x) (blank ∷ []) (at Sign i l 0 n (telling lines (terms ++ (product_of x ∷ [])) false 0 0 0))
  unfolding told
  ended_term terms x = rw (product_is x.negative x.coefficient x.names) (blank_behind k i l n x.coefficient x.names _)

  ended_line : (terms : List Product) (x : Term) → Eats k (behind_term terms x) (newline ∷ []) (behind_line (terms ++ (product_of x ∷ [])))
  unfolding told
  ended_line terms x = rw (product_is x.negative x.coefficient x.names) (newline_behind k i l n x.coefficient x.names _)

  term_body : (terms : List Product) (x : Term) {g : Reading} → Begins k i l g → TermRight k i x
      → Eats k (with g n (telling lines terms x.negative 0 0 0)) (body_text k x.coefficient x.names) (behind_term terms x)
  term_body terms x b h = body k i l n lines terms x.negative x.coefficient x.names b h.some h.limited h.names

  -- ---- the terms behind one, up to the line's end
  rest : (ts : List Term) (x : Term) (terms : List Product) → ((y : Term) → y ∈ ts → TermRight k i y)
      → Eats k (behind_term terms x) (gather (next_text k) ts ++ (newline ∷ [])) (behind_line (terms ++ (product_of x ∷ map product_of ts)))
  unfolding gather next_text
  rest [] x terms h = ended_line terms x
  rest (y ∷ ts) x terms h =
      rw (append_assoc (body_text k y.coefficient y.names) (gather (next_text k) ts) (newline ∷ []), ← append_assoc terms (product_of x ∷ []) (product_of y ∷ map product_of ts))
      (then k (ended_term terms x)
      (then k (signed_next k i l n y.negative lines (terms ++ (product_of x ∷ [])))
      (then k (term_body (terms ++ (product_of x ∷ [])) y (term_begins k i l) (h y here)) (rest ts y (terms ++ (product_of x ∷ [])) (λ z m. h z (there m))))))

  -- ---- a right side, and the line's end
  nothing_told : Eats k (at Right i l 0 n (telling lines [] false 0 0 0)) (nought ∷ newline ∷ []) (behind_line [])
  unfolding run eat eat_at one ended saying saying_at minus_said number_said named told
  nothing_told = record { is = refl }

  begins_negative : Eats k (at Right i l 0 n (telling lines [] false 0 0 0)) (minus ∷ []) (at AtTerm i l 0 n (telling lines [] true 0 0 0))
  unfolding run eat eat_at one saying saying_at minus_said named told
  begins_negative = record { is = refl }

  first_term : (x : Term) → TermRight k i x → Eats k (at Right i l 0 n (telling lines [] false 0 0 0)) (first_text k x) (behind_term [] x)
  unfolding first_text
  first_term x h = go x.negative refl (λ g b. term_body [] x b h)
    where
      go : (negative : Bool) → x.negative ≡ negative
          → ((g : Reading) → Begins k i l g → Eats k (with g n (telling lines [] x.negative 0 0 0)) (body_text k x.coefficient x.names) (behind_term [] x))
          → Eats k (at Right i l 0 n (telling lines [] false 0 0 0)) (cond x.negative (minus ∷ []) [] ++ body_text k x.coefficient x.names) (behind_term [] x)
      go true e f = rw e (then k begins_negative (rw e at (f (At (state AtTerm i l 0)) (term_begins k i l))))
      go false e f = rw e (rw e at (f (At (state Right i l 0)) (right_begins k i l)))

  right : (ts : List Term) → ((y : Term) → y ∈ ts → TermRight k i y)
      → Eats k (at Right i l 0 n (telling lines [] false 0 0 0)) (right_text k ts ++ (newline ∷ [])) (behind_line (map product_of ts))
  unfolding right_text
  right [] h = nothing_told
  right (x ∷ ts) h =
      rw (append_assoc (first_text k x) (gather (next_text k) ts) (newline ∷ [])) (then k (first_term x (h x here)) (rest ts x [] (λ y m. h y (there m))))

  -- ---- a line
  lettered : (t : Telling) → Eats k (at Line i l 0 n t) (letter_of k (left_of k i l) ∷ []) (at Left i l 0 n t)
  unfolding eat eat_at saying saying_at named told
  lettered t = byte k (letter_of k (left_of k i l)) (one_hit (letter_of k (left_of k i l)) (state Line i l 0) Left Dead) refl

  numbered : (t : Telling) → Eats k (at Left i l 0 n t) (digit_of k (left_of k i l) ∷ []) (at Prime i l 0 n t)
  unfolding eat eat_at saying saying_at named told
  numbered t = byte k (digit_of k (left_of k i l)) (one_hit (digit_of k (left_of k i l)) (state Left i l 0) Prime Dead) refl

  primed : (t : Telling) → Eats k (at Prime i l 0 n t) prime (at Right i l 0 n t)
  unfolding run eat eat_at spell saying saying_at named told
  primed t = record { is = refl }

  pub line : (ts : List Term) → ((y : Term) → y ∈ ts → TermRight k i y)
      → Eats k (at Line i l 0 n (telling lines [] false 0 0 0)) (line_text k (left_of k i l) ts) (behind_line (map product_of ts))
  unfolding line_text
  line ts h =
      let t = telling lines [] false 0 0 0 in
      then k (lettered t) (then k (numbered t) (then k (primed t) (right ts h)))

-- the signals whose lines are to come
pub left_on : (k : Known) (i l : ℕ) → l < length (lefts k i) → drop l (lefts k i) ≡ left_of k i l ∷ drop (l + 1) (lefts k i)
unfolding left_of
left_on k i l h = rw (add-one l) (drop-cons (lefts k i) l 0 h)

-- ---- all of them
module _ (k : Known) (i : ℕ) (n : Naming) where
  line_begins : (l : ℕ) → l < length (lefts k i) → line_from k i l ≡ At (state Line i l 0)
  unfolding line_from
  line_begins l h = rw (ne_eqb (left_of k i l) 0 (λ e. let z : length (lefts k i) ≤ l = left_none k i l e in omega arith))

  lines_end : (l : ℕ) → length (lefts k i) ≤ l → line_from k i l ≡ Ended
  unfolding line_from
  lines_end l h = rw (eq-eqb (left_of k i l) 0 (left_past k i l h))

  -- the lines from number l on
  pub derivative_lines : (ls : List (List Term)) (l : ℕ) (lines : List (List Product)) → l + length ls ≡ length (lefts k i)
      → ((ts : List Term) → ts ∈ ls → (y : Term) → y ∈ ts → TermRight k i y)
      → Eats k (with (line_from k i l) n (telling lines [] false 0 0 0)) (lines_from k (drop l (lefts k i)) ls) (with Ended n (telling (lines ++ map (map product_of) ls) [] false 0 0 0))
  unfolding lines_from
  derivative_lines [] l lines c h =
      let past : length (lefts k i) ≤ l = omega arith in
      rw (drop_of_length-le (lefts k i) past, lines_end l past, append-nil lines) (nothing k)
  derivative_lines (ts ∷ ls) l lines c h =
      rw (left_on k i l (omega arith), line_begins l (omega arith), ← append_assoc lines (map product_of ts ∷ []) (map (map product_of) ls))
      (then k (line k i l n lines ts (h ts here)) (derivative_lines ls (l + 1) (lines ++ (map product_of ts ∷ [])) (omega arith) (λ x m. h x (there m))))
