-- Every state that the machine comes to can be read on to the end of a listing. Assumes nothing.
use mathlib.Core.Path.{◌≡◌, refl, ◌∙◌}
use mathlib.Core.Bool.{Bool, true, false, cond}
use mathlib.Core.List.{List}
use Prim.Native.Nat.{ℕ, zero, suc, ◌+◌, ◌-◌, ◌≤◌}
use native.Mathlib.Omega.{arith}
use lib.Dec.{ltb, eqb}
use lib.ListN.{length, get_or}
use borrow.Author.Tests.{eq-eqb, le-leb, le-ltb}
use Rattle.reader.specs.Bytes.{newline, blank, nought}
use Rattle.listing.specs.Bytes.{plus, letter_x, heading, equals, prime}
use Rattle.listing.specs.Lines.{lefts, left_of, letter_of, digit_of}
use Rattle.listing.specs.Machine.{state, to, one, span, ended, spell, line_from, begin_name, begin_term, behind, in_coefficient, begin_line, eat_at, eat}
use Rattle.listing.specs.Held.{Fair, Held}
use Rattle.reader.specs.Reader.{Bytes, Finishes}
use Rattle.reader.proofs.Finish.{byte_at, finished, more, by}
use Rattle.monomial.proofs.Tests.{Tested, passed, failed, test}
use Rattle.listing.specs.Readable.{listing}
use Rattle.listing.specs.declared.known.Known.{Known}
use Rattle.listing.specs.declared.machine.State.{State}
use Rattle.listing.specs.declared.machine.Reading.{Reading}
use Rattle.listing.specs.declared.machine.Reading.TheVariants.{Dead, Ended, At}
use Rattle.listing.specs.declared.machine.Place.{Place}
use Rattle.listing.specs.declared.machine.Place.TheVariants.{Heading, Names, NewName, Equals, Factor, Power, Star, Exponent, Digits, Next, Line, Left, Prime, Right, Zero, Term, Coefficient, First, X1, W1, One, Times, Square, X2, W2, Two, Sign, Gap}
use Rattle.listing.proofs.lines.Laws.{left_past, letter_byte, digit_byte}

pub one_hit : (x : ℕ) (s : State) (p : Place) (other : Reading) → one x x s p other ≡ to s p
unfolding one
one_hit x s p other = rw (eq-eqb x x refl)

pub span_hit : (x low high : ℕ) (s : State) (p : Place) (other : Reading) → low ≤ x → x ≤ high → span x low high s p other ≡ to s p
unfolding span
span_hit x low high s p other h k = rw (le-leb low x h, le-leb x high k)

module _ (r : Known) (fair : Fair r) where
  abbrev Goes : Reading → Type 0
  Goes g = Finishes (listing r) g

  whole : Goes Ended
  whole = finished (listing r) Ended refl

  -- ---- the rest of a fixed word
  module _ (word : List ℕ) (p : Place) (k l : ℕ) (done : Reading) where
    abbrev Spells : Type 0
    Spells = (x v : ℕ) → eat r (At (state p k l v)) x ≡ spell word x (state p k l v) done

    letter : (v : ℕ) → Spells → (b : Bool) → ltb (v + 1) (length word) ≡ b → eat r (At (state p k l v)) (get_or word v 0) ≡ cond b (At (state p k l (v + 1))) done
    unfolding spell
    letter v f b e = f (get_or word v 0) v ∙ rw (eq-eqb (get_or word v 0) (get_or word v 0) refl, e)

    spelled : Spells → Bytes word → Goes done → (m v : ℕ) → length word ≤ v + m → Goes (At (state p k l v))
    spelled f w d zero v h = by (listing r) (At (state p k l v)) _ (get_or word v 0) (byte_at word v w) (letter v f false (le-ltb (v + 1) (length word) (omega arith))) d
    spelled f w d (suc m) v h = go (test (ltb (v + 1) (length word))) (spelled f w d m (v + 1) (omega arith))
      where
        go : Tested (ltb (v + 1) (length word)) → Goes (At (state p k l (v + 1))) → Goes (At (state p k l v))
        go (passed e) ih = by (listing r) (At (state p k l v)) _ (get_or word v 0) (byte_at word v w) (letter v f true e) ih
        go (failed e) ih = by (listing r) (At (state p k l v)) _ (get_or word v 0) (byte_at word v w) (letter v f false e) d

  -- ---- a line of the second part: the derivative 0 finishes it
  module _ (k l : ℕ) (small : k ≤ 100) (next : Goes (line_from r k (l + 1))) where
    from_zero : (v : ℕ) → Goes (At (state Zero k l v))
    unfolding eat eat_at ended
    from_zero v = more (listing r) (At (state Zero k l v)) newline (omega arith) next

    from_right : (v : ℕ) → Goes (At (state Right k l v))
    unfolding eat eat_at one
    from_right v = more (listing r) (At (state Right k l v)) nought (omega arith) (from_zero 0)

    from_prime : (v : ℕ) → Goes (At (state Prime k l v))
    unfolding eat eat_at
    from_prime v = spelled prime Prime k l (At (state Right k l 0)) (λ x u. refl) (omega arith) (from_right 0) 4 v (omega arith)

    from_left : (v : ℕ) → Goes (At (state Left k l v))
    unfolding eat eat_at
    from_left v = by (listing r) (At (state Left k l v)) _ (digit_of r (left_of r k l)) (digit_byte r k l fair.few small) (one_hit _ (state Left k l v) Prime Dead) (from_prime 0)

    from_line : (v : ℕ) → Goes (At (state Line k l v))
    unfolding eat eat_at
    from_line v = by (listing r) (At (state Line k l v)) _ (letter_of r (left_of r k l)) (letter_byte r (left_of r k l)) (one_hit _ (state Line k l v) Left Dead) (from_left 0)

  line_at : (k l : ℕ) (b : Bool) → eqb (left_of r k l) 0 ≡ b → line_from r k l ≡ cond b Ended (At (state Line k l 0))
  unfolding line_from
  line_at k l b e = rw e

  lines_within : (k m l : ℕ) → k ≤ 100 → length (lefts r k) ≤ l + m → Goes (line_from r k l)
  lines_within k zero l small h = rw (line_at k l true (eq-eqb (left_of r k l) 0 (left_past r k l (omega arith)))) whole
  lines_within k (suc m) l small h = go (test (eqb (left_of r k l) 0)) (lines_within k m (l + 1) small (omega arith))
    where
      go : Tested (eqb (left_of r k l) 0) → Goes (line_from r k (l + 1)) → Goes (line_from r k l)
      go (passed e) ih = rw (line_at k l true e) whole
      go (failed e) ih = rw (line_at k l false e) (from_line k l small ih 0)

  lines : (k l : ℕ) → k ≤ 100 → Goes (line_from r k l)
  lines k l small = lines_within k (length (lefts r k)) l small (omega arith)

  -- ---- the places of a right side: a name, then the line's end
  module _ (k l : ℕ) (small : k ≤ 100) where
    from_two : (v : ℕ) → Goes (At (state Two k l v))
    unfolding eat eat_at behind one ended
    from_two v = more (listing r) (At (state Two k l v)) newline (omega arith) (lines k (l + 1) small)

    from_one : (v : ℕ) → Goes (At (state One k l v))
    unfolding eat eat_at behind one ended
    from_one v = more (listing r) (At (state One k l v)) newline (omega arith) (lines k (l + 1) small)

    from_coefficient : (v : ℕ) → Goes (At (state Coefficient k l v))
    unfolding eat eat_at in_coefficient behind one ended
    from_coefficient v = more (listing r) (At (state Coefficient k l v)) newline (omega arith) (lines k (l + 1) small)

    from_square : (v : ℕ) → Goes (At (state Square k l v))
    unfolding eat eat_at one
    from_square v = more (listing r) (At (state Square k l v)) (nought + 2) (omega arith) (from_two 0)

    from_w1 : (v : ℕ) → Goes (At (state W1 k l v))
    unfolding eat eat_at
    from_w1 v = by (listing r) (At (state W1 k l v)) _ nought (omega arith) (span_hit nought nought (nought + (k - 1)) (state W1 k l v) One Dead (omega arith) (omega arith)) (from_one 0)

    from_w2 : (v : ℕ) → Goes (At (state W2 k l v))
    unfolding eat eat_at
    from_w2 v = by (listing r) (At (state W2 k l v)) _ nought (omega arith) (span_hit nought nought (nought + (k - 1)) (state W2 k l v) Two Dead (omega arith) (omega arith)) (from_two 0)

  module _ (k l : ℕ) (small : k ≤ 100) where
    from_x1 : (v : ℕ) → Goes (At (state X1 k l v))
    unfolding eat eat_at
    from_x1 v = by (listing r) (At (state X1 k l v)) _ (nought + 1) (omega arith) (span_hit (nought + 1) (nought + 1) (nought + r.n) (state X1 k l v) One Dead (omega arith) (omega arith)) (from_one k l small 0)

    from_x2 : (v : ℕ) → Goes (At (state X2 k l v))
    unfolding eat eat_at
    from_x2 v = by (listing r) (At (state X2 k l v)) _ (nought + 1) (omega arith) (span_hit (nought + 1) (nought + 1) (nought + r.n) (state X2 k l v) Two Dead (omega arith) (omega arith)) (from_two k l small 0)

    from_first : (v : ℕ) → Goes (At (state First k l v))
    unfolding eat eat_at begin_name one
    from_first v = more (listing r) (At (state First k l v)) letter_x (omega arith) (from_x1 0)

    from_term : (v : ℕ) → Goes (At (state Term k l v))
    unfolding eat eat_at begin_term begin_name one
    from_term v = more (listing r) (At (state Term k l v)) letter_x (omega arith) (from_x1 0)

    from_times : (v : ℕ) → Goes (At (state Times k l v))
    unfolding eat eat_at begin_name one
    from_times v = more (listing r) (At (state Times k l v)) letter_x (omega arith) (from_x2 0)

    from_gap : (v : ℕ) → Goes (At (state Gap k l v))
    unfolding eat eat_at one
    from_gap v = more (listing r) (At (state Gap k l v)) blank (omega arith) (from_term 0)

    from_sign : (v : ℕ) → Goes (At (state Sign k l v))
    unfolding eat eat_at one
    from_sign v = more (listing r) (At (state Sign k l v)) plus (omega arith) (from_gap 0)

  -- ---- the places of the first part: the variable x1, then the line's end and the blank line
  from_names : (k l v : ℕ) → k ≤ 100 → Goes (At (state Names k l v))
  unfolding eat eat_at begin_line ended
  from_names k l v small = more (listing r) (At (state Names k l v)) newline (omega arith) (lines k 0 small)

  module _ (k l : ℕ) (small : k ≤ 99) where
    from_power : (v : ℕ) → Goes (At (state Power k l v))
    unfolding eat eat_at one ended
    from_power v = more (listing r) (At (state Power k l v)) newline (omega arith) (from_names (k + 1) l 0 (omega arith))

    from_digits : (v : ℕ) → Goes (At (state Digits k l v))
    unfolding eat eat_at span one ended
    from_digits v = more (listing r) (At (state Digits k l v)) newline (omega arith) (from_names (k + 1) l 0 (omega arith))

    from_exponent : (v : ℕ) → Goes (At (state Exponent k l v))
    unfolding eat eat_at span
    from_exponent v = more (listing r) (At (state Exponent k l v)) (nought + 1) (omega arith) (from_digits 0)

  module _ (k l : ℕ) (small : k ≤ 99) where
    from_factor : (v : ℕ) → Goes (At (state Factor k l v))
    unfolding eat eat_at
    from_factor v = by (listing r) (At (state Factor k l v)) _ (nought + 1) (omega arith) (span_hit (nought + 1) (nought + 1) (nought + r.n) (state Factor k l v) Power Dead (omega arith) (omega arith)) (from_power k l small 0)

    from_next : (v : ℕ) → Goes (At (state Next k l v))
    unfolding eat eat_at one
    from_next v = more (listing r) (At (state Next k l v)) letter_x (omega arith) (from_factor 0)

    from_star : (v : ℕ) → Goes (At (state Star k l v))
    unfolding eat eat_at one
    from_star v = more (listing r) (At (state Star k l v)) letter_x (omega arith) (from_factor 0)

    from_equals : (v : ℕ) → Goes (At (state Equals k l v))
    unfolding eat eat_at
    from_equals v = spelled equals Equals k l (At (state Factor k l 0)) (λ x u. refl) (omega arith) (from_factor 0) 4 v (omega arith)

    from_new : (v : ℕ) → Goes (At (state NewName k l v))
    unfolding eat eat_at
    from_new v = by (listing r) (At (state NewName k l v)) _ (nought + k) (omega arith) (one_hit _ (state NewName k l v) Equals Dead) (from_equals 0)

    from_heading : (v : ℕ) → Goes (At (state Heading k l v))
    unfolding eat eat_at
    from_heading v = spelled heading Heading k l (At (state Names k l 0)) (λ x u. refl) (omega arith) (from_names k l 0 (omega arith)) 22 v (omega arith)

  from_place : (p : Place) (k l v : ℕ) → k ≤ 99 → Goes (At (state p k l v))
  from_place Heading k l v h = from_heading k l h v
  from_place Names k l v h = from_names k l v (omega arith)
  from_place NewName k l v h = from_new k l h v
  from_place Equals k l v h = from_equals k l h v
  from_place Factor k l v h = from_factor k l h v
  from_place Power k l v h = from_power k l h v
  from_place Star k l v h = from_star k l h v
  from_place Exponent k l v h = from_exponent k l h v
  from_place Digits k l v h = from_digits k l h v
  from_place Next k l v h = from_next k l h v
  from_place Line k l v h = from_line k l (omega arith) (lines k (l + 1) (omega arith)) v
  from_place Left k l v h = from_left k l (omega arith) (lines k (l + 1) (omega arith)) v
  from_place Prime k l v h = from_prime k l (omega arith) (lines k (l + 1) (omega arith)) v
  from_place Right k l v h = from_right k l (omega arith) (lines k (l + 1) (omega arith)) v
  from_place Zero k l v h = from_zero k l (omega arith) (lines k (l + 1) (omega arith)) v
  from_place Term k l v h = from_term k l (omega arith) v
  from_place Coefficient k l v h = from_coefficient k l (omega arith) v
  from_place First k l v h = from_first k l (omega arith) v
  from_place X1 k l v h = from_x1 k l (omega arith) v
  from_place W1 k l v h = from_w1 k l (omega arith) v
  from_place One k l v h = from_one k l (omega arith) v
  from_place Times k l v h = from_times k l (omega arith) v
  from_place Square k l v h = from_square k l (omega arith) v
  from_place X2 k l v h = from_x2 k l (omega arith) v
  from_place W2 k l v h = from_w2 k l (omega arith) v
  from_place Two k l v h = from_two k l (omega arith) v
  from_place Sign k l v h = from_sign k l (omega arith) v
  from_place Gap k l v h = from_gap k l (omega arith) v

  pub finishes : (s : State) → Held r s → Finishes (listing r) (At s)
  finishes s h = from_place s.at s.names s.line s.number (omega arith)

  pub ended_finishes : Finishes (listing r) Ended
  ended_finishes = whole
