-- How many lines the second part has at most, and that a line's signal has one digit. Assumes nothing.
use mathlib.Core.Path.{◌≡◌, refl, sym, ap, ◌∙◌}
use mathlib.Core.Bool.{Bool, true, false, cond}
use mathlib.Core.List.{List, ◌∷◌, ◌++◌}
use Prim.Native.Nat.{ℕ, zero, suc, ◌+◌, ◌-◌, ◌/◌, ◌%◌, ◌≤◌, ◌<◌}
use native.Mathlib.Omega.{arith}
use lib.Dec.{leb, ltb, leb→le}
use lib.ListN.{length, get_or, length-append, get_or-eq_default}
use borrow.Author.Tests.{ltb-false, ltb-true, eq-eqb, ne_eqb}
use Rattle.std.specs.Prelude.{Option, Some, None, slice_get, unwrap_or}
use Rattle.std.proofs.lemmas.Option.{slice_get_past, unwrap_or-slice_get}
use Rattle.wiring.specs.Sockets.{halved, marked}
use Rattle.listing.specs.Lines.{unmarked, up_from, lefts, left_of, letter_of, digit_of}
use Rattle.reader.specs.Bytes.{nought}
use Rattle.listing.specs.Bytes.{letter_x, letter_w}
use Rattle.listing.specs.declared.known.Known.{Known}
use Rattle.monomial.proofs.Tests.{Tested, passed, failed, test, cond_cases}

up_from_length : (i k : ℕ) → length (up_from i k) ≡ k
unfolding up_from
up_from_length i zero = refl
up_from_length i (suc k) = ap suc (up_from_length (i + 1) k)

unmarked_length : (k marks i : ℕ) → length (unmarked k marks i) ≤ k
unfolding unmarked
unmarked_length zero marks i = omega arith
unmarked_length (suc k) marks i =
    let ih : length (unmarked k (marks / 2) (i + 1)) ≤ k = unmarked_length k (marks / 2) (i + 1) in
    cond_cases (λ l. length l ≤ suc k) (marked marks 0) (unmarked k (marks / 2) (i + 1)) (i ∷ unmarked k (marks / 2) (i + 1)) (λ t. omega arith) (λ f. omega arith)

pub lefts_length : (r : Known) (names : ℕ) → length (lefts r names) ≤ r.n + names
unfolding lefts
lefts_length r names =
    simp (length-append, up_from_length) (omega (arith, unmarked_length r.n r.marks 1))

pub left_past : (r : Known) (names line : ℕ) → length (lefts r names) ≤ line → left_of r names line ≡ 0
unfolding left_of
left_past r names line h = get_or-eq_default (lefts r names) 0 h

-- a line that has a signal is one of those
pub left_some : (r : Known) (names line : ℕ) → (left_of r names line ≡ 0 → ⊥) → line < r.n + names
left_some r names line f = go (test (ltb line (length (lefts r names))))
  where
    go : Tested (ltb line (length (lefts r names))) → line < r.n + names
    go (passed e) = omega (arith, ltb-true line (length (lefts r names)) e, lefts_length r names)
    go (failed e) = absurd (f (left_past r names line (ltb-false line (length (lefts r names)) e)))

-- ---- every name of a line is written with a byte
up_from_bound : (i k j : ℕ) → get_or (up_from i k) j 0 ≤ i + k
unfolding up_from
up_from_bound i zero j = omega arith
up_from_bound i (suc k) zero = omega arith
up_from_bound i (suc k) (suc j) = let ih : get_or (up_from (i + 1) k) j 0 ≤ (i + 1) + k = up_from_bound (i + 1) k j in omega arith

later : (x m : ℕ) (l : List ℕ) → x ≤ m → ((j : ℕ) → get_or l j 0 ≤ m) → (j : ℕ) → get_or (x ∷ l) j 0 ≤ m
later x m l h f zero = h
later x m l h f (suc j) = f j

left_within : (m c k marks i : ℕ) → i + k ≤ m → (j : ℕ) → get_or (unmarked k marks i ++ up_from m c) j 0 ≤ m + c
unfolding unmarked
left_within m c zero marks i h j = up_from_bound m c j
left_within m c (suc k) marks i h j = go (left_within m c k (marks / 2) (i + 1) (omega arith))
  where
    go : ((q : ℕ) → get_or (unmarked k (marks / 2) (i + 1) ++ up_from m c) q 0 ≤ m + c)
        → get_or (cond (marked marks 0) (unmarked k (marks / 2) (i + 1)) (i ∷ unmarked k (marks / 2) (i + 1)) ++ up_from m c) j 0 ≤ m + c
    go ih =
        cond_cases (λ l. get_or (l ++ up_from m c) j 0 ≤ m + c) (marked marks 0) (unmarked k (marks / 2) (i + 1)) (i ∷ unmarked k (marks / 2) (i + 1))
        (λ t. ih j) (λ u. later i (m + c) (unmarked k (marks / 2) (i + 1) ++ up_from m c) (omega arith) ih j)

left_bound : (r : Known) (names line : ℕ) → left_of r names line ≤ (r.n + 1) + names
unfolding left_of lefts
left_bound r names line = left_within (r.n + 1) names r.n r.marks 1 (omega arith) line

pub letter_byte : (r : Known) (signal : ℕ) → letter_of r signal < 256
unfolding letter_of
letter_byte r signal = cond_cases (λ x. x < 256) (leb signal r.n) letter_x letter_w (λ t. omega arith) (λ u. omega arith)

pub digit_byte : (r : Known) (names line : ℕ) → r.n ≤ 9 → names ≤ 100 → digit_of r (left_of r names line) < 256
unfolding digit_of
digit_byte r names line few small =
    cond_cases (λ x. x < 256) (leb (left_of r names line) r.n) (nought + left_of r names line) (nought + (left_of r names line - (r.n + 1)))
    (λ t. omega (arith, leb→le (left_of r names line) r.n t)) (λ u. omega (arith, left_bound r names line))

-- ---- the loop that looks for the signal of a line: `more` lines are still to be passed from variable i on
up_from_at : (i k j : ℕ) → j < k → slice_get (up_from i k) j ≡ Some (i + j)
unfolding up_from
up_from_at i zero j h = absurd (omega arith)
up_from_at i (suc k) zero h = ap Some (let e : i ≡ i + 0 = omega arith in e)
up_from_at i (suc k) (suc j) h = up_from_at (i + 1) k j (omega arith) ∙ ap Some (let e : (i + 1) + j ≡ i + suc j = omega arith in e)

-- the lowest bit
bit_off : (marks : ℕ) → marks % 2 ≡ 0 → marked marks 0 ≡ false
unfolding marked halved
bit_off marks e = ne_eqb (marks % 2) 1 (omega arith)

bit_on : (marks : ℕ) → (marks % 2 ≡ 0 → ⊥) → marked marks 0 ≡ true
unfolding marked halved
bit_on marks e = eq-eqb (marks % 2) 1 (omega arith)

unmarked_on : (k marks i : ℕ) (b : Bool) → marked marks 0 ≡ b → unmarked (suc k) marks i ≡ cond b (unmarked k (marks / 2) (i + 1)) (i ∷ unmarked k (marks / 2) (i + 1))
unfolding unmarked
unmarked_on k marks i b e = rw e

-- what is told of a line, as a number
pub left_told : (r : Known) (names line : ℕ) (o : Option ℕ) → o ≡ slice_get (lefts r names) line → unwrap_or o 0 ≡ left_of r names line
unfolding left_of
left_told r names line o e = ap (λ (p : Option ℕ). unwrap_or p 0) e ∙ unwrap_or-slice_get (lefts r names) line 0

pub record Counting (r : Known) (names line marks i more : ℕ) : Type 0 where
  pub left : ℕ
  pub total : i + left ≡ r.n + 1
  pub low : 1 ≤ i
  pub rest : slice_get (unmarked left marks i ++ up_from (r.n + 1) names) more ≡ slice_get (lefts r names) line

pub counting_start : (r : Known) (names line : ℕ) → Counting r names line r.marks 1 line
unfolding lefts
counting_start r names line = record { left = r.n; total = omega arith; low = omega arith; rest = refl }

module _ {r : Known} {names line marks i more : ℕ} (c : Counting r names line marks i more) where
  here_at : (k : ℕ) → 0 < k → marks % 2 ≡ 0 → slice_get (unmarked k marks i ++ up_from (r.n + 1) names) 0 ≡ Some i
  here_at zero h e = absurd (omega arith)
  here_at (suc k) h e = rw (unmarked_on k marks i false (bit_off marks e))

  pub counting_here : i ≤ r.n → marks % 2 ≡ 0 → more ≡ 0 → Some i ≡ slice_get (lefts r names) line
  counting_here h e z = sym (here_at c.left (omega arith) e) ∙ rw z at c.rest

  next_at : (k j : ℕ) → c.left ≡ suc k → more ≡ suc j → marks % 2 ≡ 0 → slice_get (unmarked k (marks / 2) (i + 1) ++ up_from (r.n + 1) names) j ≡ slice_get (lefts r names) line
  next_at k j l m e =
      let whole : slice_get (unmarked (suc k) marks i ++ up_from (r.n + 1) names) (suc j) ≡ slice_get (lefts r names) line = rw (l, m) at c.rest in
      rw (unmarked_on k marks i false (bit_off marks e)) at whole

  pub counting_next : i ≤ r.n → marks % 2 ≡ 0 → 0 < more → Counting r names line (marks / 2) (i + 1) (more - 1)
  counting_next h e m = record { left = c.left - 1; total = omega arith; low = omega arith; rest = next_at (c.left - 1) (more - 1) (omega arith) (omega arith) e }

  skip_at : (k : ℕ) → c.left ≡ suc k → (marks % 2 ≡ 0 → ⊥) → slice_get (unmarked k (marks / 2) (i + 1) ++ up_from (r.n + 1) names) more ≡ slice_get (lefts r names) line
  skip_at k l e =
      let whole : slice_get (unmarked (suc k) marks i ++ up_from (r.n + 1) names) more ≡ slice_get (lefts r names) line = rw l at c.rest in
      rw (unmarked_on k marks i true (bit_on marks e)) at whole

  pub counting_skip : i ≤ r.n → (marks % 2 ≡ 0 → ⊥) → Counting r names line (marks / 2) (i + 1) more
  counting_skip h e = record { left = c.left - 1; total = omega arith; low = omega arith; rest = skip_at (c.left - 1) (omega arith) e }

  past_at : (k : ℕ) → k ≡ 0 → slice_get (unmarked k marks i ++ up_from (r.n + 1) names) more ≡ slice_get (up_from (r.n + 1) names) more
  unfolding unmarked
  past_at zero h = refl
  past_at (suc k) h = absurd (omega arith)

  pub counting_new : r.n < i → more < names → Some ((r.n + 1) + more) ≡ slice_get (lefts r names) line
  counting_new h m = sym (up_from_at (r.n + 1) names more m) ∙ sym (past_at c.left (omega arith)) ∙ c.rest

  pub counting_none : r.n < i → names ≤ more → None ≡ slice_get (lefts r names) line
  counting_none h m =
      sym (slice_get_past (up_from (r.n + 1) names) more (rw (up_from_length (r.n + 1) names) m)) ∙ sym (past_at c.left (omega arith)) ∙ c.rest

-- ---- every line has a signal, and behind the last there is none
abbrev Numbered : List ℕ → Type 0
Numbered l = (j : ℕ) → j < length l → 1 ≤ get_or l j 0

some_first : (x : ℕ) (l : List ℕ) → 1 ≤ x → Numbered l → Numbered (x ∷ l)
some_first x l h f zero i = h
some_first x l h f (suc j) i = f j (omega arith)

some_up_from : (i k : ℕ) → 1 ≤ i → Numbered (up_from i k)
unfolding up_from
some_up_from i zero h = λ j o. absurd (omega arith)
some_up_from i (suc k) h = some_first i (up_from (i + 1) k) h (some_up_from (i + 1) k (omega arith))

some_lefts : (m c k marks i : ℕ) → 1 ≤ i → 1 ≤ m → Numbered (unmarked k marks i ++ up_from m c)
unfolding unmarked
some_lefts m c zero marks i h o = some_up_from m c o
some_lefts m c (suc k) marks i h o = go (some_lefts m c k (marks / 2) (i + 1) (omega arith) o)
  where
    go : Numbered (unmarked k (marks / 2) (i + 1) ++ up_from m c)
        → Numbered (cond (marked marks 0) (unmarked k (marks / 2) (i + 1)) (i ∷ unmarked k (marks / 2) (i + 1)) ++ up_from m c)
    go ih =
        cond_cases (λ l. Numbered (l ++ up_from m c)) (marked marks 0) (unmarked k (marks / 2) (i + 1)) (i ∷ unmarked k (marks / 2) (i + 1))
        (λ t. ih) (λ u. some_first i (unmarked k (marks / 2) (i + 1) ++ up_from m c) h ih)

pub left_none : (r : Known) (names line : ℕ) → left_of r names line ≡ 0 → length (lefts r names) ≤ line
unfolding left_of lefts
left_none r names line e = go (test (ltb line (length (lefts r names))))
  where
    go : Tested (ltb line (length (lefts r names))) → length (lefts r names) ≤ line
    go (passed p) = absurd (let z : 1 ≤ get_or (lefts r names) line 0 = some_lefts (r.n + 1) names r.n r.marks 1 (omega arith) (omega arith) line (ltb-true _ _ p) in omega arith)
    go (failed p) = ltb-false _ _ p

pub left_here : (r : Known) (names line : ℕ) → (left_of r names line ≡ 0 → ⊥) → line < length (lefts r names)
left_here r names line f = go (test (ltb line (length (lefts r names))))
  where
    go : Tested (ltb line (length (lefts r names))) → line < length (lefts r names)
    go (passed e) = ltb-true line (length (lefts r names)) e
    go (failed e) = absurd (f (left_past r names line (ltb-false line (length (lefts r names)) e)))
