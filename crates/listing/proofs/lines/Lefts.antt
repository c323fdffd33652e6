-- Each line is that of a signal, and which signals have one: the variables that are not marked, and the new names. Assumes nothing.
use mathlib.Core.Path.{◌≡◌, sym, ◌∙◌, subst}
use mathlib.Core.Logic.{⊎_elim}
use mathlib.Core.Bool.{false}
use mathlib.Core.List.Memᴰ
use mathlib.Core.List.{List, ◌∷◌}
use Prim.Native.Nat.{ℕ, zero, suc, ◌+◌, ◌/◌, ◌<◌}
use native.Mathlib.Omega.{arith}
use lib.ListN.{length}
use Rattle.monomial.specs.Claims.{◌∈◌}
use Rattle.monomial.proofs.Tests.{cond_cases}
use Rattle.monomial.proofs.Members.{there}
use Rattle.monomial.proofs.Counting.{at_in, in_at}
use Rattle.wiring.specs.Sockets.{marked}
use Rattle.wiring.proofs.sockets.Laws.{marked_next}
use Rattle.listing.specs.Lines.{unmarked, up_from, lefts, left_of}
use Rattle.listing.specs.declared.known.Known.{Known}

-- ---- the two parts
up_from_out : (i k z : ℕ) → z ∈ up_from i k → z < i + k
unfolding up_from
up_from_out i zero z h = absurd (Memᴰ.not-nil h)
up_from_out i (suc k) z h = ⊎_elim (λ e. omega arith) (λ m. let ih : z < (i + 1) + k = up_from_out (i + 1) k z m in omega arith) (Memᴰ.cases_cons h)

up_from_in : (i k j : ℕ) → j < k → (i + j) ∈ up_from i k
unfolding up_from
up_from_in i zero j h = let z : ⊥ = omega arith in absurd z
up_from_in i (suc k) zero h = let e : i + 0 ≡ i = omega arith in Memᴰ.head e
up_from_in i (suc k) (suc j) h =
    let e : (i + 1) + j ≡ i + suc j = omega arith in
    there (subst (λ (z : ℕ). z ∈ up_from (i + 1) k) e (up_from_in (i + 1) k j (omega arith)))

unmarked_out : (k marks i z : ℕ) → z ∈ unmarked k marks i → z < i + k
unfolding unmarked
unmarked_out zero marks i z h = absurd (Memᴰ.not-nil h)
unmarked_out (suc k) marks i z h =
    let ih : z ∈ unmarked k (marks / 2) (i + 1) → z < (i + 1) + k = unmarked_out k (marks / 2) (i + 1) z in
    cond_cases (λ (l : List ℕ). z ∈ l → z < i + suc k) (marked marks 0) (unmarked k (marks / 2) (i + 1)) (i ∷ unmarked k (marks / 2) (i + 1))
    (λ t m. omega (arith, ih m)) (λ f m. ⊎_elim (λ e. omega arith) (λ n. omega (arith, ih n)) (Memᴰ.cases_cons m)) h

unmarked_in : (k marks i j : ℕ) → j < k → marked marks j ≡ false → (i + j) ∈ unmarked k marks i
unfolding unmarked
unmarked_in zero marks i j h e = let z : ⊥ = omega arith in absurd z
unmarked_in (suc k) marks i zero h e = let is : i + 0 ≡ i = omega arith in rw e (Memᴰ.head is)
unmarked_in (suc k) marks i (suc j) h e =
    let is : (i + 1) + j ≡ i + suc j = omega arith in
    let ih : (i + suc j) ∈ unmarked k (marks / 2) (i + 1) =
    subst (λ (z : ℕ). z ∈ unmarked k (marks / 2) (i + 1)) is (unmarked_in k (marks / 2) (i + 1) j (omega arith) (sym (marked_next marks j) ∙ e)) in
    cond_cases (λ (l : List ℕ). (i + suc j) ∈ l) (marked marks 0) (unmarked k (marks / 2) (i + 1)) (i ∷ unmarked k (marks / 2) (i + 1)) (λ t. ih) (λ f. there ih)

-- ---- the lines
module _ (r : Known) (names : ℕ) where
  -- a line's signal is one of those that there are
  pub left_member : (l : ℕ) → l ∈ lefts r names → l < r.n + 1 + names
  unfolding lefts
  left_member l h =
      ⊎_elim (λ m. omega (arith, unmarked_out r.n r.marks 1 l m)) (λ m. up_from_out (r.n + 1) names l m)
      (Memᴰ.append_cases (unmarked r.n r.marks 1) h)

  pub left_below : (line : ℕ) → line < length (lefts r names) → left_of r names line < r.n + 1 + names
  unfolding left_of
  left_below line h = left_member (left_of r names line) (at_in (lefts r names) line 0 h)

  -- a signal with a line, and the line's number from 0
  pub record LineOf (signal : ℕ) : Type 0 where
    pub number : ℕ
    pub counted : number < length (lefts r names)
    pub is : left_of r names number ≡ signal

  line_of : (signal : ℕ) → signal ∈ lefts r names → LineOf signal
  unfolding left_of
  line_of signal h = let p = in_at (lefts r names) signal 0 h in record { number = p.0; counted = p.1; is = p.2 }

  pub variable_line : (i : ℕ) → i < r.n → marked r.marks i ≡ false → LineOf (1 + i)
  unfolding lefts
  variable_line i h e = line_of (1 + i) (Memᴰ.append_left (up_from (r.n + 1) names) (unmarked_in r.n r.marks 1 i h e))

  pub name_line : (j : ℕ) → j < names → LineOf (r.n + 1 + j)
  unfolding lefts
  name_line j h = line_of (r.n + 1 + j) (Memᴰ.append_right (unmarked r.n r.marks 1) (up_from_in (r.n + 1) names j h))
