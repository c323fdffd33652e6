-- A number with one more digit behind it, as it is written. Assumes nothing.
use mathlib.Core.Path.{◌≡◌, ap}
use mathlib.Core.List.{List, [], ◌∷◌, ◌++◌, append_assoc}
use Prim.Native.Nat.{ℕ, zero, suc, ◌+◌, ◌-◌, ◌/◌, ◌%◌, ◌≤◌, ◌<◌}
use native.Mathlib.Omega.{arith}
use borrow.Author.Tests.{lt-ltb, le-ltb, ltb-false}
use lib.Dec.{ltb}
use Rattle.monomial.proofs.Tests.{Tested, passed, failed, test}
use Rattle.lines.specs.Text.{decimal_within, decimal}
use Rattle.reader.specs.Bytes.{nought, nine, longer}

pub one_digit : (m n : ℕ) → n < 10 → decimal_within (suc m) n ≡ (nought + n) ∷ []
unfolding decimal_within
one_digit m n h = rw (lt-ltb n 10 h)

pub more_digits : (m n : ℕ) → 10 ≤ n → decimal_within (suc m) n ≡ decimal_within m (n / 10) ++ ((nought + n % 10) ∷ [])
unfolding decimal_within
more_digits m n h = rw (le-ltb n 10 h)

-- how many digits there is room for does not matter
same_digits : (a b n : ℕ) → n < a → n < b → decimal_within a n ≡ decimal_within b n
unfolding decimal_within
same_digits zero b n i j = absurd (omega arith)
same_digits (suc a) zero n i j = absurd (omega arith)
same_digits (suc a) (suc b) n i j = go (test (ltb n 10)) (λ c. same_digits a b (n / 10) (omega arith) (omega arith))
  where
    go : Tested (ltb n 10) → (10 ≤ n → decimal_within a (n / 10) ≡ decimal_within b (n / 10)) → decimal_within (suc a) n ≡ decimal_within (suc b) n
    go (passed e) ih = rw e
    go (failed e) ih = rw e (ap (λ l. l ++ ((nought + n % 10) ∷ [])) (ih (ltb-false n 10 e)))

module _ (x : ℕ) (low : nought ≤ x) (high : x ≤ nine) where
  pub digit_text : decimal (x - nought) ≡ x ∷ []
  unfolding decimal
  digit_text = let e : nought + (x - nought) ≡ x = omega arith in rw (one_digit (x - nought) (x - nought) (omega arith), e)

  pub longer_text : (v : ℕ) (rest : List ℕ) → 1 ≤ v → decimal (longer v x) ++ rest ≡ decimal v ++ (x ∷ rest)
  unfolding decimal
  longer_text v rest h =
      let q : longer v x / 10 ≡ v = omega arith in
      let d : nought + longer v x % 10 ≡ x = omega arith in
      rw (more_digits (longer v x) (longer v x) (omega arith), q, d, same_digits (longer v x) (suc v) v (omega arith) (omega arith)) (append_assoc (decimal_within (suc v) v) (x ∷ []) rest)
