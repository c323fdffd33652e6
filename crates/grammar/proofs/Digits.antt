-- The digits of a number, read one after the other. Assumes nothing.
use mathlib.Core.Path.{◌≡◌, subst}
use mathlib.Core.Bool.{cond}
use mathlib.Core.List.{[], ◌∷◌, ◌++◌}
use Prim.Native.Nat.{ℕ, zero, suc, ◌+◌, ◌*◌, ◌/◌, ◌%◌, ◌≤◌, ◌<◌}
use native.Mathlib.Omega.{arith}
use borrow.Author.Tests.{ltb-true, ltb-false}
use lib.Dec.{ltb}
use Rattle.monomial.proofs.Tests.{Tested, passed, failed, test}
use Rattle.lines.specs.Text.{decimal_within, decimal}
use Rattle.reader.specs.Bytes.{nought}
use Rattle.listing.specs.declared.known.Known.{Known}
use Rattle.grammar.proofs.Noting.{Notes, Eats, then}

-- from `from` the first digit, 1 to 9, leads to the number's place, where more digits make it longer, up to `most`
pub record Numbers (k : Known) (from : Notes) (place : ℕ → Notes) (most : ℕ) : Type 0 where
  pub first : (d : ℕ) → 1 ≤ d → d ≤ 9 → Eats k from ((nought + d) ∷ []) (place d)
  pub next : (v d : ℕ) → d ≤ 9 → 10 * v + d ≤ most → Eats k (place v) ((nought + d) ∷ []) (place (10 * v + d))

module _ {k : Known} {from : Notes} {place : ℕ → Notes} {most : ℕ} (r : Numbers k from place most) where
  digits_within : (m n : ℕ) → n < m → 1 ≤ n → n ≤ most → Eats k from (decimal_within m n) (place n)
  unfolding decimal_within
  digits_within zero n i j h = absurd (omega arith)
  digits_within (suc m) n i j h = go (test (ltb n 10)) (λ c. digits_within m (n / 10) (omega arith) (omega arith) (omega arith))
    where
      on : Eats k from (decimal_within m (n / 10)) (place (n / 10)) → Eats k from (decimal_within m (n / 10) ++ ((nought + n % 10) ∷ [])) (place n)
      on ih =
          let e : 10 * (n / 10) + n % 10 ≡ n = omega arith in
          subst (λ v. Eats k from (decimal_within m (n / 10) ++ ((nought + n % 10) ∷ [])) (place v)) e
          (then k ih (r.next (n / 10) (n % 10) (omega arith) (omega arith)))

      go : Tested (ltb n 10) → (10 ≤ n → Eats k from (decimal_within m (n / 10)) (place (n / 10)))
          → Eats k from (cond (ltb n 10) ((nought + n) ∷ []) (decimal_within m (n / 10) ++ ((nought + n % 10) ∷ []))) (place n)
      go (passed e) ih = rw e (r.first n j (let h : n < 10 = ltb-true n 10 e in omega arith))
      go (failed e) ih = rw e (on (ih (ltb-false n 10 e)))

  pub reads_number : (n : ℕ) → 1 ≤ n → n ≤ most → Eats k from (decimal n) (place n)
  unfolding decimal
  reads_number n j h = digits_within (suc n) n (omega arith) j h
