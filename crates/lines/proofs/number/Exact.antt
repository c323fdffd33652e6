-- A word is a number exactly where it has digits, one or more, and nothing else, and their number is below 2^64; and it is then
-- that number. What the lines write is read back. Assumes nothing.
use Rattle.std.proofs.Common.{◌≡◌, ℕ, zero, suc, ◌+◌, ◌/◌, ◌%◌, ◌<◌, ◌≤◌, Bool, true, false, cond, ◌&&◌, T, ltb, leb, ◌↔◌, List, [], ◌∷◌, ◌++◌, length, refl, arith, leb→le, length-append, ltb-false, ltb-true, lt-ltb}
use Rattle.monomial.specs.Lists.{some, all}
use Rattle.monomial.specs.Claims.{◌∈◌}
use Rattle.monomial.proofs.Members.{all_in, all_out}
use Rattle.monomial.proofs.Tests.{Tested, passed, failed, test, T→is, is→T, and_l, and_r, and_i}
use Rattle.lines.specs.Text.{decimal_within, decimal}
use Rattle.lines.specs.Number.{is_digit, extended, number_from, number_of}
use Rattle.std.specs.Prelude.{Some, None}
use Rattle.lines.specs.Claims.{IsNumber, bound}
use Rattle.lines.proofs.number.Laws.{longer, digit_is}

chosen : (b : Bool) (n v : ℕ) → cond b (Some n) None ≡ Some v → b ≡ true
chosen true n v e = refl
chosen false n v e = cc

chosen_is : (b : Bool) (n v : ℕ) → cond b (Some n) None ≡ Some v → n ≡ v
chosen_is true n v e = cc
chosen_is false n v e = cc

digit_out : (word : List ℕ) → T (all is_digit word) → (x : ℕ) → x ∈ word → (48 ≤ x) × (x ≤ 57)
digit_out word t x m =
    let d = all_out is_digit t m in (leb→le 48 x (and_l (leb 48 x) (leb x 57) d), leb→le x 57 (and_r (leb 48 x) (leb x 57) d))

digits_in : (word : List ℕ) → ((x : ℕ) → x ∈ word → (48 ≤ x) × (x ≤ 57)) → T (all is_digit word)
digits_in word h = all_in is_digit word (λ x m. is→T (is_digit x) (digit_is x (h x m).0 (h x m).1))

is_number : (word : List ℕ) (v : ℕ) → number_of word ≡ Some v → IsNumber word v
unfolding number_of number_from some
is_number [] v e = let never : ◌≡◌ {A = ℕ} 0 1 = cc in absurd (omega arith)
is_number (x ∷ word) v e =
    let whole = extended 0 (x ∷ word) in
    let both = is→T _ (chosen (all is_digit (x ∷ word) && ltb whole bound) whole v e) in
    let same : whole ≡ v = chosen_is (all is_digit (x ∷ word) && ltb whole bound) whole v e in
    let small : whole < bound = ltb-true whole bound (T→is (ltb whole bound) (and_r (all is_digit (x ∷ word)) (ltb whole bound) both)) in
    record {
      one = omega arith;
      digits = digit_out (x ∷ word) (and_l (all is_digit (x ∷ word)) (ltb whole bound) both);
      value = same;
      fits = rw same at small;
    }

number_is : (word : List ℕ) (v : ℕ) → IsNumber word v → number_of word ≡ Some v
unfolding number_of number_from some
number_is [] v h = absurd (omega arith)
number_is (x ∷ word) v h =
    rw (T→is (all is_digit (x ∷ word)) (digits_in (x ∷ word) h.digits), h.value, lt-ltb v bound h.fits)

pub number_exact : (word : List ℕ) (v : ℕ) → (number_of word ≡ Some v) ↔ IsNumber word v
number_exact word v = (is_number word v, number_is word v)

-- ---- a number that is written in decimal is that number
record Written (n : ℕ) (word : List ℕ) : Type 0 where
  one : 0 < length word
  digits : T (all is_digit word)
  value : extended 0 word ≡ n

extended_behind : (v x : ℕ) (word : List ℕ) → extended v (word ++ (x ∷ [])) ≡ longer (extended v word) x
unfolding extended
extended_behind v x [] = refl
extended_behind v x (y ∷ word) = extended_behind (longer v y) x word

digits_behind : (x : ℕ) (word : List ℕ) → T (is_digit x) → T (all is_digit word) → T (all is_digit (word ++ (x ∷ [])))
unfolding all
digits_behind x [] d t = and_i (is_digit x) true d tt
digits_behind x (y ∷ word) d t =
    and_i (is_digit y) _ (and_l (is_digit y) (all is_digit word) t) (digits_behind x word d (and_r (is_digit y) (all is_digit word) t))

digit-of : (d : ℕ) → d < 10 → T (is_digit (48 + d))
digit-of d h = is→T (is_digit (48 + d)) (digit_is (48 + d) (omega arith) (omega arith))

behind : (n : ℕ) (word : List ℕ) → Written (n / 10) word → Written n (word ++ ((48 + n % 10) ∷ []))
behind n word w =
    let tens = w.value in record {
      one = simp length-append (omega arith);
      digits = digits_behind (48 + n % 10) word (digit-of (n % 10) (omega arith)) w.digits;
      value = rw (extended_behind 0 (48 + n % 10) word, tens) (omega arith);
    }

alone : (n : ℕ) → n < 10 → Written n ((48 + n) ∷ [])
unfolding all extended
alone n h = record { one = omega arith; digits = and_i (is_digit (48 + n)) true (digit-of n h) tt; value = omega arith }

written_step : (n : ℕ) (front : List ℕ) → (10 ≤ n → Written (n / 10) front) → Tested (ltb n 10)
    → Written n (cond (ltb n 10) ((48 + n) ∷ []) (front ++ ((48 + n % 10) ∷ [])))
written_step n front h (passed e) = rw e (alone n (ltb-true n 10 e))
written_step n front h (failed e) = rw e (behind n front (h (ltb-false n 10 e)))

written : (more n : ℕ) → n < more → Written n (decimal_within more n)
unfolding decimal_within
written zero n h = absurd (omega arith)
written (suc more) n h = written_step n (decimal_within more (n / 10)) (λ k. written more (n / 10) (omega arith)) (test (ltb n 10))

pub decimal_number : (n : ℕ) → n < bound → number_of (decimal n) ≡ Some n
unfolding decimal
decimal_number n h =
    let w = written (suc n) n (omega arith) in
    number_is (decimal n) n (record { one = w.one; digits = digit_out (decimal n) w.digits; value = w.value; fits = h })
