-- What the pieces of a line are: digits, signs, what is joined. Assumes nothing.
use Rattle.std.proofs.Common.{◌≡◌, ℕ, zero, suc, ◌+◌, ◌-◌, ◌*◌, ◌/◌, ◌%◌, ◌^◌, ◌<◌, ◌≤◌, leb, List, [], ◌∷◌, ◌++◌, length, get_or, take, ℤ, pos, negsuc, unsigned_abs, int_lt, true, false}
use Rattle.std.proofs.Common.{sym, refl, ap, ◌∙◌, append_assoc, append-nil, add-one, arith, lit<, lit≤, take_all, take-suc, le-ltb, lt-ltb, leb-false, leb-true, ltb-true}
use native.Mathlib.Nat.{pow-succ', one-le-pow, pow-le-pow_right}
use Rattle.io.specs.Digits.{last_digits, IsDigitCount}
use Rattle.monomial.specs.Lists.{gather}
use Rattle.monomial.proofs.Tests.{Tested, passed, failed, test}
use Rattle.monomial.proofs.Members.{gather_append}
use Rattle.lines.specs.Lengths.{number_bytes}
use Rattle.lines.specs.Text.{minus, decimal_within, decimal, signed_text, joined, lead}

-- ---- the fewest digits are no more than any that hold the number
pub fewest_most : (b w n k m : ℕ) → 0 < b → IsDigitCount b w n k → w ≤ m → n < b ^ m → k ≤ m
fewest_most b w n k m some f h g = go (test (leb k m))
  where
    go : Tested (leb k m) → k ≤ m
    go (passed e) = leb-true k m e
    go (failed e) =
        let more : m < k = leb-false k m e in
        let low : b ^ (k - 1) ≤ n = f.2 (omega arith) in
        let high : b ^ m ≤ b ^ (k - 1) = pow-le-pow_right some (omega arith) in
        omega arith

pub number_most : (n k : ℕ) → n < 2 ^ 64 → IsDigitCount 10 1 n k → k ≤ number_bytes
number_most n k h f = fewest_most 10 1 n k number_bytes (lit< tt) f (lit≤ tt) (omega arith)

-- ---- decimal digits: the fewest that hold a number are those of its definition
ten_or_more : (more n : ℕ) → 10 ≤ n → decimal_within (suc more) n ≡ decimal_within more (n / 10) ++ ((48 + n % 10) ∷ [])
unfolding decimal_within
ten_or_more more n h = rw (le-ltb n 10 h)

glyph_is : (d : ℕ) → d < 10 → last_digits 10 1 d ≡ (48 + d) ∷ []
glyph_is d h = let e : d % 10 ≡ d = omega arith in rw (e, lt-ltb d 10 h)

sub_suc : (k : ℕ) → suc k - 1 ≡ k
sub_suc k = omega arith

ten_least : (k n : ℕ) → 10 ^ suc k ≤ n → 10 ≤ n
ten_least k n h = omega (arith, pow-succ' 10 k, one-le-pow k 10 (lit< tt))

tenth : (k n : ℕ) → 10 ^ suc k ≤ n → 10 ^ k ≤ n / 10
tenth k n h = let e : 10 ^ suc k ≡ 10 * 10 ^ k = pow-succ' 10 k in omega arith

digits_decimal : (k more n : ℕ) → n < more → IsDigitCount 10 1 n k → last_digits 10 k n ≡ decimal_within more n
unfolding decimal_within
digits_decimal zero more n h f = let z : ⊥ = omega (arith, f.0) in absurd z
digits_decimal (suc k) zero n h f = let z : ⊥ = omega arith in absurd z
digits_decimal (suc zero) (suc more) n h f = let low : n < 10 = f.1 in glyph_is n low ∙ sym (rw (lt-ltb n 10 low))
digits_decimal (suc (suc k)) (suc more) n h f =
    let high : n < 10 * 10 ^ suc k = rw (pow-succ' 10 (suc k)) at f.1 in
    let least : 10 ^ suc k ≤ n = rw (sub_suc (suc k)) at (f.2 (omega arith)) in
    let ten : 10 ≤ n = ten_least k n least in
    let fewest : IsDigitCount 10 1 (n / 10) (suc k) = (omega arith, omega arith, λ j. rw (sub_suc k) (tenth k n least)) in
    rw (digits_decimal (suc k) more (n / 10) (omega arith) fewest, le-ltb n 10 ten, lt-ltb (n % 10) 10 (omega arith))

pub digits_are : (k n : ℕ) → IsDigitCount 10 1 n k → last_digits 10 k n ≡ decimal n
unfolding decimal
digits_are k n f = digits_decimal k (suc n) n (omega arith) f

-- ---- signed numbers
pub text_plain : (z : ℤ) → int_lt z (pos 0) ≡ false → decimal (unsigned_abs z) ≡ signed_text z
unfolding signed_text
text_plain (pos n) e = refl
text_plain (negsuc n) e = cc

pub text_signed : (z : ℤ) → int_lt z (pos 0) ≡ true → minus ∷ decimal (unsigned_abs z) ≡ signed_text z
unfolding signed_text
text_signed (pos n) e = absurd (omega (arith, ltb-true n 0 e))
text_signed (negsuc n) e = refl

-- ---- pieces that are joined, up to piece i
pub gather_next : {A : Type 0} (f : A → List ℕ) (l : List A) (d : A) (i : ℕ) → i < length l
    → gather f (take i l) ++ f (get_or l i d) ≡ gather f (take (suc i) l)
unfolding gather
gather_next f l d i h = rw (take-suc l i d h, gather_append f (take i l) (get_or l i d ∷ []), append-nil (f (get_or l i d)))

pub joined_next : (between : ℕ) (l : List (List ℕ)) (d : List ℕ) (i : ℕ) → i < length l
    → joined between (take i l) ++ (lead i between ++ get_or l i d) ≡ joined between (take (i + 1) l)
unfolding joined gather
joined_next between [] d i h = let z : ⊥ = omega arith in absurd z
joined_next between (x ∷ l) d zero h = sym (append-nil x)
joined_next between (x ∷ l) d (suc i) h =
    let each : List ℕ → List ℕ = λ y. between ∷ y in
    let k : i < length l = omega arith in
    let more : gather each (take i l) ++ (between ∷ get_or l i d) ≡ gather each (take (suc i) l) = gather_next each l d i k in
    rw (add-one (suc i)) (append_assoc x (gather each (take i l)) (between ∷ get_or l i d) ∙ ap (λ y. x ++ y) more)

pub lead_later : (i between : ℕ) → (i ≡ 0 → ⊥) → lead i between ≡ between ∷ []
lead_later zero between h = absurd (h refl)
lead_later (suc i) between h = refl

-- ---- a line to which pieces are put, and which has come to piece i
pub joining_start : (between : ℕ) (pieces : List (List ℕ)) (line : List ℕ) → line ≡ line ++ joined between (take 0 pieces)
unfolding joined
joining_start between pieces line = sym (append-nil line)

pub joining_next : (between : ℕ) (pieces : List (List ℕ)) (i : ℕ) (start : List ℕ) {line more after : List ℕ} (piece d : List ℕ) → i < length pieces → piece ≡ get_or pieces i d
    → line ≡ start ++ joined between (take i pieces) → more ≡ line ++ lead i between → after ≡ more ++ piece → after ≡ start ++ joined between (take (i + 1) pieces)
joining_next between pieces i start piece d h e a b c =
    let done : List ℕ = joined between (take i pieces) in
    let before : List ℕ = lead i between in
    rw (c, b, a) (append_assoc (start ++ done) before piece ∙ append_assoc start done (before ++ piece) ∙ ap (λ x. start ++ x) (rw e (joined_next between pieces d i h)))

pub joining_end : (between : ℕ) (pieces : List (List ℕ)) (i : ℕ) (start : List ℕ) {line : List ℕ} → length pieces ≤ i → line ≡ start ++ joined between (take i pieces) → line ≡ start ++ joined between pieces
joining_end between pieces i start h a = rw (take_all i pieces h) at a

-- ---- the promise of a line leaves nothing open: its text
pub stands_one : {text l m : List ℕ} → l ≡ text → m ≡ text → l ≡ m
stands_one a b = a ∙ sym b
