-- Coefficients in four bytes: what the machine's steps on 32 bits come to, and that reading a number takes back what writing it did.
-- The checker's arithmetic reads no whole numbers, so a bound is said of a number's size. Assumes nothing.
use mathlib.Core.Path.{◌≡◌, refl, sym, ap, ◌∙◌}
use mathlib.Core.Bool.{true, false, cond}
use mathlib.Core.Logic.{◌≢◌}
use Prim.Native.Nat.{ℕ, zero, suc, ◌+◌, ◌*◌, ◌-◌, ◌/◌, ◌%◌, ◌<◌}
use native.Mathlib.Omega.{arith}
use borrow.Author.Tests.{lt-ltb, le-ltb, eq-eqb, ne_eqb}
use lib.Dec.{eqb, ltb}
use lib.IntN.{ℤ, pos, negsuc, nat_abs, ◌-ℤ◌}
use mir.Syntax.{w32}
use mir.Val.{SFits, to_z, of_z}
use Rattle.wiring.specs.Coefficient.{word, signed, unsigned, four_bytes, is_zero}

-- ---- two's complement, of a word
minus : (k : ℕ) → negsuc 0 -ℤ pos k ≡ negsuc k
minus zero = refl
minus (suc k) = ap negsuc (omega arith)

pub minus_negsuc : (n : ℕ) → negsuc 0 -ℤ negsuc n ≡ pos n
minus_negsuc n = rw (le-ltb (suc n) 1 (omega arith)) (ap pos (omega arith))

-- a word as the machine reads it
pub signed_is : (n : ℕ) → to_z w32 n ≡ signed n
unfolding signed
signed_is n = ap (λ (k : ℕ). cond (ltb n 2147483648) (pos n) (negsuc k)) (omega arith)

-- the bits of a number
pub bits_are : (z : ℤ) → SFits w32 z → of_z w32 z ≡ unsigned z
unfolding unsigned
bits_are (pos n) f = refl
bits_are (negsuc n) f = omega arith

-- the machine tests the bits for 0
zero_bits : (z : ℤ) → SFits w32 z → eqb (of_z w32 z) 0 ≡ is_zero z
unfolding is_zero
zero_bits (pos zero) h = refl
zero_bits (pos (suc n)) h = ne_eqb _ _ (λ q. let z : ⊥ = omega arith in z)
zero_bits (negsuc n) h = ne_eqb _ _ (λ q. let z : ⊥ = omega arith in z)

module _ (sum : ℤ) {c : ℤ} (f : SFits w32 sum) (e : sum ≡ c) where
  pub tests_zero : eqb (of_z w32 sum) 0 ≡ is_zero c
  tests_zero = zero_bits sum f ∙ ap is_zero e

  pub tested_zero : of_z w32 sum ≡ 0 → is_zero c ≡ true
  tested_zero h = sym tests_zero ∙ eq-eqb _ _ h

  pub tested_nonzero : of_z w32 sum ≢ 0 → is_zero c ≡ false
  tested_nonzero h = sym tests_zero ∙ ne_eqb _ _ h

-- ---- there and back
pub signed_unsigned : (c : ℤ) → nat_abs c < 2147483648 → signed (unsigned c) ≡ c
unfolding unsigned signed
signed_unsigned (pos n) h = rw (lt-ltb n 2147483648 h)
signed_unsigned (negsuc n) h = rw (le-ltb (4294967295 - n) 2147483648 (omega arith)) (ap negsuc (omega arith))

pub unsigned_limited : (c : ℤ) → nat_abs c < 2147483648 → unsigned c < 4294967296
unfolding unsigned
unsigned_limited (pos n) h = omega arith
unsigned_limited (negsuc n) h = omega arith

-- four digits of a number in base 256
digits : (x a b c p q r s : ℕ) → x ≡ 256 * a + p → a ≡ 256 * b + q → b ≡ 256 * c + r → s ≡ c → p + 256 * q + 65536 * r + 16777216 * s ≡ x
digits x a b c p q r s e f g h = omega arith

pub word_four_bytes : (x : ℕ) → x < 4294967296 → word (four_bytes x) 0 ≡ x
word_four_bytes x h =
    let two : x / 256 / 256 ≡ x / 65536 = omega arith in
    let three : x / 65536 / 256 ≡ x / 16777216 = omega arith in
    let first : x ≡ 256 * (x / 256) + x % 256 = omega arith in
    let second : x / 256 ≡ 256 * (x / 65536) + x / 256 % 256 = omega arith in
    let third : x / 65536 ≡ 256 * (x / 16777216) + x / 65536 % 256 = omega arith in
    let fourth : x / 16777216 % 256 ≡ x / 16777216 = omega arith in
    digits x (x / 256) (x / 65536) (x / 16777216) (x % 256) (x / 256 % 256) (x / 65536 % 256) (x / 16777216 % 256) first second third fourth

-- what is written is read
pub decode_bytes : (c : ℤ) → nat_abs c < 2147483648 → signed (word (four_bytes (unsigned c)) 0) ≡ c
decode_bytes c h = ap signed (word_four_bytes (unsigned c) (unsigned_limited c h)) ∙ signed_unsigned c h
