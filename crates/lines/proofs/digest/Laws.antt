-- The digest byte by byte. Assumes nothing.
use Rattle.std.proofs.Common.{◌≡◌, ℕ, ◌+◌, ◌%◌, ◌<◌, ◌≤◌, List, length, get_or, drop, refl, add-one, arith, drop_of_length-le, drop-cons}
use lib.Bits.{bit_xor, xor_lt}
use Rattle.lines.specs.Digest.{mixed, multiplied, digest_from, digest}

pub mixed_fits : (h x : ℕ) → h < 18446744073709551616 → x < 256 → mixed h x < 18446744073709551616
mixed_fits h x f g = let low : bit_xor (h % 256) x < 256 = xor_lt 8 (h % 256) x (omega arith) g in omega arith

-- ---- a loop over the bytes: what is left gives what the whole gives
pub record Digesting (bytes : List ℕ) (h i : ℕ) : Type 0 where
  pub within : i ≤ length bytes
  pub left : digest_from h (drop i bytes) ≡ digest bytes

pub digesting_start : (bytes : List ℕ) → Digesting bytes 14695981039346656037 0
unfolding digest
digesting_start bytes = record { within = omega arith; left = refl }

module _ {bytes : List ℕ} {h i : ℕ} (d : Digesting bytes h i) where
  pub digesting_next : (m : ℕ) → i < length bytes → m ≡ multiplied (mixed h (get_or bytes i 0)) → Digesting bytes m (i + 1)
  unfolding digest_from
  digesting_next m k e = record { within = omega arith; left = rw (add-one i, e) (rw (drop-cons bytes i 0 k) at d.left) }

  pub digesting_end : length bytes ≤ i → h ≡ digest bytes
  unfolding digest_from
  digesting_end k = rw (drop_of_length-le bytes k) at d.left
