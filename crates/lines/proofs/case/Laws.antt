-- Bytes in hexadecimal. Assumes nothing.
use Rattle.std.proofs.Common.{◌≡◌, ℕ, ◌+◌, ◌^◌, ◌<◌, ◌≤◌, min, max, List, [], ◌∷◌, ◌++◌, length, get_or, take, add-one, arith, lit<, eq-eqb, ne_eqb, le-leb}
use borrow.Author.Tests.{lt-leb}
use Rattle.io.specs.Digits.{last_digits, IsDigitCount}
use Rattle.lines.specs.Lengths.{shown_bytes}
use Rattle.lines.specs.Text.{hash, minus}
use Rattle.lines.specs.Digest.{digest}
use Rattle.lines.specs.Case.{hex_text, buffer_text}
use Rattle.lines.proofs.text.Laws.{fewest_most, gather_next}

-- so many digits hold the number, so there are no more
pub hex_places : (n places k : ℕ) → 1 ≤ places → places ≤ 16 → n < 16 ^ places → IsDigitCount 16 (min (max places 1) 16) n k → k ≡ places
hex_places n places k low high h f =
    let same : min (max places 1) 16 ≡ places = omega arith in
    let most : k ≤ places = fewest_most 16 places n k places (lit< tt) (rw same at f) (omega arith) h in
    let least : places ≤ k = rw same at f.0 in
    omega arith

pub hex_next : (bytes : List ℕ) (i : ℕ) → i < length bytes → hex_text (take i bytes) ++ last_digits 16 2 (get_or bytes i 0) ≡ hex_text (take (i + 1) bytes)
unfolding hex_text
hex_next bytes i h = rw (add-one i) (gather_next (last_digits 16 2) bytes 0 i h)

-- ---- a buffer by its length
module _ (s : List ℕ) where
  pub buffer_none : length s ≡ 0 → minus ∷ [] ≡ buffer_text s
  unfolding buffer_text
  buffer_none h = rw (eq-eqb (length s) 0 h)

  pub buffer_whole : (length s ≡ 0 → ⊥) → length s ≤ shown_bytes → hex_text s ≡ buffer_text s
  unfolding buffer_text
  buffer_whole h k = rw (ne_eqb (length s) 0 h, le-leb (length s) shown_bytes k)

  pub buffer_digest : (length s ≡ 0 → ⊥) → shown_bytes < length s → hash ∷ last_digits 16 16 (digest s) ≡ buffer_text s
  unfolding buffer_text
  buffer_digest h k = rw (ne_eqb (length s) 0 h, lt-leb (length s) shown_bytes k)
