-- The FNV-1a digest of 64 bits: each byte is mixed into the low byte, then the digest is multiplied. Assumes nothing.
use Rattle.std.specs.Prelude.{ℕ, ◌+◌, ◌-◌, ◌*◌, ◌%◌, ◌^◌, List, [], ◌∷◌, bit_xor}

-- the lowest byte is mixed with x by exclusive or; the bits above stay
abbrev pub mixed : ℕ → ℕ → ℕ
mixed h x = h - h % 256 + bit_xor (h % 256) x

abbrev pub multiplied : ℕ → ℕ
multiplied h = (h * 1099511628211) % 2 ^ 64

unfoldable pub digest_from : ℕ → List ℕ → ℕ
digest_from h [] = h
digest_from h (x ∷ l) = digest_from (multiplied (mixed h x)) l

unfoldable pub digest : List ℕ → ℕ
digest bytes = digest_from 14695981039346656037 bytes
