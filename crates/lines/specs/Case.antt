-- The line of one case of a batch: the five numbers, and the answer buffer in full or by its digest. Assumes nothing.
use Rattle.std.specs.Prelude.{ℕ, cond, List, [], ◌∷◌, ◌++◌, length, ◌==◌, nat_le}
use Rattle.io.specs.Digits.{last_digits}
use Rattle.monomial.specs.Lists.{gather}
use Rattle.lines.specs.Lengths.{shown_bytes}
use Rattle.lines.specs.Text.{space, hash, minus}
use Rattle.lines.specs.Answer.{line_of, spaced}
use Rattle.lines.specs.Digest.{digest}

-- a short buffer: two hexadecimal digits for each, "-" for none; a longer one: "#" and its digest
unfoldable pub hex_text : List ℕ → List ℕ
hex_text bytes = gather (last_digits 16 2) bytes

unfoldable pub buffer_text : List ℕ → List ℕ
buffer_text bytes =
    let whole = hex_text bytes in
    let short : List ℕ = hash ∷ last_digits 16 16 (digest bytes) in
    cond (length bytes == 0) (minus ∷ []) (cond (nat_le (length bytes) shown_bytes) whole short)

unfoldable pub case_line : List ℕ → List ℕ → List ℕ
case_line five buffer = line_of (spaced five ++ (space ∷ buffer_text buffer))
