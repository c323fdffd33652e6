-- What is claimed of words: when a word is a number, and which. Assumes nothing.
use Rattle.std.specs.Prelude.{◌≡◌, ℕ, ◌<◌, ◌≤◌, List, length}
use Rattle.monomial.specs.Claims.{◌∈◌}
use Rattle.lines.specs.Number.{extended}

-- numbers of 64 bits are below this
abbrev pub bound : ℕ
bound = 18446744073709551616

-- one or more digits, whose number is v
pub record IsNumber (word : List ℕ) (v : ℕ) : Type 0 where
  pub one : 0 < length word
  pub digits : (x : ℕ) → x ∈ word → (48 ≤ x) × (x ≤ 57)
  pub value : extended 0 word ≡ v
  pub fits : v < bound
