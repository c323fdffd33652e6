-- Decimal words: which words are numbers, and which number each of them is. Assumes nothing.
use Rattle.std.specs.Prelude.{ℕ, ◌+◌, ◌-◌, ◌*◌, ◌^◌, Bool, cond, ◌&&◌, List, [], ◌∷◌, Option, Some, None, nat_le, nat_lt}
use Rattle.monomial.specs.Lists.{some, all}

-- the byte of a digit from 0 to 9
abbrev pub is_digit : ℕ → Bool
is_digit x = nat_le 48 x && nat_le x 57

-- the number v with the digits of a word behind it
unfoldable pub extended : ℕ → List ℕ → ℕ
extended v [] = v
extended v (x ∷ word) = extended (10 * v + (x - 48)) word

-- that number, where the word has only digits and the number is below 2^64
unfoldable pub number_from : ℕ → List ℕ → Option ℕ
number_from v word = let whole = extended v word in cond (all is_digit word && nat_lt whole (2 ^ 64)) (Some whole) None

-- a word of one or more decimal digits whose number is below 2^64
unfoldable pub number_of : List ℕ → Option ℕ
number_of word = cond (some word) (number_from 0 word) None
