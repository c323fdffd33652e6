-- Text is a list of bytes: numbers in decimal, and pieces joined by a byte. Assumes nothing.
use Rattle.std.specs.Prelude.{ℕ, zero, suc, ◌+◌, ◌/◌, ◌%◌, cond, List, [], ◌∷◌, ◌++◌, ℤ, pos, negsuc, nat_lt}
use Rattle.monomial.specs.Lists.{gather}

abbrev pub newline : ℕ
newline = 10

abbrev pub space : ℕ
space = 32

abbrev pub hash : ℕ
hash = 35

abbrev pub minus : ℕ
minus = 45

abbrev pub dot : ℕ
dot = 46

-- a number in decimal, with no zero in front; more digits than the number are never needed
unfoldable pub decimal_within : ℕ → ℕ → List ℕ
decimal_within zero n = []
decimal_within (suc more) n = let front = decimal_within more (n / 10) in cond (nat_lt n 10) ((48 + n) ∷ []) (front ++ ((48 + n % 10) ∷ []))

unfoldable pub decimal : ℕ → List ℕ
decimal n = decimal_within (suc n) n

-- a whole number, with its sign where it is below 0
unfoldable pub signed_text : ℤ → List ℕ
signed_text (pos n) = decimal n
signed_text (negsuc n) = minus ∷ decimal (suc n)

-- pieces, and a byte between each two
unfoldable pub joined : ℕ → List (List ℕ) → List ℕ
joined between [] = []
joined between (x ∷ l) = x ++ gather (λ y. between ∷ y) l

-- what stands before piece number i, from 0
abbrev pub lead : ℕ → ℕ → List ℕ
lead zero between = []
lead (suc i) between = between ∷ []
