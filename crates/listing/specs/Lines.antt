-- The lines of the second part: one for each variable that is no signal, then one for each new name, in number order.
-- Assumes nothing.
use Rattle.std.specs.Prelude.{cond, List, [], ◌∷◌, ◌++◌, ℕ, zero, suc, ◌+◌, ◌-◌, ◌/◌, leb, get_or}
use Rattle.wiring.specs.Sockets.{marked}
use Rattle.reader.specs.Bytes.{nought}
use Rattle.listing.specs.Bytes.{letter_x, letter_w}
use Rattle.listing.specs.declared.known.Known.{Known}

-- the numbers of k variables from i on without those that are marked; the lowest bit is variable i's
unfoldable pub unmarked : ℕ → ℕ → ℕ → List ℕ
unmarked zero marks i = []
unmarked (suc k) marks i = let rest = unmarked k (marks / 2) (i + 1) in cond (marked marks 0) rest (i ∷ rest)

-- k numbers from i on
unfoldable pub up_from : ℕ → ℕ → List ℕ
up_from i zero = []
up_from i (suc k) = i ∷ up_from (i + 1) k

-- the signals whose derivatives are told: x1 is 1, w0 is n + 1
unfoldable pub lefts : Known → ℕ → List ℕ
lefts r names = unmarked r.n r.marks 1 ++ up_from (r.n + 1) names

-- the signal of a line, from 0; 0 behind the last
unfoldable pub left_of : Known → ℕ → ℕ → ℕ
left_of r names line = get_or (lefts r names) line 0

-- how a signal is written
unfoldable pub letter_of : Known → ℕ → ℕ
letter_of r signal = cond (leb signal r.n) letter_x letter_w

unfoldable pub digit_of : Known → ℕ → ℕ
digit_of r signal = cond (leb signal r.n) (nought + signal) (nought + (signal - (r.n + 1)))
