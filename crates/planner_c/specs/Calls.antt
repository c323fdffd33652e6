-- What a call leaves to C: the five numbers in their order, and every byte of the buffer that was lent. Assumes nothing.
use Rattle.std.specs.Prelude.{List, ℕ}
use Rattle.wiring.specs.Reply.{Outcome, in_order}

pub record Answer : Type 0 where
  pub five : List ℕ
  pub bytes : List ℕ

abbrev pub answer : List ℕ → List ℕ → Answer
answer five bytes = record { five = five; bytes = bytes }

-- an outcome of the library, as C gets it
abbrev pub given : Outcome → Answer
given o = answer (in_order o.said) o.bytes
