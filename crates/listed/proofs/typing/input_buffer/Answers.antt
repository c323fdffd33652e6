-- `input_buffer` meets its contract. Assumes nothing.
use Prim.Native.Nat.{ℕ}
use lib.ListN.{length-replicate}
use Rattle.listed.specs.Typing.{most_typed}
use Rattle.listed.proofs.typing.input_buffer.Goals as goal

pub returns : goal.returns
returns c = length-replicate {A = ℕ} most_typed 0
