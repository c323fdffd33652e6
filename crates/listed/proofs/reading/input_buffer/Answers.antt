-- `input_buffer` meets its contract. Assumes nothing.
use Prim.Native.Nat.{ℕ}
use lib.ListN.{length-replicate}
use Rattle.listed.specs.Reading.{most_read}
use Rattle.listed.proofs.reading.input_buffer.Goals as goal

pub returns : goal.returns
returns c = length-replicate {A = ℕ} most_read 0
