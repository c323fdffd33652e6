-- `large_buffer` meets its contract. Assumes nothing.
use Prim.Native.Nat.{ℕ, ◌*◌}
use Rattle.wiring.specs.Panel.{set_bytes}
use Rattle.asked.specs.Settings.{most_sets}
use lib.ListN.{length-replicate}
use Rattle.asked.proofs.answer.large_buffer.Goals as goal

pub returns : goal.returns
returns c = length-replicate {A = ℕ} (set_bytes * most_sets) 0
