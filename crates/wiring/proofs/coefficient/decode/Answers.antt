-- `coefficient::decode` meets its contract: the four bytes as one word, and its two's complement. Assumes nothing.
use mathlib.Core.Path.{ap, ◌∙◌}
use native.Mathlib.Omega.{arith}
use mir.Syntax.{w32}
use mir.ValLaws.{to_z-of_z}
use Rattle.wiring.specs.Coefficient.{signed}
use Rattle.wiring.proofs.coefficient.Laws.{signed_is}
use Rattle.wiring.proofs.coefficient.decode.Goals as goal

pub returns : goal.returns
returns c =
    to_z-of_z w32 _ (record { sfits = c.from_le_bytes.type_inv }) ∙ c.from_le_bytes.ensures ∙ signed_is _ ∙ ap signed (omega arith)
