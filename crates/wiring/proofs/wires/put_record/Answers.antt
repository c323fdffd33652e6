-- `put_record` meets its contract: the eight bytes are the record's. Assumes nothing.
use mathlib.Core.Path.{ap, ◌∙◌}
use mir.Syntax.{w32}
use mir.Val.{of_z}
use mir.ValLaws.{to_z-of_z}
use Rattle.wiring.proofs.coefficient.Laws.{bits_are}
use Rattle.wiring.specs.Wires.{wire_record}
use Rattle.wiring.proofs.wires.put_record.Goals as goal

pub returns : goal.returns
unfolding wire_record
returns c =
    let bits = ap (of_z w32) (to_z-of_z w32 c.args.c c.ranges.c) ∙ bits_are c.args.c c.ranges.c in
    rw (c.to_le_bytes.ensures, bits) at c.put.ensures
