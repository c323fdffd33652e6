-- `enter` meets its contract: a record that has room is pasted behind the list, and without room the list is too long. Assumes nothing.
use Prim.Native.Nat.{◌+◌, ◌*◌, ◌≤◌}
use native.Mathlib.Omega.{arith}
use lib.ListN.{length}
use mir.Syntax.{w32}
use mir.ValLaws.{to_z-of_z}
use Rattle.wiring.specs.Panel.{wire_bytes}
use Rattle.wiring.proofs.wires.Sheets.{sheet_more}
use Rattle.wiring.proofs.wires.enter.Goals as goal

pub returns : goal.returns
returns c =
    let a = c.args in
    let room : wire_bytes * a.at + wire_bytes ≤ length a.out.now = omega arith in
    let same = to_z-of_z w32 a.c c.ranges.c in
    λ done h. rw (c.put_record.ensures, same) (sheet_more done a.at a.out.now _ h room)
