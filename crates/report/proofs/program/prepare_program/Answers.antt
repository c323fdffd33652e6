-- `prepare_program` meets its contract: the buffer has the room that the settings ask for. Assumes nothing.
use mathlib.Core.Path.{◌≡◌}
use Prim.Native.Nat.{◌*◌}
use native.Mathlib.Omega.{arith}
use lib.ListN.{length}
use Rattle.wiring.specs.Panel.{set_bytes}
use Rattle.report.specs.Program.{program}
use Rattle.report.proofs.prepare.Laws.{roomy}
use borrow.Author.Rules.{rules}
use Rattle.report.proofs.program.prepare_program.Goals as goal

pub returns : goal.returns
returns c =
    let long : length c.args.sets.now ≡ set_bytes * program.room = search rules in
    roomy program c.args.terms.now (omega arith) c.prepare.ensures
