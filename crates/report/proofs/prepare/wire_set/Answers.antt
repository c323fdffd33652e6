-- `wire_set` meets its contract: no set of that number, or its record is wired. Assumes nothing.
use mathlib.Core.Path.{◌≡◌, refl}
use native.Mathlib.Omega.{arith}
use lib.ListN.{length}
use Rattle.wiring.specs.Panel.{wires_bytes}
use Rattle.report.proofs.prepare.Laws.{wires_zero, wires_beyond, wires_there}
use borrow.Author.Rules.{rules}
use Rattle.report.proofs.prepare.wire_set.Goals as goal

pub returns-then-which-lt1 : goal.returns-then-which-lt1
returns-then-which-lt1 c =
    let long : length c.args.out.now ≡ wires_bytes = search rules in
    wires_zero _ _ _ _ _ _ long _ c.clear.ensures c.if-which-lt1.true

pub returns-then-count-which : goal.returns-then-count-which
returns-then-count-which c =
    let long : length c.args.out.now ≡ wires_bytes = search rules in
    wires_beyond _ _ _ _ _ _ long _ c.clear.ensures (omega arith) c.if-count-which.true

pub returns : goal.returns
returns c =
    let long : length c.clear.new.out ≡ wires_bytes = search rules in
    wires_there _ _ _ _ _ _ long (omega arith) (omega arith) _ refl c.wire-said.result _ _ c.wire-said.ensures c.numbers-five.ensures
