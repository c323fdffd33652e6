-- `prepare_wire` meets its contract: the given set is wired into all of the buffer for wires. Assumes nothing.
use mathlib.Core.Path.{◌≡◌}
use lib.ListN.{length}
use Rattle.wiring.specs.Panel.{wires_bytes}
use Rattle.wiring.specs.Sockets.{panel_of}
use Rattle.report.proofs.prepare.Laws.{prepares_wire}
use borrow.Author.Rules.{rules}
use Rattle.report.proofs.prepare.prepare_wire.Goals as goal

pub returns : goal.returns
returns c =
    let a = c.args in
    let long : length a.out.now ≡ wires_bytes = search rules in
    prepares_wire (panel_of a.n a.marks a.degree) a.terms.now a.set.now _ long c.wire-reply.result _ _ c.wire-reply.ensures c.numbers-five.ensures
