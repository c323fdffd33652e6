-- `prepare_thin` meets its contract: thinning is lent all of the buffer, and its sets lie there. Assumes nothing.
use Rattle.wiring.specs.Sockets.{panel_of}
use Rattle.report.proofs.prepare.Laws.{thin_holds, prepares_thin}
use Rattle.report.proofs.prepare.prepare_thin.Goals as goal

pub wire_set-wires-requires : goal.wire_set-wires-requires
wire_set-wires-requires c =
    let a = c.args in
    thin_holds (panel_of a.n a.marks a.degree) a.terms.now a.set.now a.sets.now c.thin-reply.result _ c.thin-reply.ensures _ c.numbers-five.ensures

pub returns : goal.returns
returns c =
    let a = c.args in
    prepares_thin (panel_of a.n a.marks a.degree) a.terms.now a.set.now a.sets.now c.thin-reply.result _ c.thin-reply.ensures _ c.numbers-five.ensures
    a.which
    _
    _
    c.wire_set-wires.ensures
