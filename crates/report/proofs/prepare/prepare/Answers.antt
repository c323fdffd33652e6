-- `prepare` meets its contract: planning is lent the front of the buffer, and its sets lie there. Assumes nothing.
use mathlib.Core.Path.{sym}
use mathlib.Core.List.{[]}
use Rattle.report.proofs.prepare.Laws.{lent_front, front_long, front_holds, prepares}
use Rattle.report.proofs.prepare.prepare.Goals as goal

pub slice_bounds-plan-end-2 : goal.slice_bounds-plan-end-2
slice_bounds-plan-end-2 c =
    sym (lent_front c.args.s [] c.args.sets.now _ c.min-room.ensures)

pub slice_bounds-wire_set-end-2 : goal.slice_bounds-wire_set-end-2
slice_bounds-wire_set-end-2 c =
    let s = c.args.s in
    let planned = c.plan-reply in
    let room = c.min-room.ensures in
    sym (front_long s c.args.terms.now c.args.sets.now _ room planned.result _ planned.ensures)

pub wire_set-wires-requires : goal.wire_set-wires-requires
wire_set-wires-requires c =
    let s = c.args.s in
    let planned = c.plan-reply in
    let room = c.min-room.ensures in
    front_holds s c.args.terms.now c.args.sets.now _ room planned.result _ planned.ensures _ c.numbers-five.ensures

pub returns : goal.returns
returns c =
    let s = c.args.s in
    let planned = c.plan-reply in
    let room = c.min-room.ensures in
    let five = c.numbers-five.ensures in
    prepares s c.args.terms.now c.args.sets.now _ room planned.result _ planned.ensures _ five _ _ c.wire_set-wires.ensures
