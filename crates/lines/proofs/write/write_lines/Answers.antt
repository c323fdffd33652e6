-- `write_lines` ends: each line that is told is one of so many. Assumes nothing.
use Rattle.std.proofs.Common.{arith, of_calls}
use Rattle.std.proofs.slice.Orders.{answers_next}
use Rattle.lines.proofs.write.write_lines.Goals as goal

pub overflow_add-k : goal.overflow_add-k
overflow_add-k g c =
    let ends = c.loop-line.invariant.1 in
    let next = answers_next g.F.FnMut _ _ _ _ _ c.tell.ensures ends.1 in
    omega (arith, ends.0, next.0 c.loop-line-test.true)

pub loop-line-smaller : goal.loop-line-smaller
loop-line-smaller g c =
    let next = answers_next g.F.FnMut _ _ _ _ _ c.tell.ensures c.loop-line.invariant.1.1 in
    omega (arith, next.0 c.loop-line-test.true)

pub loop-line-preserved : goal.loop-line-preserved
loop-line-preserved g c =
    let ends = c.loop-line.invariant.1 in
    let next = answers_next g.F.FnMut _ _ _ _ _ c.tell.ensures ends.1 in
    (search of_calls, (ends.0, next.1))
