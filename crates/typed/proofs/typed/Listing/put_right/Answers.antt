-- `put_right` meets its contract: the loop puts term after term (`Summing`). Assumes nothing.
use Rattle.std.proofs.Common.{◌<◌, length, sym, ◌∙◌, arith}
use Rattle.typed.specs.Typed.{wire_at, wires_in}
use Rattle.typed.proofs.typed.Laws.{summing_start, summing_skip, summing_next, summing_none, summing_end, wire_left, wires_length, wires_at}
use Rattle.typed.proofs.typed.Listing.put_right.Goals as goal
use Rattle.typed.proofs.typed.Listing.put_right.Goals.{then-from-l, else-from-l}

pub loop-j-init : goal.loop-j-init
loop-j-init c = summing_start c.args.self.known c.args.l (wires_in c.args.self.count c.args.self.wires.now) c.args.line.now

pub loop-j-preserved : goal.loop-j-preserved
loop-j-preserved c =
    let q = c.args in
    let k = c.loop-j in
    let bytes = q.self.wires.now in
    let read = c.from.ensures ∙ wire_left bytes k.j in
    let none = wire_at bytes 0 in
    let here = wires_at q.self.count bytes k.j none c.loop-j-test.true in
    let long : k.j < length (wires_in q.self.count bytes) = rw (wires_length q.self.count bytes) c.loop-j-test.true in
    elim c.if-from-l.branch [
      | then-from-l w ↦
          let put = w.put_term.ensures in
          rw (w.line-is, w.i-is) (summing_next k.invariant _ none long here (sym read ∙ w.if-from-l.true) put.text put.short)
      | else-from-l w ↦
          rw (w.line-is, w.i-is) (summing_skip k.invariant _ none long here (λ e. w.if-from-l.false (read ∙ e)))
    ]

pub returns-then-i-eq0-clause-text : goal.returns-then-i-eq0-clause-text
returns-then-i-eq0-clause-text c =
    let all = wires_length c.args.self.count c.args.self.wires.now in
    summing_none c.loop-j.invariant (omega arith) c.if-i-eq0.true c.put_text.ensures

pub returns-else-i-eq0-clause-text : goal.returns-else-i-eq0-clause-text
returns-else-i-eq0-clause-text c =
    let all = wires_length c.args.self.count c.args.self.wires.now in
    summing_end c.loop-j.invariant (omega arith) c.if-i-eq0.false
