-- `put_bytes` meets its contract: the loop puts byte after byte. Assumes nothing.
use Rattle.std.proofs.Common.{◌++◌, sym, ap, ◌∙◌, append_assoc, append-nil, arith}
use Rattle.monomial.specs.Lists.{gather}
use Rattle.lines.specs.Case.{hex_text}
use Rattle.lines.proofs.case.Laws.{hex_next}
use Rattle.lines.proofs.case.put_bytes.Goals as goal

pub loop-x-init : goal.loop-x-init
unfolding hex_text gather
loop-x-init c = record { text = sym (append-nil c.args.line.now); long = omega arith }

pub loop-x-preserved : goal.loop-x-preserved
loop-x-preserved c =
    let k = c.loop-x in
    let put = c.put_hex.ensures in record {
      text = rw (put.text, k.invariant.text) (append_assoc c.args.line.now _ _ ∙ ap (λ x. c.args.line.now ++ x) (rw c.from.ensures (hex_next c.args.s.now k.x-index c.loop-x-test.true)));
      long = omega (arith, put.long);
    }
