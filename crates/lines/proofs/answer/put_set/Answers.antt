-- `put_set` meets its contract: the loop puts monomial after monomial, each behind its lead. Assumes nothing.
use Rattle.std.proofs.Common.{◌<◌, min, [], arith}
use Rattle.wiring.specs.Panel.{cards}
use Rattle.lines.specs.Text.{space}
use Rattle.lines.specs.Answer.{exponents, set_text}
use Rattle.lines.proofs.text.Laws.{joining_start, joining_next, joining_end}
use Rattle.lines.proofs.answer.Laws.{pieces, pieces_length, piece_at}
use Rattle.lines.proofs.answer.put_set.Goals as goal

pub loop-i-init : goal.loop-i-init
loop-i-init c = record { text = joining_start space (pieces c.args.bytes.now c.args.size) c.args.line.now; short = omega arith }

pub loop-i-preserved : goal.loop-i-preserved
loop-i-preserved c =
    let k = c.loop-i in
    let lead = c.put_lead.ensures in
    let put = c.put_monomial.ensures in
    let more : k.i < min c.args.size cards = omega arith in
    let long = pieces_length c.args.bytes.now c.args.size in record {
      text = joining_next space (pieces c.args.bytes.now c.args.size) k.i c.args.line.now _ (exponents []) (rw long more) (piece_at c.args.bytes.now c.args.size k.i more) k.invariant.text lead.text put.text;
      short = omega (arith, lead.room, put.short);
    }

pub returns-clause-text : goal.returns-clause-text
unfolding set_text
returns-clause-text c =
    joining_end space (pieces c.args.bytes.now c.args.size) c.loop-i.i c.args.line.now (omega (arith, pieces_length c.args.bytes.now c.args.size)) c.loop-i.invariant.text
