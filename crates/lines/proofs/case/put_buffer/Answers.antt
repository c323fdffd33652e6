-- `put_buffer` meets its contract: by the buffer's length. Assumes nothing.
use Rattle.std.proofs.Common.{arith, append_assoc}
use Rattle.std.proofs.lemmas.Bool.Decides.{nat_tests}
use Rattle.lines.proofs.case.Laws.{buffer_none, buffer_whole, buffer_digest}
use Rattle.lines.proofs.case.put_buffer.Goals as goal

pub returns-then-is_empty-clause-text : goal.returns-then-is_empty-clause-text
returns-then-is_empty-clause-text c = rw (← buffer_none c.args.s.now (grind (arith, nat_tests))) c.put_text.ensures

pub returns-then-s-le-SHOWN_BYTES-clause-text : goal.returns-then-s-le-SHOWN_BYTES-clause-text
returns-then-s-le-SHOWN_BYTES-clause-text c = rw (← buffer_whole c.args.s.now (grind (arith, nat_tests)) c.if-s-le-SHOWN_BYTES.true) c.put_bytes.ensures.text

pub returns-else-s-le-SHOWN_BYTES-clause-text : goal.returns-else-s-le-SHOWN_BYTES-clause-text
returns-else-s-le-SHOWN_BYTES-clause-text c =
    rw (← buffer_digest c.args.s.now (grind (arith, nat_tests)) c.if-s-le-SHOWN_BYTES.false, c.put_hex.ensures.text, c.put_text-else-s-le-SHOWN_BYTES.ensures, c.digest.ensures)
    (append_assoc c.args.line.now _ _)
