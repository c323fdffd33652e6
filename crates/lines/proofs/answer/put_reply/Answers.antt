-- `put_reply` meets its contract: the numbers, then the line's end. Assumes nothing.
use Rattle.std.proofs.Common.{append_assoc}
use Rattle.lines.specs.Answer.{reply_line}
use Rattle.lines.proofs.answer.put_reply.Goals as goal

pub returns : goal.returns
unfolding reply_line
returns g c = rw (c.put_text.ensures, c.put_joined.ensures.text) (append_assoc c.args.line.now _ _)
