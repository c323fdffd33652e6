-- `case_line` meets its contract: the numbers, the buffer behind them, the line's end. Assumes nothing.
use Rattle.std.proofs.Common.{append_assoc}
use Rattle.lines.specs.Case.{case_line}
use Rattle.lines.proofs.case.case_line.Goals as goal

pub returns : goal.returns
unfolding case_line
returns c = rw (c.put_text-2.ensures, c.put_buffer.ensures.text, c.put_text.ensures, c.put_joined.ensures.text, c.clear.ensures) (simp append_assoc)
