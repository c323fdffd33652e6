-- `derivative_line` meets its contract: the name, the prime, the right side, the line's end. Assumes nothing.
use Rattle.std.proofs.Common.{append_assoc}
use Rattle.grammar.specs.Grammar.{line_text}
use Rattle.typed.proofs.typed.Listing.derivative_line.Goals as goal

pub returns : goal.returns
unfolding line_text
returns c =
    rw (c.put_text-2.ensures, c.put_right.ensures.text, c.put_text.ensures, c.put_signal.ensures.text, c.requires.empty) (simp append_assoc)
