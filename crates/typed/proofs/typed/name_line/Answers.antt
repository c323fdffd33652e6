-- `name_line` meets its contract: the name and the equals sign, the powers, the line's end. Assumes nothing.
use Rattle.grammar.specs.Grammar.{name_text}
use Rattle.typed.proofs.typed.name_line.Goals as goal

pub returns : goal.returns
unfolding name_text
returns c = λ k.
    rw (c.put_text-2.ensures, c.put_factors.ensures.text k, c.read.ensures, c.put_text.ensures, c.requires.empty)
