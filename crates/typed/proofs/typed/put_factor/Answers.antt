-- `put_factor` meets its contract: the variable, and its exponent where it is not 1. Assumes nothing.
use Rattle.std.proofs.Common.{◌++◌, ap, append_assoc}
use Rattle.typed.proofs.typed.Laws.{power_one, power_more}
use Rattle.typed.proofs.typed.put_factor.Goals as goal

pub returns-then-e-ne1-clause-text : goal.returns-then-e-ne1-clause-text
returns-then-e-ne1-clause-text c = λ k.
    rw (c.put_number.ensures.text, c.put_text-then-e-ne1.ensures, c.put_text.ensures, c.from.ensures, append_assoc, append_assoc)
    (ap (λ x. c.args.line.now ++ x) (power_more k c.args.i c.args.e c.requires.some c.if-e-ne1.true))

pub returns-else-e-ne1-clause-text : goal.returns-else-e-ne1-clause-text
returns-else-e-ne1-clause-text c = λ k.
    rw c.put_text.ensures (ap (λ x. c.args.line.now ++ x) (power_one k c.args.i c.args.e c.if-e-ne1.false))
