-- `add_ended` meets its contract: a term that is whole is added, and another is not. Assumes nothing.
use Rattle.desktop.specs.Lines.{with_term}
use Rattle.desktop.proofs.lines.add_ended.Goals as goal

pub returns-then-ends_term : goal.returns-then-ends_term
unfolding with_term
returns-then-ends_term c = λ line s. rw (← c.ends_term.ensures, c.if-ends_term.true) (c.add.ensures line s)

pub returns-else-ends_term : goal.returns-else-ends_term
unfolding with_term
returns-else-ends_term c = λ line s. rw (← c.ends_term.ensures, c.if-ends_term.false) s
