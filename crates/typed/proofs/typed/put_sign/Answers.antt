-- `put_sign` meets its contract: way by way out of its tests. Assumes nothing.
use Rattle.std.proofs.Common.{sym, append-nil}
use Rattle.typed.specs.Typed.{sign_text}
use Rattle.typed.proofs.typed.Laws.{sign_later}
use Rattle.typed.proofs.typed.put_sign.Goals as goal

pub returns-then-negative-clause-text : goal.returns-then-negative-clause-text
unfolding sign_text
returns-then-negative-clause-text c = rw (c.put_text.ensures, c.if-i-eq0.true, c.if-negative.true)

pub returns-else-negative-clause-text : goal.returns-else-negative-clause-text
unfolding sign_text
returns-else-negative-clause-text c = rw (c.if-i-eq0.true, c.if-negative.false) (sym (append-nil c.args.line.now))

pub returns-then-negative-2-clause-text : goal.returns-then-negative-2-clause-text
returns-then-negative-2-clause-text c =
    rw (c.put_text-then-negative-2.ensures, sign_later _ c.args.negative c.if-i-eq0.false, c.if-negative-2.true)

pub returns-else-negative-2-clause-text : goal.returns-else-negative-2-clause-text
returns-else-negative-2-clause-text c =
    rw (c.put_text-else-negative-2.ensures, sign_later _ c.args.negative c.if-i-eq0.false, c.if-negative-2.false)
