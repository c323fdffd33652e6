-- `wire` meets its contract: what is not taken is refused over zeros, and the set that is taken is wired. Assumes nothing.
use mathlib.Core.Path.{sym, ap, ◌∙◌}
use lib.ListN.{length}
use Rattle.wiring.specs.Reply.{outcome}
use Rattle.wiring.specs.Sockets.{panel_of}
use Rattle.wiring.proofs.answers.Laws.{wired_refused, wired_given}
use Rattle.wiring.proofs.answers.wire.Goals as goal

pub returns-in-Err : goal.returns-in-Err
returns-in-Err c =
    let a = c.args in
    let no = c.in-Err.ensures in
    ap (outcome c.in-Err.said) c.clear.ensures
    ∙ sym (wired_refused (panel_of a.n a.marks a.degree) a.terms.now a.set.now (length a.out.now) c.in-Err.said no.says no.code)

pub returns-in-Ok : goal.returns-in-Ok
returns-in-Ok c =
    let a = c.args in
    c.wire_set.ensures ∙ wired_given (panel_of a.n a.marks a.degree) a.terms.now a.set.now (length a.out.now) _ c.in-Ok.set c.in-Ok.ensures c.clear.auto.out
