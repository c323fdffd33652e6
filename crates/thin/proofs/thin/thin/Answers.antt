-- `thin` meets its contract: what is not taken is refused over zeros, and the set that is taken is judged and thinned. Assumes nothing.
use mathlib.Core.Path.{sym, ap, ◌∙◌}
use lib.ListN.{length}
use Rattle.wiring.specs.Sockets.{panel_of}
use Rattle.wiring.specs.Reply.{outcome}
use Rattle.thin.proofs.thin.Laws.{thinned_refused, thinned_given}
use Rattle.thin.proofs.thin.thin.Goals as goal

pub returns-in-Err : goal.returns-in-Err
returns-in-Err c =
    let a = c.args in
    let no = c.in-Err.ensures in
    ap (outcome c.in-Err.said) c.clear.ensures
    ∙ sym (thinned_refused (panel_of a.n a.marks a.degree) a.terms.now a.set.now (length a.out.now) c.in-Err.said no.says no.code)

pub returns-in-Ok : goal.returns-in-Ok
returns-in-Ok c =
    let a = c.args in
    c.thin_judged.ensures ∙ thinned_given (panel_of a.n a.marks a.degree) a.terms.now a.set.now (length a.out.now) _ c.in-Ok.set c.in-Ok.ensures c.clear.auto.out
