-- `plan` meets its contract: the checks run in their order, over a buffer of zeros. Assumes nothing.
use mathlib.Core.Path.{sym, ◌∙◌}
use lib.ListN.{length}
use Rattle.wiring.specs.Sockets.{panel_of}
use Rattle.walk.proofs.plan.Laws.{settings_few, settings_low, settings_clean, said_setting, said_length, said_fault, said_walked}
use Rattle.walk.proofs.plan.plan.Goals as goal

pub returns-then-not-settings_right : goal.returns-then-not-settings_right
returns-then-not-settings_right c =
    let a = c.args in
    let wrong = sym c.settings_right.ensures ∙ c.if-not-settings_right.true in
    said_setting (panel_of a.n a.marks a.degree) a.cap a.limit a.terms.now (length a.out.now) _ c.clear.ensures wrong

pub returns-then-not-length_right : goal.returns-then-not-length_right
returns-then-not-length_right c =
    let a = c.args in
    let right = sym c.settings_right.ensures ∙ c.if-not-settings_right.false in
    let wrong = sym c.length_right.ensures ∙ c.if-not-length_right.true in
    said_length (panel_of a.n a.marks a.degree) a.cap a.limit a.terms.now (length a.out.now) _ c.clear.ensures right wrong

pub climb-requires-clause-few : goal.climb-requires-clause-few
climb-requires-clause-few c =
    let a = c.args in
    settings_few (panel_of a.n a.marks a.degree) a.cap a.limit (sym c.settings_right.ensures ∙ c.if-not-settings_right.false)

pub climb-requires-clause-capped : goal.climb-requires-clause-capped
climb-requires-clause-capped c =
    let a = c.args in
    settings_low (panel_of a.n a.marks a.degree) a.cap a.limit (sym c.settings_right.ensures ∙ c.if-not-settings_right.false)

pub climb-requires-clause-clean : goal.climb-requires-clause-clean
climb-requires-clause-clean c =
    let a = c.args in
    let right = sym c.settings_right.ensures ∙ c.if-not-settings_right.false in
    settings_clean (panel_of a.n a.marks a.degree) a.cap a.limit right a.terms.now (sym c.fault_of.ensures ∙ c.in-Ok.is)

pub returns-in-Ok : goal.returns-in-Ok
returns-in-Ok c =
    let a = c.args in
    let right = sym c.settings_right.ensures
    ∙ c.if-not-settings_right.false in
    let measured = sym c.length_right.ensures
    ∙ c.if-not-length_right.false in
    let clean = sym c.fault_of.ensures ∙ c.in-Ok.is in
    said_walked (panel_of a.n a.marks a.degree) a.cap a.limit a.terms.now (length a.out.now) _ _
    c.climb.ensures c.clear.auto.out right measured clean

pub returns-in-Err : goal.returns-in-Err
returns-in-Err c =
    let a = c.args in
    let right = sym c.settings_right.ensures
    ∙ c.if-not-settings_right.false in
    let measured = sym c.length_right.ensures ∙ c.if-not-length_right.false in
    let faulty = sym c.fault_of.ensures ∙ c.in-Err.is in
    rw c.from.ensures (said_fault (panel_of a.n a.marks a.degree) a.cap a.limit a.terms.now (length a.out.now) _ c.clear.ensures right measured _ faulty)
