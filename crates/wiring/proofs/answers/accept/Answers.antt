-- `accept` meets its contract: the checks run in their order, and then the record decides. Assumes nothing.
use mathlib.Core.Path.{sym, ◌∙◌}
use native.Mathlib.Omega.{arith}
use Rattle.std.specs.Prelude.{Ok, Err}
use Rattle.std.proofs.lemmas.Result.{err_from_is_err_and}
use Rattle.wiring.specs.Sockets.{panel_of}
use Rattle.wiring.proofs.answers.Laws.{said_setting, said_terms_length, said_set_length, said_rest, fault_code, given_read}
use Rattle.wiring.proofs.answers.accept.Goals as goal

pub returns-then-not-panel_right : goal.returns-then-not-panel_right
returns-then-not-panel_right c =
    let a = c.args in
    record { says = said_setting (panel_of a.n a.marks a.degree) a.terms.now a.set.now (sym c.panel_right.ensures ∙ c.if-not-panel_right.true); code = λ z. omega arith }

pub returns-then-not-length_right : goal.returns-then-not-length_right
returns-then-not-length_right c =
    let a = c.args in
    let known = sym c.panel_right.ensures ∙ c.if-not-panel_right.false in
    record {
      says = said_terms_length (panel_of a.n a.marks a.degree) a.terms.now a.set.now known (sym c.length_right.ensures ∙ c.if-not-length_right.true);
      code = λ z. omega arith;
    }

pub returns-in_default : goal.returns-in_default
returns-in_default c =
    let a = c.args in
    let known = sym c.panel_right.ensures ∙ c.if-not-panel_right.false in
    let measured = sym c.length_right.ensures ∙ c.if-not-length_right.false in
    let cut = rw c.in_default.is at c.as_array.ensures.cases in
    record {
      says = said_set_length (panel_of a.n a.marks a.degree) a.terms.now a.set.now known measured cut;
      code = λ z. omega arith;
    }

pub returns-in_err-fault_of : goal.returns-in_err-fault_of
returns-in_err-fault_of c =
    let a = c.args in
    let known = sym c.panel_right.ensures ∙ c.if-not-panel_right.false in
    let measured = sym c.length_right.ensures ∙ c.if-not-length_right.false in
    let f = c.in_err-fault_of in
    let p = err_from_is_err_and c.from_residual.result c.from_residual.ensures.1 in
    rw (p.1, p.2) (record {
      says = sym (said_rest (panel_of a.n a.marks a.degree) a.terms.now a.set.now known measured c.in-Some.ensures.cases.long (Err _) (sym f.was ∙ c.fault_of.ensures));
      code = fault_code _;
    })

pub returns : goal.returns
returns c =
    let a = c.args in
    let known = sym c.panel_right.ensures ∙ c.if-not-panel_right.false in
    let measured = sym c.length_right.ensures ∙ c.if-not-length_right.false in
    let clean = sym c.in_ok-fault_of.was ∙ c.fault_of.ensures in
    let says = sym (said_rest (panel_of a.n a.marks a.degree) a.terms.now a.set.now known measured c.in-Some.ensures.cases.long (Ok _) clean) in
    rw c.ok_or.ensures.value (given_read _ _ _ known c.in-Some.ensures.cases.long (sym clean) says _ (rw c.in-Some.ensures.cases.same at c.read_set.ensures))
