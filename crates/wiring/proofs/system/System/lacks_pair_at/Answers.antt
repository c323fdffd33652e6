-- `lacks_pair_at` meets its contract: the tests of the code are those of `offers`. Assumes nothing.
use mathlib.Core.Path.{sym, ap, ◌∙◌}
use mathlib.Core.Bool.{not}
use borrow.Author.Rules.{sfits_of}
use Rattle.wiring.specs.Signals.{signals_of}
use Rattle.wiring.specs.Terms.{record_at, records, system}
use Rattle.wiring.proofs.coefficient.Laws.{tests_zero}
use Rattle.wiring.proofs.quadratic.Records.{lacks_none, lacks_met, lacks_unmet}
use Rattle.wiring.proofs.system.System.lacks_pair_at.Goals as goal

pub returns-in_default : goal.returns-in_default
returns-in_default c =
    let a = c.args in
    sym (lacks_none (signals_of a.v) a.last (system (records a.self.terms.now)) a.z.e (record_at a.self.terms.now a.t) (sym c.in_default.ensures.told))

pub returns-then-is_some : goal.returns-then-is_some
returns-then-is_some c =
    let a = c.args in
    let m = c.in-Some in
    let met = sym c.pair_of.ensures.told ∙ sym c.is_some.ensures ∙ c.if-is_some.true in
    sym (lacks_met (signals_of a.v) a.last (system (records a.self.terms.now)) a.z.e (record_at a.self.terms.now a.t) m.m.e m.ensures.is met)

pub returns : goal.returns
returns c =
    let a = c.args in
    let m = c.in-Some in
    let unmet = sym c.pair_of.ensures.told ∙ sym c.is_some.ensures ∙ c.if-is_some.false in
    ap not (tests_zero _ (sfits_of c.total.type_inv) c.total.ensures)
    ∙ lacks_unmet (signals_of a.v) a.last (system (records a.self.terms.now)) a.z.e (record_at a.self.terms.now a.t) m.m.e m.ensures.is (sym m.ensures.told) unmet
