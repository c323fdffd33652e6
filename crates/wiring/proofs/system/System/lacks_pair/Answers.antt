-- `lacks_pair` meets its contract: the chain looks for a record that offers. Assumes nothing.
use mathlib.Core.Path.{refl, sym, ap, ◌∙◌}
use native.Mathlib.Omega.{arith}
use borrow.Author.Rules.{rules}
use borrow.Author.Tests.{tests}
use Rattle.std.proofs.lemmas.Iterator.{YieldsList-from_range}
use Rattle.std.proofs.lemmas.Iterator.Search.{any_from_yields_List}
use Rattle.wiring.specs.Signals.{signals_of}
use Rattle.wiring.specs.Terms.{record_at, records}
use Rattle.wiring.specs.Wires.{unmet_beyond}
use Rattle.wiring.proofs.Chains.{any_range}
use Rattle.wiring.proofs.terms.Laws.{records_length, records_at}
use Rattle.wiring.proofs.quadratic.Records.{offering, offers_some}
use Rattle.wiring.proofs.system.System.lacks_pair.Goals as goal

pub returns : goal.returns
returns c =
    let a = c.args in
    let l = a.self.terms.now in
    let beyond = unmet_beyond (signals_of a.v) a.last in
    let f = offering beyond (records l) a.z.e in
    any_from_yields_List (λ t. f (record_at l t)) _ _ _ c.any.ensures.ran (YieldsList-from_range 0 c.count.result c.count.result refl (omega arith)) (λ t b q k. search (rules, tests))
    ∙ any_range f _ (records l) c.count.result (records_length l ∙ sym c.count.ensures) (λ t d h. ap f (sym (records_at l t d (omega (arith, c.count.ensures)))))
    ∙ offers_some beyond (records l) a.z.e
