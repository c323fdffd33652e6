-- `has_nonsquare` meets its contract: the chain looks for a record that offers. Assumes nothing.
use mathlib.Core.Path.{refl, sym, ap, ◌∙◌}
use native.Mathlib.Omega.{arith}
use borrow.Author.Rules.{rules}
use borrow.Author.Tests.{tests}
use Rattle.std.proofs.lemmas.Iterator.{YieldsList-from_range}
use Rattle.std.proofs.lemmas.Iterator.Search.{any_from_yields_List}
use Rattle.wiring.specs.Signals.{signals_at}
use Rattle.wiring.specs.Terms.{record_at, records}
use Rattle.wiring.proofs.Chains.{any_range}
use Rattle.wiring.proofs.terms.Laws.{records_length, records_at}
use Rattle.wiring.proofs.quadratic.Records.{outside, offering, found_unmet}
use Rattle.wiring.proofs.system.System.has_nonsquare.Goals as goal

pub returns : goal.returns
returns c =
    let a = c.args in
    let l = a.self.terms.now in
    let v = signals_at a.v.n a.v.set.now in
    let f = offering (outside v) (records l) a.z.e in
    let many = c.count.result in
    any_from_yields_List (λ t. f (record_at l t)) _ _ _ c.any.ensures.ran (YieldsList-from_range 0 many many refl (omega arith)) (λ t b q k. search (rules, tests))
    ∙ any_range f _ (records l) many (records_length l ∙ sym c.count.ensures) (λ t d h. ap f (sym (records_at l t d (omega (arith, c.count.ensures)))))
    ∙ found_unmet v (records l) a.z.e
