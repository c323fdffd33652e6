-- `terms::repeats` meets its contract: the chain asks about the records before. Assumes nothing.
use mathlib.Core.Path.{refl, sym, ap, ◌∙◌}
use native.Mathlib.Omega.{arith}
use borrow.Author.Rules.{rules}
use borrow.Author.Tests.{tests}
use lib.ListN.{take}
use Rattle.std.proofs.lemmas.Iterator.{YieldsList-from_range}
use Rattle.std.proofs.lemmas.Iterator.Search.{any_from_yields_List}
use Rattle.wiring.specs.Terms.{record_at, records, alike}
use Rattle.wiring.proofs.Chains.{any_range}
use Rattle.wiring.proofs.terms.Laws.{earlier_length, earlier_at}
use Rattle.wiring.proofs.terms.repeats.Goals as goal

pub returns : goal.returns
returns c =
    let t = c.args.t in
    let l = c.args.terms.now in
    let f = alike (record_at l t) in
    any_from_yields_List (λ u. f (record_at l u)) _ _ _ c.any.ensures.ran (YieldsList-from_range 0 t t refl (omega arith)) (λ u b q k. search (rules, tests))
    ∙ any_range f _ (take t (records l)) t (earlier_length l t c.requires) (λ u d h. ap f (sym (earlier_at l t c.requires u d h)))
