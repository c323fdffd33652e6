-- `zero_from` meets its contract: the chain tests the bytes from at on. Assumes nothing.
use mathlib.Core.Path.{◌∙◌}
use borrow.Author.Rules.{rules}
use borrow.Author.Tests.{tests}
use lib.Dec.{eqb}
use lib.ListN.{drop}
use Rattle.std.proofs.lemmas.Iterator.{YieldsList-from_slice}
use Rattle.std.proofs.lemmas.Iterator.Search.{all_from_yields_List}
use Rattle.std.proofs.lemmas.List.{take_rest}
use Rattle.wiring.proofs.Chains.{all_list}
use Rattle.wiring.proofs.sets.zero_from.Goals as goal

pub returns : goal.returns
returns c =
    let bytes = c.args.s.now in
    let rest = drop c.args.at bytes in
    all_from_yields_List (eqb 0) _ _ _ c.all.ensures.ran (YieldsList-from_slice rest (c.iter.ensures.rest ∙ take_rest bytes c.args.at)) (λ x b q k. search (rules, tests))
    ∙ all_list (eqb 0) rest
