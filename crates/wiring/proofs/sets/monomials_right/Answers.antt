-- `monomials_right` meets its contract: the chain tests the used places. Assumes nothing.
use mathlib.Core.Path.{refl, sym, ap, ◌∙◌}
use native.Mathlib.Omega.{arith}
use borrow.Author.Rules.{rules}
use borrow.Author.Tests.{tests}
use lib.ListN.{take}
use Rattle.std.proofs.lemmas.Iterator.{YieldsList-from_range}
use Rattle.std.proofs.lemmas.Iterator.Search.{all_from_yields_List}
use Rattle.wiring.specs.Sets.{places, monomial_right}
use Rattle.wiring.proofs.Chains.{all_range}
use Rattle.wiring.proofs.sets.Laws.{place_at, used_length, used_at}
use Rattle.wiring.proofs.sets.monomials_right.Goals as goal

pub returns : goal.returns
returns c =
    let len = c.args.len in
    let s = c.args.s.now in
    let f = monomial_right c.args.panel in
    all_from_yields_List (λ i. f (place_at s i)) _ _ _ c.all.ensures.ran (YieldsList-from_range 0 len len refl (omega arith)) (λ i b q k. search (rules, tests))
    ∙ all_range f _ (take len (places s)) len (used_length s len c.requires) (λ i d h. ap f (sym (used_at s len c.requires i d h)))
