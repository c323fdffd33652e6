-- `Monomial::divides` meets its contract: the exponents are compared in pairs. Assumes nothing.
use Rattle.std.proofs.Common.{rules, tests, ◌∙◌}
use lib.Dec.{leb}
use Rattle.std.proofs.lemmas.Iterator.{YieldsList-from_slice, YieldsList-from_zip}
use Rattle.std.proofs.lemmas.Iterator.Search.{all_from_yields_List}
use Rattle.monomial.proofs.Loops.{pairwise_zip}
use Rattle.monomial.proofs.Monomial.divides.Goals as goal

pub returns : goal.returns
returns c =
    let a = c.args.self.e in
    let b = c.args.other.e in
    all_from_yields_List (λ p. leb p.0 p.1) c.all.new.self _ _ c.all.ensures.ran (YieldsList-from_zip (YieldsList-from_slice a cc) (YieldsList-from_slice b cc)) (λ x y q k. search (rules, tests))
    ∙ pairwise_zip leb a b (search rules)
