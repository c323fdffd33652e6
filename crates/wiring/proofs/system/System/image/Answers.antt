-- `System::image` meets its contract: the exponent of the record's variable falls by one, then the product. Assumes nothing.
use mathlib.Core.Path.{◌≡◌, sym, subst}
use native.Mathlib.Omega.{arith}
use lib.ListN.{length}
use Rattle.monomial.specs.Product.{FitsBytes}
use Rattle.monomial.proofs.product.Laws.{at_most_weaken}
use Rattle.wiring.specs.Terms.{record_at}
use Rattle.wiring.specs.Derivative.{image}
use Rattle.wiring.proofs.terms.Laws.{clean_at}
use Rattle.wiring.proofs.derivative.Records.{image_made}
use Rattle.wiring.proofs.derivative.Bounds.{image_fits}
use borrow.Author.Rules.{rules}
use Rattle.monomial.specs.Monomial.{width}
use Rattle.wiring.specs.Panel.{term_exponent}
use Rattle.wiring.proofs.system.System.image.Goals as goal

pub times-requires : goal.times-requires
times-requires c =
    let r = record_at c.args.self.terms.now c.args.t in
    let z = c.args.z.e in
    let h = clean_at c.args.self.terms.now c.args.self.clean c.args.t (omega arith) in
    let made = image_made r z _ _ _ c.equation-i.ensures.value c.of.ensures c.monomial.ensures in
    let six : length z ≡ width = search rules in
    let fits = (image_fits r term_exponent 200 z h.long h.small six c.requires.small).1 in
    subst FitsBytes (sym made) (at_most_weaken (image r z) (omega arith) fits)
