-- `agrees` meets its contract: the bits of the two coefficients are compared. Assumes nothing.
use mathlib.Core.Path.{◌≡◌, ap, ap₂, ◌∙◌}
use native.Mathlib.Omega.{arith}
use borrow.Author.Rules.{rules}
use lib.IntN.{ℤ, ◌-ℤ◌}
use lib.ListN.{length}
use mir.Syntax.{w64}
use mir.Val.{SFits}
use Rattle.monomial.specs.Monomial.{width}
use Rattle.wiring.specs.Coefficient.{is_zero}
use Rattle.wiring.proofs.Ints.{size_fits}
use Rattle.wiring.proofs.derivative.Bounds.{total_fits, total_held}
use Rattle.truth.specs.Sums.{held, agrees}
use Rattle.truth.proofs.truth.Machine.{cell_fits, bits_same}
use Rattle.truth.proofs.truth.agrees.Goals as goal

pub returns : goal.returns
unfolding agrees
returns c =
    let terms = c.args.s.terms.now in
    let z = c.args.z.e in
    let m = c.args.m.e in
    let long : length z ≡ width = search rules in
    let small = c.requires.small in
    let at = c.cell_of in
    let told : SFits w64 (held c.args.sums.now at.result) = search (rules, cell_fits) in
    let total = c.from.ensures ∙ total_held terms c.args.s.clean z m long small _ c.total.ensures in
    let fits : SFits w64 c.from.result = rw total (size_fits w64 _ (omega (arith, total_fits terms c.args.s.clean z m long small))) in
    bits_same _ _ told fits ∙ ap₂ (λ (x y : ℤ). is_zero (x -ℤ y)) (ap (held c.args.sums.now) at.ensures.value) total
