-- `prepare_asked` meets its contract: the input is cut where the terms begin, and a plan, a thinning or a wiring is
-- prepared; wrong words leave the buffers. Assumes nothing.
use mathlib.Core.Path.{◌≡◌, sym, ap, ◌∙◌}
use Rattle.std.specs.Prelude.{Some}
use Rattle.asked.specs.declared.settings.Asked.{Asked}
use Rattle.asked.specs.declared.settings.Asked.TheVariants.{Thin, Wire}
use native.Mathlib.Omega.{arith}
use lib.Seq.{length-take-le}
use Rattle.lines.proofs.Cut.{front_within, rest_within}
use Rattle.asked.specs.Input.{given_bytes}
use Rattle.asked.proofs.answer.prepare_asked.Goals as goal

pub slice_bounds-set-end : goal.slice_bounds-set-end
slice_bounds-set-end c =
    let input = c.args.input.now in
    sym (length-take-le _ input (omega (arith, c.min-at.ensures)))

pub returns-in-Some-Thin : goal.returns-in-Some-Thin
returns-in-Some-Thin c =
    let args = c.args in
    let cut = rw c.given_bytes.ensures.value at c.min-at.ensures in
    let told = c.in-Some-Thin in
    let inner : told.field-0 ≡ Thin told.n told.marks told.degree told.which = rw told.is at told.field-0-is in
    let asked = told.is ∙ ap (λ (x : Asked). Some x) inner in
    rw asked (rw (rest_within args.input.now (given_bytes args.a) _ cut, front_within args.input.now (given_bytes args.a) _ cut, asked) at c.prepare_thin.ensures)

pub returns-in-Some-Wire : goal.returns-in-Some-Wire
returns-in-Some-Wire c =
    let args = c.args in
    let cut = rw c.given_bytes.ensures.value at c.min-at.ensures in
    let told = c.in-Some-Wire in
    let inner : told.field-0 ≡ Wire told.n told.marks told.degree = rw told.is at told.field-0-is in
    let asked = told.is ∙ ap (λ (x : Asked). Some x) inner in
    rw asked (rw (rest_within args.input.now (given_bytes args.a) _ cut, front_within args.input.now (given_bytes args.a) _ cut, asked) at (c.prepare_wire.ensures args.sets.now))
