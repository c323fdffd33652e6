-- `prepare_typing` meets its contract: the input is cut where the terms begin, and the set is wired. Assumes nothing.
use mathlib.Core.Path.{◌≡◌, sym}
use native.Mathlib.Omega.{arith}
use lib.ListN.{length, length-take}
use lib.Seq.{length-take-le}
use Rattle.wiring.specs.Panel.{set_bytes, wires_bytes}
use Rattle.lines.specs.Input.{set_in}
use Rattle.lines.proofs.Cut.{front_within, rest_within}
use Rattle.listed.proofs.typing.Laws.{held_padded, types}
use borrow.Author.Rules.{rules}
use Rattle.listed.proofs.typing.prepare_typing.Goals as goal

pub slice_bounds-given-end : goal.slice_bounds-given-end
slice_bounds-given-end c =
    let input = c.args.input.now in
    sym (length-take-le _ input (omega (arith, c.min-at.ensures)))

pub put-requires : goal.put-requires
put-requires c =
    let input = c.args.input.now in
    omega (arith, length-take c.min-at.result input, c.min-at.ensures)

pub returns : goal.returns
returns c =
    let a = c.args in
    let input = a.input.now in
    let at = c.min-at.ensures in
    let long : length a.wires.now ≡ wires_bytes = search rules in
    let front = front_within input set_bytes _ at in
    let held = held_padded (set_in input) _ (rw front at c.put.ensures) in
    rw c.from-known.ensures (types a.n a.marks a.degree _ _ _ _ _ long (rw (rest_within input set_bytes _ at, front) at c.wire-reply.ensures) _ held)
