-- `wire_line` meets its contract: three numbers, the coefficient behind them, the line's end. Assumes nothing.
use Rattle.std.proofs.Common.{ℕ, List, [], ◌∷◌, map, ap, ◌∙◌, append_assoc, arith, w32}
use mir.ValLaws.{to_z-of_z}
use borrow.Author.Rules.{sfits_of}
use Rattle.lines.specs.Text.{space, decimal, joined}
use Rattle.lines.specs.Answer.{line_of, wire_line}
use Rattle.lines.proofs.answer.Laws.{entries, fourth}
use Rattle.lines.proofs.answer.wire_line.Goals as goal

pub returns : goal.returns
unfolding wire_line
returns c =
    let said = rw (to_z-of_z w32 c.decode.result (sfits_of c.decode.type_inv), c.decode.ensures) at c.put_signed.ensures.text in
    let numbers = rw (c.from.ensures, c.from-2.ensures, c.from-3.ensures) at c.put_joined.ensures.text in
    let numbers_text : List ℕ = joined space (map decimal (entries 3 0 c.args.bytes.now)) in
    rw (c.put_text-2.ensures, said, c.put_text.ensures, numbers, c.clear.ensures) (ap line_of (append_assoc numbers_text (space ∷ []) _ ∙ fourth c.args.bytes.now _ (omega arith)))
