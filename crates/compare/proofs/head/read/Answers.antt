-- `read` meets its contract: field by field. Assumes nothing.
use Rattle.std.proofs.Common.{◌≡◌, Some, None, ◌∙◌, ap, sym}
use Rattle.std.specs.Prelude.{option_map}
use Rattle.std.specs.Result.{result_ok}
use Rattle.compare.specs.Head.{head_with}
use Rattle.compare.proofs.head.Laws.{two_read, four_read, eight_read, known_read}
use Rattle.compare.proofs.head.read.Goals as goal

pub returns-in_err-ok : goal.returns-in_err-ok
returns-in_err-ok c =
    let b = c.args.b.now in
    let none : result_ok c.try_from.result ≡ None = sym c.ok.ensures.value ∙ c.in_err-ok.was in
    c.from_residual.ensures ∙ ap (option_map (head_with b)) (sym none)
    ∙ known_read b _ _ c.try_from.ensures (c.from_le_bytes.ensures ∙ two_read b 0 c.bytes_at.ensures)

pub returns : goal.returns
unfolding head_with
returns c =
    let b = c.args.b.now in
    let some : result_ok c.try_from.result ≡ Some c.in_ok-ok.field-0 = sym c.ok.ensures.value ∙ c.in_ok-ok.was in
    rw (
      c.from.ensures ∙ c.from_le_bytes-2.ensures ∙ two_read b 2 c.bytes_at-2.ensures,
      c.from_le_bytes-3.ensures ∙ four_read b 4 c.bytes_at-3.ensures,
      c.from_le_bytes-4.ensures ∙ eight_read b 8 c.bytes_at-4.ensures,
      c.from_le_bytes-5.ensures ∙ eight_read b 16 c.bytes_at-5.ensures,
      c.from_le_bytes-6.ensures ∙ eight_read b 24 c.bytes_at-6.ensures,
      c.from_le_bytes-7.ensures ∙ eight_read b 32 c.bytes_at-7.ensures,
      c.from_le_bytes-8.ensures ∙ eight_read b 40 c.bytes_at-8.ensures,
      c.from_le_bytes-9.ensures ∙ eight_read b 48 c.bytes_at-9.ensures,
    )
    (ap (option_map (head_with b)) (sym some) ∙ known_read b _ _ c.try_from.ensures (c.from_le_bytes.ensures ∙ two_read b 0 c.bytes_at.ensures))
