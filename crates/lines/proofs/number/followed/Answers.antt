-- `followed` meets its contract: way by way out of its tests. Assumes nothing.
use Rattle.std.proofs.Common.{[], sym, ◌∙◌, arith}
use Rattle.lines.proofs.number.Laws.{longer, from_other, from_digit, from_large, followed_is}
use Rattle.lines.proofs.number.followed.Goals as goal

pub returns-then-not-is_ascii_digit : goal.returns-then-not-is_ascii_digit
returns-then-not-is_ascii_digit c = sym (from_other _ _ [] (sym c.is_ascii_digit.ensures.value ∙ c.if-not-is_ascii_digit.true))

pub returns-in_err-tens : goal.returns-in_err-tens
returns-in_err-tens c =
    let s = c.args in
    let digit = sym c.is_ascii_digit.ensures.value ∙ c.if-not-is_ascii_digit.false in
    c.from_residual.ensures ∙ sym (from_digit s.v s.x [] digit ∙ from_large (longer s.v s.x) [] (omega (arith, c.in_err-tens.ensures)))

pub returns : goal.returns
returns c =
    let s = c.args in
    let digit = sym c.is_ascii_digit.ensures.value ∙ c.if-not-is_ascii_digit.false in
    followed_is _ _ _ digit c.in_ok-tens.ensures.1 _ (rw c.from.ensures at c.checked_add.ensures)
