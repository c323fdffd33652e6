-- `number_of` meets its contract: the loop has the rest of the word before it (`Reading`). Assumes nothing.
use Rattle.std.proofs.Common.{sym, ◌∙◌, arith, rules}
use Rattle.std.proofs.lemmas.Bool.Decides.{nat_tests}
use Rattle.lines.proofs.number.Laws.{reading_start, reading_next, reading_stop, reading_end, empty_none}
use Rattle.lines.proofs.number.number_of.Goals as goal

pub returns-then-is_empty : goal.returns-then-is_empty
returns-then-is_empty c = sym (empty_none _ (grind (arith, nat_tests)))

pub loop-x-init : goal.loop-x-init
loop-x-init c = reading_start _ (grind (arith, nat_tests))

pub returns-in_err-v : goal.returns-in_err-v
returns-in_err-v c = c.from_residual.ensures ∙ sym (reading_stop c.loop-x.invariant c.loop-x-test.true (sym c.followed.ensures ∙ c.in_err-v.was))

pub loop-x-preserved : goal.loop-x-preserved
loop-x-preserved c = reading_next c.loop-x.invariant c.loop-x-test.true _ (search rules) (sym c.followed.ensures ∙ c.in_ok-v.was)

pub returns : goal.returns
returns c = sym (reading_end c.loop-x.invariant (omega arith))
