-- `terms::fault_of` meets its contract: the loop judges the records one by one (`Judging`). Assumes nothing.
use mathlib.Core.Path.{sym, ◌∙◌}
use Rattle.wiring.proofs.terms.Laws.{judging_start, judging_ends, records_wrong, records_repeated, records_on, records_length}
use Rattle.wiring.proofs.terms.fault_of.Goals as goal

pub loop-t-init : goal.loop-t-init
loop-t-init c = judging_start _ _

pub returns-then-not-term_right : goal.returns-then-not-term_right
returns-then-not-term_right c =
    records_wrong _ c.loop-t.invariant c.loop-t-test.true (sym c.term_right.ensures ∙ c.if-not-term_right.true)

pub returns-then-repeats : goal.returns-then-repeats
returns-then-repeats c =
    let right = sym c.term_right.ensures ∙ c.if-not-term_right.false in
    records_repeated _ c.loop-t.invariant c.loop-t-test.true right (sym c.repeats.ensures ∙ c.if-repeats.true)

pub loop-t-preserved : goal.loop-t-preserved
loop-t-preserved c =
    let right = sym c.term_right.ensures ∙ c.if-not-term_right.false in
    records_on _ c.loop-t.invariant c.loop-t-test.true right (sym c.repeats.ensures ∙ c.if-repeats.false)

pub returns : goal.returns
returns c = judging_ends c.loop-t.invariant (rw (records_length c.args.terms.now) c.loop-t-test.false)
