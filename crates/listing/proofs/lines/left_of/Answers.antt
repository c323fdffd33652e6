-- `left_of` meets its contract: the loop's invariant is `Counting`. Assumes nothing.
use native.Mathlib.Omega.{arith}
use Rattle.listing.proofs.lines.Laws.{counting_start, counting_here, counting_next, counting_skip, counting_new, counting_none, left_told}
use Rattle.listing.proofs.lines.left_of.Goals as goal
use Rattle.listing.proofs.lines.left_of.Goals.{then-marks-eq0+else-more-eq0, else-marks-eq0}

pub loop-i-init : goal.loop-i-init
loop-i-init c = counting_start _ _ _

pub loop-i-preserved : goal.loop-i-preserved
loop-i-preserved c =
    let k = c.loop-i in
    elim c.if-marks-eq0.branch [
      | then-marks-eq0+else-more-eq0 w ↦ rw w.more-is (counting_next k.invariant (omega arith) w.if-marks-eq0.true (omega arith))
      | else-marks-eq0 w ↦ rw w.more-is (counting_skip k.invariant (omega arith) w.if-marks-eq0.false)
    ]

pub returns-then-more-eq0 : goal.returns-then-more-eq0
returns-then-more-eq0 c =
    let told = counting_here c.loop-i.invariant (omega arith) c.if-marks-eq0.true c.if-more-eq0.true in
    record { told = told; number = left_told _ _ _ _ told; within = (omega arith, omega arith) }

pub returns-then-more-names : goal.returns-then-more-names
returns-then-more-names c =
    let told = counting_new c.loop-i.invariant (omega arith) (omega arith) in
    record { told = told; number = left_told _ _ _ _ told; within = (omega arith, omega arith) }

pub returns-else-more-names : goal.returns-else-more-names
returns-else-more-names c =
    let told = counting_none c.loop-i.invariant (omega arith) (omega arith) in
    record { told = told; number = left_told _ _ _ _ told; within = tt }
