-- `stays_below` meets its contract: the quotients that occur once, twice, and so on are added up (`Summing`). Assumes nothing.
use native.Mathlib.Omega.{arith}
use Rattle.counting.proofs.counting.Sums.{summing_start, summing_enough, summing_none, summing_next}
use Rattle.counting.proofs.counting.stays_below.Goals as goal

pub loop-often-init : goal.loop-often-init
loop-often-init c = summing_start _ _ _ _ _

pub returns-then-left-many : goal.returns-then-left-many
returns-then-left-many c = summing_enough _ _ _ _ c.loop-often.invariant _ c.frequent-many.ensures (omega arith)

pub returns-then-many-lt1 : goal.returns-then-many-lt1
returns-then-many-lt1 c =
    let roomy = c.requires.roomy in
    summing_none _ _ _ _ c.loop-often.invariant _ c.frequent-many.ensures (omega arith) (omega arith) roomy

pub loop-often-preserved : goal.loop-often-preserved
loop-often-preserved c =
    let k = c.loop-often in
    summing_next _ _ _ _ k.invariant _ c.frequent-many.ensures (omega arith) (omega arith)
