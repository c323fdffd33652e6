-- `Monomial::write` meets its contract: the loop pastes the exponents over the slice (`Pasting`). Assumes nothing.
use native.Mathlib.Omega.{arith}
use Rattle.monomial.proofs.Loops.{pasting_start, pasting_length, pasting_room, pasting_next, pasting_end}
use borrow.Author.Rules.{rules}
use Rattle.monomial.specs.Monomial.{width}
use Rattle.monomial.proofs.Monomial.write.Goals as goal

pub loop-i-init : goal.loop-i-init
loop-i-init c = pasting_start 0 width _ _ _ (search rules) (omega arith)

pub bounds-s-at : goal.bounds-s-at
bounds-s-at c = pasting_room 0 c.loop-i.invariant (omega arith)

pub loop-i-preserved : goal.loop-i-preserved
loop-i-preserved c = pasting_next 0 c.loop-i.invariant (omega arith)

pub shape_of-s : goal.shape_of-s
shape_of-s c = pasting_length 0 c.loop-i.invariant

pub returns : goal.returns
returns c = pasting_end 0 c.loop-i.invariant (omega arith)
