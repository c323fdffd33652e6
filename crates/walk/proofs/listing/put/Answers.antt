-- `put` meets its contract: the loop pastes the bytes of the record over the buffer (`Pasting`). Assumes nothing.
use mathlib.Core.Path.{sym, ◌∙◌}
use native.Mathlib.Omega.{arith}
use Rattle.monomial.proofs.Loops.{pasting_start, pasting_length, pasting_room, pasting_next, pasting_end}
use Rattle.wiring.specs.Panel.{set_bytes}
use Rattle.walk.proofs.listing.Records.{record-at, record_long}
use Rattle.walk.proofs.listing.put.Goals as goal

pub loop-i-init : goal.loop-i-init
loop-i-init c = pasting_start 0 set_bytes _ _ _ (record_long _ c.requires.lies) c.requires.room

pub bounds-out-at : goal.bounds-out-at
bounds-out-at c = pasting_room 0 c.loop-i.invariant (omega arith)

pub loop-i-preserved : goal.loop-i-preserved
loop-i-preserved c =
    let own = c.byte_at.ensures ∙ sym (record-at c.args.set.now c.requires.lies c.loop-i.i) in
    rw own (pasting_next 0 c.loop-i.invariant (omega arith))

pub shape_of-out : goal.shape_of-out
shape_of-out c = pasting_length 0 c.loop-i.invariant

pub returns : goal.returns
returns c = pasting_end 0 c.loop-i.invariant (omega arith)
