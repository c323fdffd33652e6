-- `names_of` meets its contract: the loop's invariant is `Hearing`. Assumes nothing.
use native.Mathlib.Omega.{arith}
use Rattle.desktop.proofs.names.Laws.{empty_holds}
use Rattle.desktop.proofs.names.Hearing.{hearing_start, hearing_ready, hearing_next, hearing_ends}
use Rattle.desktop.proofs.names.names_of.Goals as goal

pub loop-x-init : goal.loop-x-init
loop-x-init c = rw c.begin-g.ensures (hearing_start _ _ _ (empty_holds _))

pub note-k-requires : goal.note-k-requires
note-k-requires c = let k = c.loop-x in rw c.say.ensures (hearing_ready _ _ k.invariant c.requires.six _ (omega arith))

pub loop-x-preserved : goal.loop-x-preserved
loop-x-preserved c = let k = c.loop-x in
    let heard = c.say.ensures in
    rw c.eat_byte-g.ensures (hearing_next _ _ k.invariant c.requires.few (omega arith) _ (λ q h. rw (← heard) (c.note-k.ensures q h)))

pub returns : goal.returns
returns c = hearing_ends _ _ c.loop-x.invariant (omega arith)
