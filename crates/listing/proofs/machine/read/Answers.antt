-- `read` meets its contract: the loop's invariant is `Running`, with what holds of the state. Assumes nothing.
use mathlib.Core.Path.{sym, ap, ◌∙◌}
use mathlib.Core.Bool.{true, false}
use native.Mathlib.Omega.{arith}
use Rattle.reader.proofs.Loop.{running_start, running_next}
use Rattle.reader.proofs.Exact.{said_dead, said_end}
use Rattle.listing.proofs.Keeps.{keeps, starts}
use Rattle.listing.proofs.Places.{lively}
use Rattle.listing.specs.Readable.{alive, listing}
use Rattle.listing.proofs.machine.read.Goals as goal

pub loop-i-init : goal.loop-i-init
loop-i-init c = rw c.begin-g.ensures (starts _, running_start (listing _) _)

pub eat_byte-g-requires : goal.eat_byte-g-requires
eat_byte-g-requires c = record { fair = c.requires; stands = c.loop-i.invariant.0 }

pub returns-then-not-alive : goal.returns-then-not-alive
returns-then-not-alive c =
    let k = c.loop-i in
    said_dead (listing _) k.invariant.1 (lively _ c.requires) (omega arith) (sym (ap alive c.eat_byte-g.ensures) ∙ sym c.alive.ensures ∙ c.if-not-alive.true)

pub loop-i-preserved : goal.loop-i-preserved
loop-i-preserved c =
    let k = c.loop-i in
    rw c.eat_byte-g.ensures (keeps _ _ _ k.invariant.0, running_next (listing _) k.invariant.1 (omega arith) (sym (ap alive c.eat_byte-g.ensures) ∙ sym c.alive.ensures ∙ c.if-not-alive.false))

pub returns-then-ends : goal.returns-then-ends
returns-then-ends c = said_end (listing _) c.loop-i.invariant.1 true (omega arith) (sym c.ends.ensures ∙ c.if-ends.true)

pub returns : goal.returns
returns c = said_end (listing _) c.loop-i.invariant.1 false (omega arith) (sym c.ends.ensures ∙ c.if-ends.false)
