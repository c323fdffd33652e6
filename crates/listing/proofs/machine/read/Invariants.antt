-- `read` meets its contract: the loop's invariant is `Running`, with what holds of the state. Assumes nothing.
use Rattle.reader.proofs.Loop.{Running}
use Rattle.listing.specs.Held.{Stands}
use Rattle.listing.specs.Readable.{listing}
use Rattle.listing.proofs.machine.read.Given as goal

abbrev pub invariant-loop-i : goal.invariant-loop-i
invariant-loop-i l = Stands l.known l.g × Running (listing l.known) l.text l.g l.i
