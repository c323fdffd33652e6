-- `keep` meets its contract: a listed set leaves the buffer as it was, and so does one without room; another is put in its place. Assumes nothing.
use Prim.Native.Nat.{◌/◌}
use native.Mathlib.Omega.{arith}
use mathlib.Core.Path.{◌∙◌}
use lib.ListN.{length}
use Rattle.wiring.specs.Panel.{set_bytes}
use Rattle.wiring.specs.Signals.{tabled}
use Rattle.walk.proofs.listing.Finds.{shown_more, keeps_old, keeps_none, keeps_new}
use Rattle.walk.proofs.listing.keep.Goals as goal

pub returns-in_default : goal.returns-in_default
returns-in_default c =
    λ finds taken s.
    let a = c.args in
    keeps_old s (tabled a.set.now) taken (length a.out.now / set_bytes) (c.in_default.ensures.sought finds s)

pub returns-then-out-count : goal.returns-then-out-count
returns-then-out-count c =
    λ finds taken s.
    let a = c.args in
    keeps_none s (tabled a.set.now) taken (length a.out.now / set_bytes) (c.in-Some.ensures.sought finds s).0 c.if-out-count.true

pub returns : goal.returns
returns c =
    λ finds taken s.
    let a = c.args in
    let x = tabled a.set.now in
    let own = c.requires.lies.recorded in
    let sought = c.in-Some.ensures.sought finds s in
    let move = c.copy_within.ensures in
    let write = c.put in
    let room = c.if-out-count.false in
    let more = shown_more s x own sought.0 (omega arith) c.in-Some.place _ _ c.in-Some.ensures.within sought.1 move.after write.ensures (write.auto.out ∙ move.len) in
    keeps_new s x taken (length a.out.now / set_bytes) sought.0 (omega arith) _ more
