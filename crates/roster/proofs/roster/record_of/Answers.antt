-- `record_of` meets its contract: the loop writes the monomials one behind the other (`Making`). Assumes nothing.
use mathlib.Core.Path.{◌≡◌, sym, subst}
use mathlib.Core.List.{[]}
use Prim.Native.Nat.{◌+◌, ◌≤◌}
use native.Mathlib.Omega.{arith}
use lib.ListN.{length}
use Rattle.wiring.specs.Panel.{cards}
use Rattle.wiring.specs.Sets.{monomials_of}
use Rattle.wiring.proofs.signals.Arrays.{array_length, front_length, front_at}
use Rattle.roster.proofs.roster.Writing.{Making, making_start, making_next}
use borrow.Author.Rules.{rules}
use Rattle.roster.proofs.roster.record_of.Goals as goal

pub loop-i-init : goal.loop-i-init
loop-i-init c = making_start _

pub loop-i-preserved : goal.loop-i-preserved
loop-i-preserved c =
    let s = c.args.set in
    let k = c.loop-i in
    let six : length s.m ≡ cards = search (rules, array_length) in
    let few : s.len ≤ length s.m = omega (arith, s.few) in
    let long = front_length s.len s.m few in
    let is = sym (front_at s.len s.m k.i [] (omega arith) few) in
    let next = making_next (monomials_of s) (omega (arith, s.few)) c.requires k.invariant _ (omega arith) is in
    subst (λ b. Making (monomials_of s) b (k.i + 1)) (sym c.write.ensures) next
