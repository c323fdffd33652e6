-- `wire_rows` meets its contract: the first signals are met and their rows written, and the others make the list whole (`Listing`).
-- Assumes nothing.
use mathlib.Core.Path.{◌≡◌, refl, ◌∙◌}
use Prim.Native.Nat.{◌<◌, ◌≤◌}
use native.Mathlib.Omega.{arith}
use borrow.Author.Rules.{rules}
use lib.ListN.{length}
use Rattle.std.proofs.lemmas.Result.{err_from_is_err_and}
use Rattle.wiring.specs.Panel.{most_signals}
use Rattle.wiring.specs.Poly.{plain}
use Rattle.wiring.specs.Derivative.{derivative}
use Rattle.wiring.specs.Signals.{signals_of}
use Rattle.wiring.specs.Terms.{records, system}
use Rattle.wiring.proofs.signals.Arrays.{array_length, front_length}
use Rattle.wiring.proofs.wires.Sheets.{listing_start, listing_more, listing_unmet, listing_ends}
use Rattle.wiring.proofs.system.System.wire_rows.Goals as goal

pub loop-left-init : goal.loop-left-init
loop-left-init c =
    (refl, listing_start (signals_of c.args.v) _ _ c.args.out.now c.requires.blank)

pub loop-left-preserved : goal.loop-left-preserved
loop-left-preserved c =
    let v = c.args.v in
    let room : length v.m ≡ most_signals = search (rules, array_length) in
    let k = c.loop-left in
    let d = derivative plain (system (records c.args.self.terms.now)) in
    let w = c.wire_row in
    let l = k.invariant.1 in
    let few : k.left < length (signals_of v) = omega (arith, front_length v.len v.m (omega arith)) in
    let row = rw c.in_ok-w.was at (w.ensures l.done l.wrote) in
    (w.auto.out ∙ k.invariant.0, listing_more (signals_of v) d l few _ w.new.out row)

pub returns-in_err-w : goal.returns-in_err-w
returns-in_err-w c =
    let v = c.args.v in
    let room : length v.m ≡ most_signals = search (rules, array_length) in
    let k = c.loop-left in
    let d = derivative plain (system (records c.args.self.terms.now)) in
    let w = c.wire_row in
    let l = k.invariant.1 in
    let few : k.left < length (signals_of v) = omega (arith, front_length v.len v.m (omega arith)) in
    let row = rw c.in_err-w.was at (w.ensures l.done l.wrote) in
    let p = err_from_is_err_and c.from_residual.result c.from_residual.ensures.1 in
    rw (p.1, p.2) (listing_unmet (signals_of v) d l few _ w.new.out row)

pub returns : goal.returns
returns c =
    let v = c.args.v in
    let room : length v.m ≡ most_signals = search (rules, array_length) in
    let k = c.loop-left in
    let all : length (signals_of v) ≤ k.left = omega (arith, front_length v.len v.m (omega arith)) in
    listing_ends (signals_of v) _ k.invariant.1 all
