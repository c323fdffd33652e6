-- `wire_row` meets its contract: the monomials up to the last one have their records, and each of them is in V2 (`Rowing`); without room those
-- behind it are judged. Assumes nothing.
use mathlib.Core.Path.{◌≡◌, refl, sym, ◌∙◌}
use mathlib.Core.List.{[]}
use native.Mathlib.Omega.{arith}
use borrow.Author.Rules.{rules}
use lib.ListN.{length}
use Rattle.monomial.proofs.Counting.{at_in}
use Rattle.wiring.specs.Panel.{set_exponent, most_signals}
use Rattle.wiring.specs.Signals.{signals_of}
use Rattle.wiring.proofs.derivative.Bounds.{total_held}
use Rattle.wiring.proofs.signals.Arrays.{array_length, front_length, front_at, entry_fits}
use Rattle.wiring.proofs.wires.Sheets.{rowing_start, rowing_lacks, rowing_judged, rowing_ends, rowing_unmet, rowing_more, rowing_less, wire_is}
use Rattle.wiring.proofs.system.System.wire_row.Goals as goal

pub loop-w-init : goal.loop-w-init
loop-w-init c =
    let v = c.args.v in
    let room : length v.m ≡ most_signals = search (rules, array_length) in
    (sym (front_at v.len v.m c.args.left [] (omega arith) (omega arith)), rowing_start _ _ _ _ _)

pub lacks_pair-requires-clause-small : goal.lacks_pair-requires-clause-small
lacks_pair-requires-clause-small c =
    let v = c.args.v in
    let room : length v.m ≡ most_signals = search (rules, array_length) in
    entry_fits set_exponent v.len v.m c.args.left (omega arith) (omega arith) c.requires.fits

pub returns-then-lacks_pair : goal.returns-then-lacks_pair
returns-then-lacks_pair c =
    let k = c.loop-w in
    let r = rw c.in_default.is at k.invariant.1 in
    let lacks = rowing_lacks _ _ _ r (sym c.lacks_pair.ensures ∙ c.if-lacks_pair.true) in
    λ done h. (rw (sym k.invariant.0) lacks, refl)

pub returns : goal.returns
returns c =
    let k = c.loop-w in
    let r = rw c.in_default.is at k.invariant.1 in
    let judged = rowing_judged _ _ _ r (sym c.lacks_pair.ensures ∙ c.if-lacks_pair.false) in
    λ done h. rw (sym k.invariant.0) (judged done h)

pub next_part-requires : goal.next_part-requires
next_part-requires c =
    let v = c.args.v in
    let room : length v.m ≡ most_signals = search (rules, array_length) in
    entry_fits set_exponent v.len v.m c.args.left (omega arith) (omega arith) c.requires.fits

pub returns-in_default-next_part : goal.returns-in_default-next_part
returns-in_default-next_part c =
    let k = c.loop-w in
    let r = rw c.in-Some.is at k.invariant.1 in
    λ done h. rw (sym k.invariant.0) (rowing_ends _ _ _ r c.in_default-next_part.ensures.heads done h)

pub returns-in_default-pair_of : goal.returns-in_default-pair_of
returns-in_default-pair_of c =
    let k = c.loop-w in
    let part = c.in-Some-next_part in
    let none = rowing_unmet _ _ _ k.invariant.1 part.part.m part.ensures.heads (sym c.in_default-pair_of.ensures.told) in
    λ done h. (rw (sym k.invariant.0) none, refl)

pub loop-w-smaller : goal.loop-w-smaller
loop-w-smaller c =
    let part = c.in-Some-next_part in
    rowing_less _ _ _ c.loop-w.invariant.1 part.part.m part.ensures.heads

pub loop-w-preserved : goal.loop-w-preserved
loop-w-preserved c =
    let v = c.args.v in
    let room : length v.m ≡ most_signals = search (rules, array_length) in
    let k = c.loop-w in
    let part = c.in-Some-next_part in
    let m = part.part.m.e in
    let pair = c.in-Some-pair_of.ensures in
    let fits = c.requires.fits _ (at_in (signals_of v) c.args.left [] (omega (arith, front_length v.len v.m (omega arith)))) in
    let total = total_held c.args.self.terms.now c.args.self.clean _ m (rw k.invariant.0 fits.0) (rw k.invariant.0 fits.1) _ part.ensures.total_value in
    let wire = wire_is (signals_of v) c.args.left _ m _ _ _ pair.pair.first pair.pair.second total in
    let entered = c.enter-w in
    let more = rowing_more _ _ _ k.invariant.1 part.part.m part.ensures.heads in
    (k.invariant.0, more entered.result entered.new.out _ (sym pair.told) wire entered.auto.out (λ done h. entered.ensures done (rw c.in-Some.is at h)))
