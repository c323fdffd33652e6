-- `thin_set` meets its contract: when all subsets are sifted, the list has room or it has not. Assumes nothing.
use mathlib.Core.Path.{◌≡◌}
use lib.ListN.{length}
use Rattle.wiring.specs.Panel.{cards}
use Rattle.wiring.proofs.signals.Arrays.{array_length}
use Rattle.thin.proofs.thin.Laws.{start_deciding, start_bounded, ended_done, ended_full}
use borrow.Author.Rules.{rules}
use Rattle.thin.proofs.thin.thin_set.Goals as goal

pub decide-best-requires : goal.decide-best-requires
decide-best-requires c =
    let full : length c.args.set.m ≡ cards = search (rules, array_length) in
    let a = c.args in
    (start_deciding a.n a.terms.now a.set a.out.now c.requires.0 c.requires.1 full _, start_bounded a.n a.terms.now a.set a.out.now c.requires.0 c.requires.1 full)

pub returns-then-out-best : goal.returns-then-out-best
returns-then-out-best c =
    let full : length c.args.set.m ≡ cards = search (rules, array_length) in
    let a = c.args in
    let sifted = c.decide-best in
    ended_full a.n a.terms.now a.set a.out.now c.requires.0 c.requires.1 full sifted.result sifted.new.out sifted.ensures sifted.auto.out
    c.if-out-best.true c.clear.new.out c.clear.ensures

pub returns : goal.returns
returns c =
    let full : length c.args.set.m ≡ cards = search (rules, array_length) in
    let a = c.args in
    let sifted = c.decide-best in
    ended_done a.n a.terms.now a.set a.out.now c.requires.0 c.requires.1 full sifted.result sifted.new.out sifted.ensures sifted.auto.out
    c.if-out-best.false
