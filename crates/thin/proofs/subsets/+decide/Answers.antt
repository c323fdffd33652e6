-- `decide` meets its contract, by its own at a smaller measure: the number of undecided signals. Assumes nothing.
use mathlib.Core.Path.{◌≡◌, sym, subst}
use native.Mathlib.Omega.{arith}
use lib.ListN.{length}
use Rattle.wiring.specs.Panel.{cards}
use Rattle.wiring.proofs.signals.Arrays.{array_length}
use Rattle.walk.specs.Walk.{Finds}
use Rattle.thin.specs.Subsets.{Sifting, Bounded}
use Rattle.thin.proofs.subsets.Deciding.{decided, keeping, dropping, bounded_first, bounded_then, sifting_both}
use Prim.Native.Nat.{◌+◌, ◌-◌, ◌<◌}
use borrow.Author.Rules.{rules}
use Rattle.thin.proofs.subsets.+decide.Goals as goal

pub sift-requires : goal.sift-requires
sift-requires t c =
    let a = c.args in
    let full : length a.given.m ≡ cards = search (rules, array_length) in
    let d = c.requires.0 in
    let one = decided a.n a.terms.now a.given a.at a.kept d full c.if-given-at.true in
    (d.part, subst (λ (l : Finds). Bounded a.best (length l)) one c.requires.1)

pub returns-then-given-at : goal.returns-then-given-at
returns-then-given-at t c =
    let a = c.args in
    let full : length a.given.m ≡ cards = search (rules, array_length) in
    let one = decided a.n a.terms.now a.given a.at a.kept c.requires.0 full c.if-given-at.true in
    subst (λ (l : Finds). Sifting a.n a.terms.now l a.best a.out.now c.sift.result c.sift.new.out) (sym one) c.sift.ensures

pub decide-with-requires : goal.decide-with-requires
decide-with-requires t c =
    let a = c.args in
    let full : length a.given.m ≡ cards = search (rules, array_length) in
    let d = c.requires.0 in
    let below = c.if-given-at.false in
    let more = c.with_last in
    let step : a.given.len - (a.at + 1) < t = omega (arith, c.decreases, below) in
    let next = keeping a.n a.terms.now a.given a.at a.kept d full below more.result more.ensures.0 more.ensures.1 in
    let first = bounded_first a.n a.terms.now a.given a.at a.kept d full below more.result more.ensures.0 more.ensures.1 a.best c.requires.1 in
    (step, (next, first))

pub decide-requires : goal.decide-requires
decide-requires t c =
    let a = c.args in
    let full : length a.given.m ≡ cards = search (rules, array_length) in
    let d = c.requires.0 in
    let sifted = c.decide-with in
    let more = c.with_last in
    let below = c.if-given-at.false in
    let step : a.given.len - (a.at + 1) < t = omega (arith, c.decreases, below) in
    let next = dropping a.n a.terms.now a.given a.at a.kept d full below more.result more.ensures.0 more.ensures.1 in
    let then = bounded_then a.n a.terms.now a.given a.at a.kept d full below more.result more.ensures.0 more.ensures.1 a.best c.requires.1
    a.out.now sifted.result sifted.new.out sifted.ensures in
    (step, (next, then))

pub returns : goal.returns
returns t c =
    let a = c.args in
    let full : length a.given.m ≡ cards = search (rules, array_length) in
    let d = c.requires.0 in
    let last = c.decide in
    let sifted = c.decide-with in
    let more = c.with_last in
    let below = c.if-given-at.false in
    sifting_both a.n a.terms.now a.given a.at a.kept d full below more.result more.ensures.0 more.ensures.1 a.best c.requires.1
    a.out.now sifted.result sifted.new.out sifted.ensures last.result last.new.out last.ensures
