-- `sift` meets its contract: the tests of the code are those of the tally. Assumes nothing.
use mathlib.Core.List.{[]}
use mathlib.Core.Path.{◌≡◌, refl, sym, ap, ◌∙◌}
use native.Mathlib.Omega.{arith}
use Prim.Native.Nat.{ℕ}
use lib.ListN.{length, replicate}
use Rattle.wiring.specs.Panel.{cards}
use Rattle.wiring.specs.Sets.{monomials_of}
use Rattle.wiring.proofs.signals.Arrays.{array_length}
use Rattle.thin.proofs.subsets.Listing.{begun_none}
use Rattle.thin.proofs.subsets.Sifting.{set_size, sifted_not, sifted_larger, sifting_passed, sifting_smaller, sifting_alike}
use borrow.Author.Rules.{rules}
use Rattle.thin.proofs.subsets.sift.Goals as goal

pub returns-then-not-is_quadratic : goal.returns-then-not-is_quadratic
returns-then-not-is_quadratic c =
    let a = c.args in
    let no = sym c.is_quadratic.ensures ∙ c.if-not-is_quadratic.true in
    sifting_passed a.n a.terms.now (monomials_of a.set) a.best a.out.now c.requires.1.counted (λ t h. sifted_not _ _ t _ no)

pub returns-then-order-size : goal.returns-then-order-size
returns-then-order-size c =
    let full : length c.args.set.m ≡ cards = search (rules, array_length) in
    let a = c.args in
    let size = set_size a.n a.terms.now a.set c.requires.0 full in
    let yes = sym c.is_quadratic.ensures ∙ c.if-not-is_quadratic.false in
    sifting_passed a.n a.terms.now (monomials_of a.set) a.best a.out.now c.requires.1.counted
    (λ t h. sifted_larger _ _ t _ yes (omega (arith, c.if-order-size.true, size, h.order)))

pub returns-then-size-order : goal.returns-then-size-order
returns-then-size-order c =
    let full : length c.args.set.m ≡ cards = search (rules, array_length) in
    let a = c.args in
    let size = set_size a.n a.terms.now a.set c.requires.0 full in
    let yes = sym c.is_quadratic.ensures ∙ c.if-not-is_quadratic.false in
    let blank = begun_none c.clear.new.out (c.clear.ensures ∙ ap (λ (k : ℕ). replicate k 0) (sym c.clear.auto.out)) in
    sifting_smaller a.n a.terms.now (monomials_of a.set) a.best a.out.now c.requires.1.counted yes a.set.len size c.if-size-order.true
    c.join.new.out (c.join.ensures [] refl blank)

pub returns : goal.returns
returns c =
    let full : length c.args.set.m ≡ cards = search (rules, array_length) in
    let a = c.args in
    let size = set_size a.n a.terms.now a.set c.requires.0 full in
    let yes = sym c.is_quadratic.ensures ∙ c.if-not-is_quadratic.false in
    let alike : a.set.len ≡ a.best.order = omega (arith, c.if-order-size.false, c.if-size-order.false) in
    sifting_alike a.n a.terms.now (monomials_of a.set) a.best a.out.now c.requires.1.counted yes a.set.len size alike
    c.join-2.new.out c.join-2.ensures
