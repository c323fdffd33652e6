-- `add` meets its contract: one cell changes, by the term's coefficient (`summed_next`). Assumes nothing.
use mathlib.Core.Path.{◌≡◌, ap, ◌∙◌}
use native.Mathlib.Omega.{arith}
use borrow.Author.Rules.{rules}
use lib.IntN.{ℤ, ◌+ℤ◌}
use lib.ListN.{length, set}
use Rattle.wiring.specs.Panel.{most_signals}
use Rattle.wiring.specs.Signals.{signals_of}
use Rattle.wiring.proofs.signals.Arrays.{array_length}
use Rattle.truth.specs.Sums.{pair_cells, cell, held}
use Rattle.truth.proofs.truth.Cells.{summed_next}
use Rattle.truth.proofs.truth.Machine.{signed_small, sum_fits, sum_is}
use Rattle.truth.proofs.truth.Places.{long, within, product_fits, product_is, product_met}
use Rattle.truth.proofs.truth.add.Goals as goal

pub times-requires : goal.times-requires
times-requires c =
    let v = c.args.v in
    let room : length v.m ≡ most_signals = search (rules, array_length) in
    product_fits v room c.requires.fits c.args.a c.args.b c.requires.first c.requires.second

pub cell_of-at-requires : goal.cell_of-at-requires
cell_of-at-requires c =
    let v = c.args.v in
    let room : length v.m ≡ most_signals = search (rules, array_length) in
    record { fits = c.requires.fits; met = product_met v room c.requires.fits c.args.a c.args.b c.requires.first c.requires.second _ c.times.ensures }

pub overflow_add-sums : goal.overflow_add-sums
overflow_add-sums c =
    let at = c.cell_of-at.result in
    let q = c.coefficient_of in
    sum_fits (held c.args.sums.now at) q.result (c.requires.bounded at) (rw q.ensures (signed_small _ _ c.requires.limited))

pub returns : goal.returns
returns c =
    let v = c.args.v in
    let at = c.cell_of-at.result in
    let q = c.coefficient_of in
    let old = held c.args.sums.now at in
    let room : length v.m ≡ most_signals = search (rules, array_length) in
    let cells : length c.args.sums.now.cells ≡ pair_cells = search rules in
    let wide = c.requires.fits in
    let ha = c.requires.first in
    let hb = c.requires.second in
    let number = signed_small c.args.negative c.args.number c.requires.limited in
    let product = product_is v room wide c.args.a c.args.b ha hb _ c.times.ensures in
    let cell_is = c.cell_of-at.ensures.value ∙ ap (cell (signals_of v)) product in
    let sum = sum_is old q.result (c.requires.bounded at) (rw q.ensures (signed_small _ _ c.requires.limited)) ∙ ap (λ (x : ℤ). old +ℤ x) q.ensures in
    λ line h. summed_next (signals_of v) (omega (arith, long v room wide)) line _ (within v room wide c.args.a ha) (within v room wide c.args.b hb)
    c.args.sums.now _ at cell_is (omega (arith, cells, c.cell_of-at.ensures.inside)) (ap (set c.args.sums.now.cells at) sum) number h
