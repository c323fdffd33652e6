-- `prepare_reading` meets its contract: the input is cut where the text begins, and read. Assumes nothing.
use mathlib.Core.Path.{sym}
use native.Mathlib.Omega.{arith}
use lib.Seq.{length-take-le}
use Rattle.lines.proofs.Cut.{front_within, rest_within}
use Rattle.listed.proofs.reading.prepare_reading.Goals as goal

pub slice_bounds-terms-end : goal.slice_bounds-terms-end
slice_bounds-terms-end c =
    let input = c.args.input.now in
    sym (length-take-le _ input (omega (arith, c.min-at.ensures)))

pub returns : goal.returns
returns c =
    let a = c.args in
    let at = c.min-at.ensures in
    rw (rest_within a.input.now a.bytes _ at, front_within a.input.now a.bytes _ at) at c.read_listing.ensures
