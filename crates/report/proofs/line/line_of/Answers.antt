-- `line_of` meets its contract: only what planning was lent is shown. Assumes nothing.
use Rattle.std.proofs.Common.{sym, arith, length-take-le}
use Rattle.lines.proofs.Cut.{front_within}
use Rattle.report.proofs.line.line_of.Goals as goal

pub slice_bounds-line_in-end : goal.slice_bounds-line_in-end
slice_bounds-line_in-end c =
    let sets = c.args.sets.now in
    sym (length-take-le _ sets (omega (arith, c.min-lent.ensures)))

pub returns-clause-text : goal.returns-clause-text
returns-clause-text c =
    rw (front_within c.args.sets.now c.args.p.lent _ c.min-lent.ensures) at c.line_in.ensures.text

pub returns-clause-there : goal.returns-clause-there
returns-clause-there c =
    rw (front_within c.args.sets.now c.args.p.lent _ c.min-lent.ensures) at c.line_in.ensures.there
