-- `judge_lines` meets its contract: the loop's invariant is `Going`. Assumes nothing.
use Rattle.desktop.specs.Lines.{Judging}
use Rattle.desktop.proofs.lines.Going.{Going}
use Rattle.desktop.proofs.lines.judge_lines.Given as goal

abbrev pub invariant-loop-x : goal.invariant-loop-x
invariant-loop-x l = (j : Judging l.known l.v l.text) → Going l.known l.s.terms.now l.v l.text j l.g l.t l.totals l.line l.x-index
