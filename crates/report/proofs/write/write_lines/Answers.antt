-- `write_lines` ends: each line that is told is one of the report. Assumes nothing.
use Rattle.std.proofs.Common.{arith, rules, of_calls}
use borrow.Author.Rules.{in_lives}
use Rattle.lines.proofs.write.Laws.{ends_at}
use Rattle.report.proofs.line.Exact.{lines_few}
use Rattle.report.proofs.write.write_lines.Goals as goal

pub write_lines-requires : goal.write_lines-requires
write_lines-requires c =
    let few = lines_few c.args.p c.args.sets.now c.args.wires.now in
    λ k within. (
      search rules,
      (simp (in_lives, within.0, within.1.0, within.1.1.0) (search rules), (search of_calls, ends_at _ _ _ (omega (arith, few)) (λ a r f' told. search rules))),
    )
