-- `write_typing` ends: each line that is told is one of few. Assumes nothing.
use Rattle.std.proofs.Common.{arith, rules, of_calls}
use borrow.Author.Rules.{in_lives}
use Rattle.lines.proofs.write.Laws.{ends_at}
use Rattle.listed.proofs.typing.Exact.{typed_few}
use Rattle.listed.proofs.write_typing.Goals as goal

pub write_lines-requires : goal.write_lines-requires
write_lines-requires c =
    let few = typed_few c.args.t c.args.wires.now c.requires in
    λ k within. (
      search rules,
      (simp (in_lives, within.0, within.1.0) (search rules), (search of_calls, ends_at _ _ _ (omega (arith, few)) (λ a r f' told. search rules))),
    )
