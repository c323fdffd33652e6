-- `write_reading` ends: each line that is told is one of two. Assumes nothing.
use Rattle.std.proofs.Common.{arith, rules, of_calls}
use borrow.Author.Rules.{in_lives}
use Rattle.wiring.specs.Reply.{outcome}
use Rattle.lines.proofs.write.Laws.{ends_at}
use Rattle.listed.proofs.reading.Exact.{heard_few}
use Rattle.listed.proofs.write_reading.Goals as goal

pub write_lines-requires : goal.write_lines-requires
write_lines-requires c =
    let few = heard_few (outcome c.args.h.reply c.args.h.set) in
    λ k within. (
      search rules,
      (simp (in_lives, within.0, within.1.0) (search rules), (search of_calls, ends_at _ _ _ (omega (arith, few)) (λ a r f' told. search rules))),
    )
