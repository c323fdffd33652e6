-- `read_set` meets its contract: a record that keeps its rule gives its set. Assumes nothing.
use mathlib.Core.Path.{◌∙◌}
use borrow.Author.Rules.{rules}
use Rattle.std.proofs.lemmas.Option.{IfSome_then}
use Rattle.wiring.proofs.sets.Laws.{holds_set}
use Rattle.wiring.proofs.sets.read_set.Goals as goal

pub returns : goal.returns
returns c =
    let size = c.size_of-len.ensures in
    record { right = c.then.ensures.variant ∙ c.keeps_rule.ensures; set = IfSome_then _ c.then.ensures.some (λ x p. holds_set _ _ size.size size.few x (search rules) (search rules)) }
