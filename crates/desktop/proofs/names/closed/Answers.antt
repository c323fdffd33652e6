-- `closed` meets its contract: the exponent of one variable is raised. Assumes nothing.
use mathlib.Core.Path.{◌≡◌, ap, ◌∙◌}
use Prim.Native.Nat.{◌+◌}
use native.Mathlib.Omega.{arith}
use lib.ListN.{get_or, set}
use Rattle.desktop.specs.Names.{cap}
use Rattle.desktop.proofs.names.Laws.{cap_most}
use Rattle.desktop.proofs.names.closed.Goals as goal

pub overflow_cast-e : goal.overflow_cast-e
overflow_cast-e c = let small = rw (← c.capped-sum.ensures) at (cap_most (c.from.result + c.args.power)) in omega arith

pub returns : goal.returns
returns c = let a = c.args in
    let sum : c.capped-sum.result ≡ cap (get_or a.mono.e a.variable 0 + a.power) = c.capped-sum.ensures ∙ ap (λ x. cap (x + a.power)) c.from.ensures in
    c.of.ensures ∙ ap (set a.mono.e a.variable) sum
