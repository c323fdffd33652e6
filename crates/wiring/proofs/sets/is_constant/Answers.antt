-- `is_constant` meets its contract: of degree below 2 are 1 and the variables (`low_among`). Assumes nothing.
use mathlib.Core.Path.{sym, ap, ◌∙◌}
use Prim.Native.Nat.{suc}
use native.Mathlib.Omega.{arith}
use borrow.Author.Rules.{rules}
use lib.Seq.{take_all}
use Rattle.monomial.specs.Lists.{any}
use Rattle.monomial.specs.Monomial.{constants, width}
use Rattle.monomial.specs.Order.{same}
use Rattle.monomial.proofs.Variables.{vars_length}
use Rattle.monomial.proofs.degree.Laws.{low_among}
use Rattle.wiring.proofs.sets.is_constant.Goals as goal

pub returns : goal.returns
returns c =
    let m = c.args.m.e in
    let every = take_all (suc width) (constants width) (omega (arith, vars_length width)) in
    c.is_low.ensures ∙ sym (low_among width width m (search rules)) ∙ ap (any (same m)) every
