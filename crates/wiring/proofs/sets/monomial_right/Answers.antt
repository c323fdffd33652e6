-- `monomial_right` meets its contract: what passes the first two tests is judged by what a new monomial may be. Assumes nothing.
use mathlib.Core.Path.{sym, ◌∙◌}
use Rattle.wiring.proofs.sets.Laws.{may_decides}
use borrow.Author.Rules.{rules}
use Rattle.wiring.proofs.sets.monomial_right.Goals as goal
use Rattle.wiring.proofs.sets.monomial_right.Goals.{then-not-is_constant, else-not-is_constant}

pub returns-then-exponents_right : goal.returns-then-exponents_right
returns-then-exponents_right c =
    let a = c.args in
    elim c.if-not-is_constant.branch [
      | then-not-is_constant w ↦
          let new = sym c.is_constant.ensures ∙ w.if-not-is_constant.true in
          let fits = sym w.exponents_right.ensures ∙ sym w.value-is ∙ c.if-exponents_right.true in
          c.can_build.ensures ∙ may_decides a.panel a.m.e new (search rules) fits
      | else-not-is_constant w ↦ cc
    ]
