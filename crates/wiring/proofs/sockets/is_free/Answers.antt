-- `sockets::is_free` meets its contract: the exponents that are left say what all say (`Clearing`). Assumes nothing.
use mathlib.Core.Logic.{⊎_elim}
use Rattle.monomial.specs.Monomial.{width}
use Rattle.wiring.proofs.sockets.Laws.{clearing_start, clearing_none, clearing_fails, clearing_zero, clearing_unmarked, clearing_ends}
use borrow.Author.Rules.{rules}
use Rattle.wiring.proofs.sockets.is_free.Goals as goal

pub loop-e-init : goal.loop-e-init
loop-e-init c = clearing_start width _ _ (search rules)

pub returns-then-rest-eq0 : goal.returns-then-rest-eq0
returns-then-rest-eq0 c = clearing_none c.loop-e.invariant c.if-rest-eq0.true

pub returns-then-e-ne0 : goal.returns-then-e-ne0
returns-then-e-ne0 c = clearing_fails c.loop-e.invariant c.loop-e-test.true c.if-rest-eq1.true c.if-e-ne0.true

pub loop-e-preserved : goal.loop-e-preserved
loop-e-preserved c =
    let at = c.loop-e.invariant in
    let h = c.loop-e-test.true in
    ⊎_elim (λ w. clearing_zero at h w.1) (λ w. clearing_unmarked at h w) c.else-rest-eq1.either

pub returns : goal.returns
returns c = clearing_ends c.loop-e.invariant c.loop-e-test.false
