-- `frequent` meets its contract: one monomial of the list after the other (`Finding`), which comes to all quotients (`news_frequent`).
-- Assumes nothing.
use mathlib.Core.Path.{ap, ◌∙◌}
use native.Mathlib.Omega.{arith}
use Rattle.monomial.specs.Monomial.{one, width}
use Rattle.wiring.specs.Signals.{tabled, signals_at}
use Rattle.wiring.specs.Sockets.{can_build}
use Rattle.wiring.proofs.signals.Tables.{tabled_length}
use Rattle.wiring.proofs.signals.Laws.{signals_at_wide}
use Rattle.counting.specs.Counting.{up_to}
use Rattle.counting.proofs.counting.Begins.{finding_next, finding_end}
use Rattle.counting.proofs.counting.Quotients.{news_frequent}
use Rattle.counting.proofs.counting.frequent.Goals as goal

pub loop-i-preserved : goal.loop-i-preserved
loop-i-preserved c =
    finding_next _ _ _ _ _ c.loop-i.invariant (one width) _ (omega (arith, tabled_length c.args.list.now, c.saturating_sub-i-end.ensures)) c.tally_at-met.ensures

pub returns : goal.returns
returns c =
    let a = c.args in
    let v = signals_at a.v.n a.v.set.now in
    let some = c.requires.some in
    finding_end _ _ _ _ _ c.loop-i.invariant (omega (arith, tabled_length a.list.now, c.saturating_sub-i-end.ensures))
    ∙ ap (up_to a.cap) (news_frequent (can_build a.panel) v (signals_at_wide a.v.n a.v.set.now) c.requires.different a.often (tabled a.list.now))
