-- `is_signal` meets its contract: a member of V is low or new (`signal_low`, `signal_else`). Assumes nothing.
use mathlib.Core.Path.{sym, ◌∙◌}
use Rattle.wiring.specs.Signals.{tabled}
use Rattle.wiring.proofs.signals.Division.{signal_low, signal_else}
use borrow.Author.Rules.{rules}
use Rattle.wiring.proofs.signals.Members.is_signal.Goals as goal

pub returns-then-is_low : goal.returns-then-is_low
returns-then-is_low c =
    let a = c.args in
    c.if-is_low.true ∙ signal_low a.self.n (tabled a.self.set.now) a.m.e (search rules) (sym c.is_low.ensures ∙ c.if-is_low.true)

pub returns-else-is_low : goal.returns-else-is_low
returns-else-is_low c =
    let a = c.args in
    c.is_among.ensures ∙ signal_else a.self.n (tabled a.self.set.now) a.m.e (search rules) (sym c.is_low.ensures ∙ c.if-is_low.false)
