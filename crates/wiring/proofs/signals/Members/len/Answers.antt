-- `Members::len` meets its contract: 1, the variables and the new monomials are all of V. Assumes nothing.
use mathlib.Core.Path.{sym, ap, ◌∙◌}
use Prim.Native.Nat.{ℕ, ◌+◌}
use Rattle.wiring.proofs.signals.Laws.{signals_at_length}
use Rattle.wiring.proofs.signals.Members.len.Goals as goal

pub returns : goal.returns
returns c =
    let a = c.args.self in
    ap (λ (k : ℕ). a.n + 1 + k) c.order.ensures ∙ sym (signals_at_length a.n a.set.now c.requires)
