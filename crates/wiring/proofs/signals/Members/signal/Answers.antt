-- `signal` meets its contract: 1 and the variables by their numbers, then the monomials that lie side by side. Assumes nothing.
use mathlib.Core.Path.{◌≡◌, sym, ap, ◌∙◌}
use Prim.Native.Nat.{ℕ, ◌+◌, ◌-◌}
use native.Mathlib.Omega.{arith}
use lib.ListN.{get_or}
use Rattle.monomial.specs.Monomial.{one, width}
use Rattle.wiring.specs.Signals.{tabled, signals_at}
use Rattle.wiring.proofs.signals.Laws.{signals_constant, signals_new, signals_at_length}
use Rattle.wiring.proofs.signals.Tables.{tabled_at}
use Rattle.wiring.proofs.signals.Members.signal.Goals as goal

pub returns-then-j-self : goal.returns-then-j-self
returns-then-j-self c =
    let v = c.args.self in
    c.constant.ensures ∙ sym (signals_constant v.n (tabled v.set.now) c.args.j (one width) c.requires.few (omega arith))

pub overflow_mul-j : goal.overflow_mul-j
overflow_mul-j c = omega (arith, signals_at_length c.args.self.n c.args.self.set.now c.requires.few)

pub read-requires : goal.read-requires
read-requires c = omega (arith, signals_at_length c.args.self.n c.args.self.set.now c.requires.few)

-- beyond the constants, signal number n + 1 + k is monomial number k
pub returns : goal.returns
returns c =
    let v = c.args.self in
    let j = c.args.j in
    let k : ℕ = j - v.n - 1 in
    let number : v.n + 1 + k ≡ j = omega arith in
    c.read.ensures
    ∙ sym (tabled_at v.set.now k (one width) (omega (arith, signals_at_length v.n v.set.now c.requires.few)))
    ∙ sym (signals_new v.n (tabled v.set.now) k (one width) c.requires.few)
    ∙ ap (λ (i : ℕ). get_or (signals_at v.n v.set.now) i (one width)) number
