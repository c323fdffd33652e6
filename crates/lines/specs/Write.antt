-- When the writing of lines ends. Assumes nothing.
use Rattle.std.specs.Prelude.{ℕ, ◌<◌, ◌^◌, Bool, IsTrue}
use Rattle.std.specs.Fn.{Mut, AlwaysReturns}

-- however often f is called, it says of numbers below n alone that they have a line; and n is a number of 64 bits
abbrev pub EndsAt : {F Y Z : Type 0} → Mut F (ℕ × Y) (Bool × Z) → ℕ → F → Type 0
EndsAt g n f = (n < 2 ^ 64) × AlwaysReturns g (λ a r. IsTrue r.0 → a.0 < n) f
