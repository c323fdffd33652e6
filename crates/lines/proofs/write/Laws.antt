-- When the writing of lines ends, by what each call says. Assumes nothing.
use Rattle.std.proofs.Common.{◌≡◌, ℕ, ◌<◌, ◌^◌, Bool, IsTrue}
use Rattle.std.specs.Fn.{Mut, Called}
use Rattle.std.proofs.lemmas.Fn.{always_returns_same}
use Rattle.lines.specs.Write.{EndsAt}

-- of what no call changes it is enough to look at one
pub ends_at : {F Y Z : Type 0} (g : Mut F (ℕ × Y) (Bool × Z)) (n : ℕ) (f : F) → n < 2 ^ 64
    → ((a : ℕ × Y) (r : Bool × Z) (f' : F) → Called g f a r f' → (IsTrue r.0 → a.0 < n) × (f' ≡ f)) → EndsAt g n f
ends_at g n f small each = (small, always_returns_same g _ f each)
