-- A test of the numbers from a on, told of a list's entries. Assumes nothing.
use mathlib.Core.Path.{◌≡◌, ap₂}
use mathlib.Core.Bool.{Bool, ◌&&◌}
use mathlib.Core.List.{List}
use Prim.Native.Nat.{ℕ, zero, suc, ◌+◌, ◌≤◌, ◌<◌}
use native.Mathlib.Omega.{arith}
use native.Mathlib.Numerals.{add-one}
use lib.ListN.{length, get_or, drop, drop_of_length-le}
use lib.Seq.{drop-cons}
use Rattle.std.specs.List.{list_all, range_with_len}
use Rattle.monomial.specs.Lists.{all}

module _ {A : Type 0} (d : A) (f : ℕ → Bool) (g : A → Bool) (l : List A) where
  pub all_from : (a n : ℕ) → a + n ≡ length l → ((b : ℕ) → a ≤ b → b < length l → f b ≡ g (get_or l b d)) → list_all f (range_with_len a n) ≡ all g (drop a l)
  unfolding all
  all_from a zero e h = let past : length l ≤ a = omega arith in rw (drop_of_length-le l past)
  all_from a (suc n) e h = rw (drop-cons l a d (omega arith), add-one a) (ap₂ ◌&&◌ (h a (omega arith) (omega arith)) (all_from (suc a) n (omega arith) (λ b p q. h b (omega arith) q)))
