-- A number up to a cap (`up_to`). Assumes nothing.
use mathlib.Core.Path.{◌≡◌, refl, sym, ap, ◌∙◌}
use mathlib.Core.Bool.{cond}
use Prim.Native.Nat.{ℕ, suc, ◌+◌, ◌<◌, ◌≤◌}
use native.Mathlib.Omega.{arith}
use borrow.Author.Tests.{leb-true, leb-false, le-leb, lt-leb}
use lib.Dec.{leb}
use Rattle.monomial.proofs.Tests.{Tested, passed, failed, test}
use Rattle.counting.specs.Counting.{up_to}

pub up_to_low : (cap k : ℕ) → k ≤ cap → up_to cap k ≡ k
unfolding up_to
up_to_low cap k h = go (test (leb cap k))
  where
    go : Tested (leb cap k) → cond (leb cap k) cap k ≡ k
    go (passed e) = rw e (let i : cap ≤ k = leb-true cap k e in omega arith)
    go (failed e) = rw e

pub up_to_high : (cap k : ℕ) → cap ≤ k → up_to cap k ≡ cap
unfolding up_to
up_to_high cap k h = rw (le-leb cap k h)

pub up_to_within : (cap k : ℕ) → up_to cap k ≤ cap
unfolding up_to
up_to_within cap k = go (test (leb cap k))
  where
    go : Tested (leb cap k) → cond (leb cap k) cap k ≤ cap
    go (passed e) = rw e (omega arith)
    go (failed e) = rw e (let i : k < cap = leb-false cap k e in omega arith)

pub up_to_none : (cap k : ℕ) → 0 < cap → up_to cap k ≡ 0 → k ≡ 0
unfolding up_to
up_to_none cap k h e = go (test (leb cap k)) e
  where
    go : Tested (leb cap k) → cond (leb cap k) cap k ≡ 0 → k ≡ 0
    go (passed t) z = let y : cap ≡ 0 = rw t at z in let n : ⊥ = omega arith in absurd n
    go (failed t) z = rw t at z

pub up_to_some : (cap k : ℕ) → 1 ≤ up_to cap k → 1 ≤ k
unfolding up_to
up_to_some cap k h = go (test (leb cap k)) h
  where
    go : Tested (leb cap k) → 1 ≤ cond (leb cap k) cap k → 1 ≤ k
    go (passed t) z = let y : 1 ≤ cap = rw t at z in let n : cap ≤ k = leb-true cap k t in omega arith
    go (failed t) z = rw t at z

-- what is added to a number up to the cap may be added to the number itself
pub up_to_more : (cap a b : ℕ) → up_to cap (up_to cap a + b) ≡ up_to cap (a + b)
up_to_more cap a b = go (test (leb cap a))
  where
    go : Tested (leb cap a) → up_to cap (up_to cap a + b) ≡ up_to cap (a + b)
    go (passed e) =
        let h : cap ≤ a = leb-true cap a e in
        up_to_high cap (up_to cap a + b) (omega (arith, up_to_high cap a h)) ∙ sym (up_to_high cap (a + b) (omega arith))
    go (failed e) = let h : a < cap = leb-false cap a e in ap (λ (k : ℕ). up_to cap (k + b)) (up_to_low cap a (omega arith))

-- one more of both
pub up_to_suc : (a b : ℕ) → up_to (suc a) (suc b) ≡ suc (up_to a b)
unfolding up_to
up_to_suc a b = go (test (leb a b))
  where
    go : Tested (leb a b) → cond (leb (suc a) (suc b)) (suc a) (suc b) ≡ suc (cond (leb a b) a b)
    go (passed e) = let h : a ≤ b = leb-true a b e in rw (e, le-leb (suc a) (suc b) (omega arith)) refl
    go (failed e) = let h : b < a = leb-false a b e in rw (e, lt-leb (suc a) (suc b) (omega arith)) refl
