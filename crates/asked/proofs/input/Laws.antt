-- What was read into the front of a buffer. Assumes nothing.
use mathlib.Core.Path.{sym}
use mathlib.Core.List.{List, ◌++◌}
use Prim.Native.Nat.{ℕ, ◌≤◌}
use native.Mathlib.Omega.{arith}
use lib.ListN.{length, length-append}
use lib.Seq.{length-take-le}
use Rattle.io.specs.Counts.{IsPrefixLen}

pub counts_front : (n : ℕ) (front rest : List ℕ) → IsPrefixLen n front → IsPrefixLen n (front ++ rest)
counts_front n front rest h =
    let low : n ≤ length (front ++ rest) = omega (arith, length-append front rest, h.0) in
    (low, sym (length-take-le n (front ++ rest) low))
