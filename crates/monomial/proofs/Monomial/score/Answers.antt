-- `Monomial::score` meets its contract: the product so far, times that of the places left, is the score. Assumes nothing.
use mathlib.Core.Path.{◌≡◌}
use Prim.Native.Nat.{ℕ, ◌+◌, ◌*◌, ◌^◌, ◌≤◌}
use native.Mathlib.Omega.{arith}
use lib.ListN.{length, get_or, drop}
use mir.Val.{Fits}
use mir.Syntax.{w8}
use Rattle.monomial.specs.Divisors.{score}
use Rattle.monomial.proofs.divisors.Laws.{score_on, score_end, score_part, score_bytes}
use borrow.Author.Rules.{rules}
use Rattle.monomial.specs.Monomial.{width}
use Rattle.monomial.proofs.Monomial.score.Goals as goal

pub overflow_mul-r : goal.overflow_mul-r
overflow_mul-r c =
    let es = c.args.self.e in
    let l : length es ≡ width = search rules in
    let bytes : (k : ℕ) → Fits w8 (get_or es k 0) = λ k. search rules in
    let k = c.loop-x in
    let more = score_on es k.x-index k.r (omega arith) k.invariant in
    let part : (c.from.result + 1) * k.r ≤ score es = rw c.from.ensures (score_part es (k.x-index + 1) ((get_or es k.x-index 0 + 1) * k.r) more) in
    let most : score es ≤ 256 ^ width = score_bytes es width l bytes in
    record { fits = omega arith }

pub loop-x-preserved : goal.loop-x-preserved
loop-x-preserved c =
    let es = c.args.self.e in
    let l : length es ≡ width = search rules in
    let k = c.loop-x in
    rw c.from.ensures (score_on es k.x-index k.r (omega arith) k.invariant)

pub returns : goal.returns
returns c =
    let es = c.args.self.e in
    let l : length es ≡ width = search rules in
    let k = c.loop-x in
    let e : score (drop k.x-index es) ≡ 1 = score_end es k.x-index (omega arith) in
    let h : k.r * 1 ≡ score es = rw e at k.invariant in
    omega arith
