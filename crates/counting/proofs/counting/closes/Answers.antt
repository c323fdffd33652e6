-- `closes` meets its contract: few nonsquares, no quotient that occurs often enough, one that does, or the sum of the largest counts.
-- Assumes nothing.
use mathlib.Core.Path.{◌≡◌, sym, ap, ◌∙◌}
use mathlib.Core.List.{List}
use Prim.Native.Nat.{ℕ, suc, ◌+◌, ◌-◌, ◌*◌, ◌/◌}
use native.Mathlib.Omega.{arith}
use native.Mathlib.Numerals.{add-one}
use Rattle.std.specs.Int.{div_ceil}
use borrow.Author.Tests.{lt-ltb, le-ltb}
use lib.ListN.{length}
use Rattle.monomial.specs.Monomial.{Mono, width}
use Rattle.wiring.specs.Signals.{tabled, signals_at}
use Rattle.wiring.specs.Sockets.{can_build}
use Rattle.wiring.proofs.signals.Tables.{tabled_length}
use Rattle.counting.specs.Counting.{frequent}
use Rattle.counting.proofs.UpTo.{up_to_none, up_to_some}
use Rattle.counting.proofs.counting.Sums.{closes_few, closes_sum, closes_rare, closes_one, share_some, share_less, share_whole}
use Rattle.counting.proofs.counting.closes.Goals as goal
use Rattle.counting.proofs.counting.closes.Goals.{After-frequent}

pub returns-then-len-own : goal.returns-then-len-own
returns-then-len-own c =
    let a = c.args in
    closes_few (can_build a.panel) _ (tabled a.list.now) a.room (omega (arith, tabled_length a.list.now, ap (λ k. a.room * k / 2) (add-one a.room)))

-- ---- the place where the quotients that come to their share were counted
module _ (c : After-frequent) where
  abbrev l : List Mono
  l = tabled c.args.list.now

  abbrev wanted : ℕ
  wanted = length c.args.list.now / width - c.args.room * (c.args.room + 1) / 2

  parts : length l ≡ wanted + c.args.room * suc c.args.room / 2
  parts = omega (arith, tabled_length c.args.list.now, ap (λ k. c.args.room * k / 2) (add-one c.args.room))

  abbrev shared : ℕ
  shared = c.div_ceil.result - 1

  share : div_ceil wanted c.args.room ≡ suc shared
  share = omega (arith, c.div_ceil.ensures, share_some wanted c.args.room (omega arith) c.requires.low)

  abbrev many : ℕ → ℕ
  many k = frequent (can_build c.args.panel) (signals_at c.args.v.n c.args.v.set.now) l k

  as_shared : many c.div_ceil.result ≡ many (suc shared)
  as_shared = ap many (c.div_ceil.ensures ∙ share)

pub returns-then-frequent-lt1 : goal.returns-then-frequent-lt1
returns-then-frequent-lt1 c =
    let o = (goal.at.returns-then-frequent-lt1 c).After-frequent in
    let a = c.args in
    let none = up_to_none 1 (many o c.div_ceil.result) (omega arith) (omega (arith, c.frequent.ensures)) in
    lt-ltb _ _ c.if-frequent-lt1.true
    ∙ closes_rare (can_build a.panel) _ (l o) a.room (wanted o) (parts o) (shared o) (share_less (wanted o) a.room (omega arith) c.requires.low (shared o) (share o)) (sym (as_shared o) ∙ none)

pub returns-then-room-gt1 : goal.returns-then-room-gt1
returns-then-room-gt1 c =
    let o = (goal.at.returns-then-room-gt1 c).After-frequent in
    closes_sum (can_build c.args.panel) _ (l o) c.args.room (wanted o) (parts o) _ c.stays_below.ensures

pub returns-else-room-gt1 : goal.returns-else-room-gt1
returns-else-room-gt1 c =
    let o = (goal.at.returns-else-room-gt1 c).After-frequent in
    let a = c.args in
    let alone : a.room ≡ 1 = omega (arith, c.requires.low) in
    let some = up_to_some 1 (many o c.div_ceil.result) (omega (arith, c.frequent.ensures)) in
    le-ltb _ _ c.if-room-gt1.false
    ∙ closes_one (can_build a.panel) _ (l o) a.room (wanted o) (parts o) alone (shared o) (share_whole (wanted o) a.room (omega arith) c.requires.low (shared o) (share o) alone) (omega (arith, some, as_shared o))
