-- `join` meets its contract: the record stands behind the others, or there is no room for it. Assumes nothing.
use mathlib.Core.Path.{◌≡◌, ap, ap₂, ◌∙◌}
use mathlib.Core.List.{List}
use Prim.Native.Nat.{ℕ, ◌*◌}
use native.Mathlib.Omega.{arith}
use lib.ListN.{length}
use lib.Seq.{paste}
use Rattle.wiring.specs.Panel.{cards, set_bytes}
use Rattle.wiring.specs.Sets.{monomials_of, set_record}
use Rattle.wiring.proofs.signals.Arrays.{array_length}
use Rattle.thin.proofs.subsets.Listing.{set_long, begun_past, begun_more}
use borrow.Author.Rules.{rules}
use Rattle.thin.proofs.subsets.join.Goals as goal

pub returns-then-count-out : goal.returns-then-count-out
returns-then-count-out c =
    λ l many b.
    let a = c.args in
    let s = monomials_of a.set in
    let full : length a.set.m ≡ cards = search (rules, array_length, c.well_formed.1.1.0) in
    let long = set_long a.set full c.requires in
    let written : c.put.new.out ≡ paste a.out.now (set_bytes * length l) (set_record s) set_bytes =
    c.put.ensures
    ∙ ap₂ (λ (k : ℕ) (r : List ℕ). paste a.out.now (set_bytes * k) r (length r)) many c.record_of.ensures
    ∙ ap (λ (k : ℕ). paste a.out.now (set_bytes * length l) (set_record s) k) long in
    begun_more l s a.out.now b long (omega (arith, many, c.if-count-out.true)) c.put.new.out written

pub returns-else-count-out : goal.returns-else-count-out
returns-else-count-out c =
    λ l many b.
    let a = c.args in
    let full : length a.set.m ≡ cards = search (rules, array_length) in
    begun_past l (monomials_of a.set) a.out.now b (set_long a.set full c.requires) (omega (arith, c.if-count-out.false))
