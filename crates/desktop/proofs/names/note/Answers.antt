-- `note` meets its contract: a power is closed, a digit is kept or a name ends; what is of no name changes nothing. Assumes nothing.
use mathlib.Core.Path.{◌≡◌, refl}
use borrow.Author.Rules.{rules}
use Rattle.listing.specs.Meaning.{named}
use mathlib.Core.List.{[], ◌∷◌}
use Prim.Native.Nat.{◌<◌}
use native.Mathlib.Omega.{arith}
use Rattle.listing.proofs.saying.Laws.{named_none}
use Rattle.desktop.proofs.names.Laws.{holds_variable, holds_raised, holds_digit, holds_ended}
use Rattle.desktop.proofs.names.note.Goals as goal

pub closed-requires-clause-inside : goal.closed-requires-clause-inside
closed-requires-clause-inside c = rw c.in-Variable.is at c.requires.closing

pub overflow_add-k : goal.overflow_add-k
overflow_add-k c = let small : c.in-Digit.d < 256 = rw c.in-Digit.is at c.requires.small in omega (arith, c.requires.power)

pub closed-requires-in-NameEnds-clause-inside : goal.closed-requires-in-NameEnds-clause-inside
closed-requires-in-NameEnds-clause-inside c = (rw c.in-NameEnds.is at c.requires.closing).0

pub with_last-requires : goal.with_last-requires
with_last-requires c = (rw c.in-NameEnds.is at c.requires.closing).1

pub returns-in-Variable : goal.returns-in-Variable
returns-in-Variable c = let a = c.args in
    λ q h. rw c.in-Variable.is (holds_variable a.k q h c.closed.result c.in-Variable.v c.closed.ensures)

pub returns-in-Raised : goal.returns-in-Raised
returns-in-Raised c = let a = c.args in λ q h. rw c.in-Raised.is (holds_raised a.k q h)

pub returns-in-Digit : goal.returns-in-Digit
returns-in-Digit c = let a = c.args in
    λ q h. rw c.in-Digit.is (holds_digit a.k q h c.in-Digit.d c.capped.result c.capped.ensures)

pub returns-in-NameEnds : goal.returns-in-NameEnds
returns-in-NameEnds c = let a = c.args in
    λ q h. rw c.in-NameEnds.is (holds_ended a.k q h c.closed-in-NameEnds.result (record { e = 0 ∷ 0 ∷ 0 ∷ 0 ∷ 0 ∷ 0 ∷ [] }) c.with_last.result c.closed-in-NameEnds.ensures c.with_last.ensures.0 c.with_last.ensures.1 refl)

pub returns-in_default : goal.returns-in_default
returns-in_default c = λ q h. let d = c.in_default in let e : named c.args.said q ≡ q = search (rules, named_none) in rw e h
