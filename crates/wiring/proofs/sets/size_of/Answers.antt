-- `size_of` meets its contract: the chain looks for the first place that is all zero. Assumes nothing.
use mathlib.Core.Path.{refl, sym, ◌∙◌, ◌≡◌}
use mathlib.Core.Bool.{Bool, true, false}
use Prim.Native.Nat.{ℕ}
use native.Mathlib.Omega.{arith}
use borrow.Author.Rules.{rules}
use borrow.Author.Tests.{tests}
use Rattle.std.proofs.lemmas.Iterator.{YieldsList-from_range, IsFirst-from_position, index_from_first}
use Rattle.std.specs.List.{range_with_len}
use Rattle.monomial.specs.Lists.{place, below}
use Rattle.monomial.specs.Monomial.{one, width}
use Rattle.monomial.specs.Order.{same}
use Rattle.monomial.proofs.order.Derived.{same_from_eq}
use Rattle.wiring.specs.Sets.{places, size_of}
use Rattle.wiring.proofs.sets.Laws.{place_at, size_few}
use Rattle.wiring.proofs.sets.size_of.Goals as goal

pub returns : goal.returns
unfolding size_of place places below
returns c =
    let s = c.args.s.now in
    let free : ℕ → Bool = λ i. same (one width) (place_at s i) in
    let first = IsFirst-from_position _ _ c.position.result (λ i. free i ≡ true) (λ i. free i ≡ false) c.position.ensures.ran (YieldsList-from_range 0 6 6 refl refl) (λ i q k. sym (same_from_eq _ _ _ (search (rules, tests)))) (λ i q k. (search rules, sym (same_from_eq _ _ _ (search (rules, tests))))) in
    let found = index_from_first (place free) (λ i. free i ≡ true) (λ i. free i ≡ false) refl (λ x xs y. rw y) (λ x xs n. rw n (omega arith)) (range_with_len 0 6) c.position.result first in
    let size : c.unwrap_or.result ≡ size_of s = c.unwrap_or.ensures ∙ sym found in
    record { size = size; few = omega (arith, size, size_few s) }
