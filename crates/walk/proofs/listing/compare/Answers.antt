-- `compare` meets its contract: the loop compares byte by byte, in both words (`Comparing`). Assumes nothing.
use mathlib.Core.Path.{◌≡◌, sym, ap, ◌∙◌}
use Prim.Native.Nat.{ℕ, ◌<◌}
use native.Mathlib.Omega.{arith}
use borrow.Author.Tests.{ne_eqb, eq-eqb}
use lib.Dec.{eqb, lt→ltb}
use lib.ListN.{get_or}
use mathlib.Core.List.{List}
use Rattle.std.proofs.lemmas.Cmp.{ranked}
use Rattle.std.specs.Prelude.{Bool, true, false, not, ◌==◌}
use Rattle.std.specs.Ordering.{nat_cmp, ordering_index}
use Rattle.std.specs.declared.cmp.Ordering.TheVariants.{Less, Equal, Greater}
use Rattle.std.specs.declared.cmp.Ordering.{Ordering}
use Rattle.monomial.specs.Order.{same, before}
use Rattle.monomial.proofs.Loops.{Comparing, comparing_start, pairwise_fails, pairwise_on, pairwise_ends}
use Rattle.monomial.proofs.order.Laws.{ℕ-order, not_ltb, dictionary_before, dictionary_behind, dictionary_on}
use Rattle.walk.specs.Listing.{Compares}
use Rattle.wiring.specs.Panel.{set_bytes}
use Rattle.walk.proofs.listing.Records.{record-at, record_long}
use Rattle.walk.proofs.listing.compare.Goals as goal

abbrev is_ne : Ordering → Bool
is_ne o = not (ordering_index o == 1)

-- bytes that do not differ are one
alike : (x y : ℕ) (o : Ordering) → o ≡ nat_cmp x y → false ≡ is_ne o → x ≡ y
alike x y Less e d = let h : ⊥ = cc in absurd h
alike x y Equal e d = ranked x y Equal e
alike x y Greater e d = let h : ⊥ = cc in absurd h

-- the first byte that differs decides
decides : (a b : List ℕ) (i : ℕ) → Comparing set_bytes before a b i → Comparing set_bytes same a b i → i < set_bytes → (o : Ordering) → o ≡ nat_cmp (get_or a i 0) (get_or b i 0)
    → true ≡ is_ne o → Compares a b o
decides a b i p q h Less e d =
    let low : get_or a i 0 < get_or b i 0 = ranked _ _ Less e in
    (sym (pairwise_fails 0 eqb q h (ne_eqb _ _ (λ k. omega arith))), sym (dictionary_before ℕ-order 0 p h (lt→ltb _ _ low)))
decides a b i p q h Equal e d = let h : ⊥ = cc in absurd h
decides a b i p q h Greater e d =
    let high : get_or b i 0 < get_or a i 0 = ranked _ _ Greater e in
    (sym (pairwise_fails 0 eqb q h (ne_eqb _ _ (λ k. omega arith))), sym (dictionary_behind ℕ-order 0 p h (lt→ltb _ _ high)))

pub loop-i-init : goal.loop-i-init
loop-i-init c = (comparing_start c.requires.whole (record_long _ c.requires.lies), comparing_start c.requires.whole (record_long _ c.requires.lies))

pub returns : goal.returns
returns c = sym (pairwise_ends 0 eqb c.loop-i.invariant.1 (omega arith))

pub loop-i-preserved : goal.loop-i-preserved
loop-i-preserved c =
    let k = c.loop-i in
    let own = record-at c.args.set.now c.requires.lies k.i in
    let level = alike _ _ c.cmp-order.result (c.cmp-order.ensures ∙ ap (nat_cmp (get_or c.args.s.now k.i 0)) (c.byte_at.ensures ∙ sym own)) c.if-ne.ensures in
    (dictionary_on ℕ-order 0 k.invariant.0 (omega arith) (not_ltb _ _ (omega arith)) (not_ltb _ _ (omega arith)), pairwise_on 0 eqb k.invariant.1 (omega arith) (eq-eqb _ _ level))

pub returns-then-ne : goal.returns-then-ne
returns-then-ne c =
    let k = c.loop-i in
    let own = record-at c.args.set.now c.requires.lies k.i in
    decides _ _ k.i k.invariant.0 k.invariant.1 (omega arith) c.cmp-order.result
    (c.cmp-order.ensures ∙ ap (nat_cmp (get_or c.args.s.now k.i 0)) (c.byte_at.ensures ∙ sym own)) c.if-ne.ensures
