-- `seek` meets its contract: the loop goes from divisor to divisor, and has met no pair of the kind that is sought (`Seeking`). Assumes nothing.
use mathlib.Core.Path.{◌≡◌, refl, sym, ◌∙◌, subst}
use mathlib.Core.List.{List}
use Prim.Native.Nat.{ℕ}
use native.Mathlib.Omega.{arith}
use lib.Dec.{T}
use lib.ListN.{length, get_or}
use mir.Val.{Fits}
use mir.Syntax.{w8}
use Rattle.monomial.specs.Monomial.{Mono, width}
use Rattle.monomial.specs.Divisors.{leads}
use Rattle.monomial.specs.Claims.{split}
use Rattle.monomial.proofs.Tests.{is→T, is→n_t}
use Rattle.monomial.proofs.divisors.Laws.{score_bytes}
use Rattle.monomial.proofs.divisors.Count.{pairs_few}
use Rattle.wiring.specs.Signals.{signals_at}
use Rattle.lister.specs.Cheap.{of_kind, Holds}
use Rattle.lister.proofs.passes.Laws.{fewer_pairs, seeking_found, seeking_by, seeking_none, standing_few, sought_found, sought_none}
use borrow.Author.Rules.{rules}
use Rattle.lister.proofs.passes.seek.Goals as goal
use Rattle.lister.proofs.passes.seek.Goals.{After-is_of}

-- ---- the place where the kind of a pair was told
module _ (c : After-is_of) where
  abbrev v : List Mono
  v = signals_at c.args.v.n c.args.v.set.now

  abbrev m : Mono
  m = c.args.m.e

  abbrev a : Mono
  a = c.loop-m.a.e

  leading : T (leads m a)
  leading = is→T (leads m a) (sym c.leads.ensures ∙ c.loop-m-test.true)

  held : Holds v (split m a) c.look_up-held.result
  held = subst (λ (b : Mono). Holds v (a, b) c.look_up-held.result) c.over.ensures c.look_up-held.ensures

  told : c.is_of.result ≡ of_kind v c.args.from.rest (split m a)
  told = c.is_of.ensures v (split m a) held

pub overflow_add-listed : goal.overflow_add-listed
overflow_add-listed c =
    let w = (goal.at.overflow_add-listed c).After-is_of in
    -- six bytes have so many divisors that their pairs can be counted
    let l : length (m w) ≡ width = search rules in
    let bytes : (k : ℕ) → Fits w8 (get_or (m w) k 0) = λ k. search rules in
    let few = standing_few (v w) (m w) c.args.from.rest c.args.from.a.e c.args.from.listed c.requires.stands in
    record { fits = omega (arith, few, pairs_few (m w), score_bytes (m w) width l bytes) }

pub returns-then-is_of : goal.returns-then-is_of
returns-then-is_of c =
    let w = (goal.at.returns-then-is_of c).After-is_of in
    let comes = seeking_found (m w) c.requires.proper (of_kind (v w) c.args.from.rest) c.loop-m.invariant (leading w) (sym (told w) ∙ c.if-is_of.true) in
    sought_found (v w) (m w) c.args.from c.requires.stands _ refl c.loop-m.invariant.divisor (leading w) _ (held w) comes refl

pub loop-m-smaller : goal.loop-m-smaller
loop-m-smaller c =
    let w = (goal.at.loop-m-smaller c).After-is_of in
    fewer_pairs (m w) c.requires.proper (of_kind (v w) c.args.from.rest) (a w) c.loop-m.invariant.divisor (leading w) c.next_divisor-a.result.e c.next_divisor-a.ensures

pub loop-m-preserved : goal.loop-m-preserved
loop-m-preserved c =
    let w = (goal.at.loop-m-preserved c).After-is_of in
    rw c.next_divisor-a.ensures
    (seeking_by (m w) c.requires.proper (of_kind (v w) c.args.from.rest) c.loop-m.invariant (leading w) (sym (told w) ∙ c.if-is_of.false))

pub returns : goal.returns
returns c =
    let b = c.args in
    let none_left = seeking_none b.m.e c.requires.proper (of_kind (signals_at b.v.n b.v.set.now) b.from.rest) c.loop-m.invariant (is→n_t _ (sym c.leads.ensures ∙ c.loop-m-test.false)) in
    sought_none (signals_at b.v.n b.v.set.now) b.m.e b.from c.requires.stands _ refl none_left refl
