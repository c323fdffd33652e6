-- `by_v` meets its contract: the nearest cheap pair is the first that the pass comes to. Assumes nothing.
use mathlib.Core.Path.{◌≡◌, refl, sym, subst}
use mathlib.Core.Bool.{Bool}
use mathlib.Core.List.{[], ◌∷◌}
use Prim.Native.Nat.{ℕ}
use native.Mathlib.Omega.{arith}
use lib.ListN.{length, get_or}
use mir.Val.{Fits}
use mir.Syntax.{w8}
use Rattle.monomial.specs.Lists.{keep}
use Rattle.monomial.specs.Monomial.{width}
use Rattle.monomial.specs.Divisors.{next}
use Rattle.monomial.specs.Claims.{split, pairs_from}
use Rattle.monomial.proofs.divisors.Laws.{score_bytes}
use Rattle.monomial.proofs.divisors.Count.{pairs_few}
use Rattle.wiring.specs.Signals.{signals_at}
use Rattle.lister.specs.Cheap.{of_kind}
use Rattle.lister.proofs.passes.Laws.{standing_few, sought_found, sought_none, nearest_comes, nearest_none}
use borrow.Author.Rules.{rules}
use Rattle.lister.proofs.passes.by_v.Goals as goal

pub returns-in_default : goal.returns-in_default
returns-in_default c =
    let a = c.args in
    let v = signals_at a.v.n a.v.set.now in
    let m = a.m.e in
    let none_left = nearest_none v m c.requires.proper a.from.a.e c.in_default.ensures in
    sought_none v m a.from c.requires.stands _ refl (subst (λ (b : Bool). keep (of_kind v b) (pairs_from m a.from.a.e) ≡ []) (sym c.requires.cheap) none_left) refl

pub overflow_add-listed : goal.overflow_add-listed
overflow_add-listed c =
    let a = c.args in
    let m = a.m.e in
    -- six bytes have so many divisors that their pairs can be counted
    let l : length m ≡ width = search rules in
    let bytes : (k : ℕ) → Fits w8 (get_or m k 0) = λ k. search rules in
    let few = standing_few (signals_at a.v.n a.v.set.now) m a.from.rest a.from.a.e a.from.listed c.requires.stands in
    record { fits = omega (arith, few, pairs_few m, score_bytes m width l bytes) }

pub returns : goal.returns
returns c =
    let a = c.args in
    let v = signals_at a.v.n a.v.set.now in
    let m = a.m.e in
    let near = c.in-Some.near in
    let own = c.in-Some.ensures.own in
    let comes = nearest_comes v m c.requires.proper a.from.a.e near c.in-Some.ensures in
    sought_found v m a.from c.requires.stands _ refl own.0.divisor own.0.leading _ own.1
    (subst (λ (b : Bool). keep (of_kind v b) (pairs_from m a.from.a.e) ≡ split m near.a.e ∷ keep (of_kind v b) (pairs_from m (next m near.a.e))) (sym c.requires.cheap) comes) refl
