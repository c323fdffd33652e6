-- `cheapest_of` meets its contract: the loop keeps the cheapest of the monomials met (`Collecting`). Assumes nothing.
use mathlib.Core.Path.{◌≡◌, sym, ◌∙◌, subst}
use mathlib.Core.List.Memᴰ
use mathlib.Core.List.{List, [], ◌∷◌}
use Prim.Native.Nat.{◌<◌}
use native.Mathlib.Omega.{arith}
use lib.ListN.{length, get_or}
use Rattle.monomial.specs.Monomial.{Mono}
use Rattle.monomial.proofs.Members.{gather_alone}
use Rattle.monomial.proofs.Loops.{collecting_start, collecting_next, collecting_end}
use Rattle.wiring.specs.Signals.{tabled}
use Rattle.wiring.specs.Choice.{cheaper, Best}
use Rattle.wiring.proofs.signals.Tables.{tabled_length, tabled_at}
use Rattle.wiring.proofs.choice.Laws.{best_collects, cheap_order}
use Rattle.counting.proofs.gathering.cheapest_of.Goals as goal

pub loop-i-init : goal.loop-i-init
loop-i-init c = collecting_start _ _ _ (λ y h. Memᴰ.not-nil h)

pub loop-i-preserved : goal.loop-i-preserved
loop-i-preserved c =
    let l = c.args.list.now in
    let k = c.loop-i in
    let few : k.i < length (tabled l) = omega (arith, tabled_length l) in
    let here : get_or (tabled l) k.i [] ≡ _ = tabled_at l k.i [] (omega arith) ∙ sym c.read.ensures in
    collecting_next (λ x. x ∷ []) (tabled l) [] few k.invariant (best_collects cheap_order c.cheapest-best.result) (λ m b. rw here (c.cheapest-best.ensures m b))

pub returns : goal.returns
returns c =
    let l = c.args.list.now in
    let k = c.loop-i in
    subst (λ (r : List Mono). Best cheaper r k.best) (gather_alone (tabled l)) (collecting_end (λ x. x ∷ []) (tabled l) k.invariant (omega (arith, tabled_length l)))
