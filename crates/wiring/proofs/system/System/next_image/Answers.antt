-- `next_image` meets its contract: the loop keeps the best of what the records give (`Collecting`). Assumes nothing.
use mathlib.Core.Path.{sym, ◌∙◌}
use Prim.Native.Nat.{◌<◌}
use native.Mathlib.Omega.{arith}
use lib.ListN.{length}
use Rattle.wiring.specs.Derivative.{image, gives, images}
use Rattle.wiring.specs.Terms.{record_at, records}
use Rattle.wiring.proofs.terms.Laws.{records_length}
use mathlib.Core.List.Memᴰ
use Rattle.monomial.specs.Lists.{keep}
use Rattle.monomial.proofs.Loops.{collecting_start}
use Rattle.monomial.proofs.order.Laws.{mono_order}
use Rattle.monomial.proofs.order.Ascending.{keep_asc}
use Rattle.wiring.specs.Choice.{beyond}
use Rattle.wiring.proofs.choice.Laws.{best_collects}
use Rattle.wiring.proofs.quadratic.Records.{at_record, meets_none, meets_one, meets_heads}
use Rattle.wiring.proofs.parts.Laws.{images_asc, given_sub, images_sub}
use Rattle.wiring.proofs.system.System.next_image.Goals as goal
use Rattle.wiring.proofs.system.System.next_image.Goals.{in-Some, in_default}

pub loop-t-init : goal.loop-t-init
loop-t-init c = collecting_start _ _ _ (λ y h. Memᴰ.not-nil h)

pub loop-t-preserved : goal.loop-t-preserved
loop-t-preserved c =
    let a = c.args in
    let l = a.self.terms.now in
    let k = c.loop-t in
    let f = gives (beyond a.last) a.z.e in
    let few : k.t < length (records l) = omega (arith, records_length l) in
    elim c.match-following.branch [
      | in-Some w ↦
          let here = at_record f l k.t (omega arith) ∙ sym w.in-Some.ensures.told in
          let same_image = at_record (λ r. image r a.z.e) l k.t (omega arith) ∙ sym w.in-Some.ensures.is in
          rw w.best-is
          (meets_one f a.z.e (records l) (record_at l k.t) few k.invariant (best_collects mono_order w.least-best.result) here
          (λ m b. rw same_image (w.least-best.ensures m b)))
      | in_default w ↦ rw w.best-is (meets_none f a.z.e (records l) (record_at l k.t) few k.invariant (best_collects mono_order k.best)
          (at_record f l k.t (omega arith) ∙ sym w.in_default.ensures.told))
    ]

pub returns : goal.returns
returns c =
    let a = c.args in
    let l = a.self.terms.now in
    let k = c.loop-t in
    let test = beyond a.last in
    meets_heads (gives test a.z.e) a.z.e (records l) k.t k.best k.invariant (omega (arith, records_length l))
    (keep test (images (records l) a.z.e)) (keep_asc test (images (records l) a.z.e) (images_asc (records l) a.z.e))
    (given_sub (records l) a.z.e test) (images_sub (records l) a.z.e test)
