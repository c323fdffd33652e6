-- `gather_in` meets its contract: the loop lists what the records offer (`Meeting`). Assumes nothing.
use mathlib.Core.Path.{refl, sym, ◌∙◌}
use Prim.Native.Nat.{◌<◌, ◌≤◌}
use native.Mathlib.Omega.{arith}
use lib.ListN.{length}
use Rattle.monomial.proofs.Loops.{collecting_start}
use Rattle.wiring.specs.Derivative.{image}
use Rattle.wiring.specs.Signals.{listed, signals_at}
use Rattle.wiring.specs.Terms.{record_at, records}
use Rattle.wiring.proofs.terms.Laws.{records_length}
use Rattle.wiring.proofs.quadratic.Records.{outside, offering, at_record}
use Rattle.counting.proofs.gathering.Laws.{meeting_none, meeting_more, meeting_over, meeting_ends, lent_holds}
use Rattle.counting.proofs.gathering.gather_in.Goals as goal
use Rattle.counting.proofs.gathering.gather_in.Goals.{in-Some+in_ok-held, in_default}

pub loop-t-init : goal.loop-t-init
loop-t-init c = (refl, collecting_start _ _ _ (lent_holds c.requires.lent))

pub returns-in_err-held : goal.returns-in_err-held
returns-in_err-held c =
    let a = c.args in
    let k = c.loop-t in
    rw c.from_residual.ensures
    (meeting_over (listed a.len a.list.now) (signals_at a.v.n a.v.set.now) (records a.s.terms.now) a.z.e k.invariant.1
    (record_at a.s.terms.now k.t) c.in-Some.m c.in-Some.ensures c.in_err-held.ensures)

pub loop-t-preserved : goal.loop-t-preserved
loop-t-preserved c =
    let a = c.args in
    let l = a.s.terms.now in
    let k = c.loop-t in
    let f = offering (outside (signals_at a.v.n a.v.set.now)) (records l) a.z.e in
    let few : k.t < length (records l) = omega (arith, records_length l) in
    let l0 = listed a.len a.list.now in
    elim c.match-nonsquare_of.branch [
      | in-Some+in_ok-held w ↦
          let offer = w.in-Some.ensures in
          let told = at_record f l k.t (omega arith) ∙ sym offer.told in
          let is = at_record (λ r. image r a.z.e) l k.t (omega arith) ∙ sym offer.is in
          rw (w.held-is, w.list-is) (
            w.note.auto.list ∙ k.invariant.0,
            meeting_more l0 (signals_at a.v.n a.v.set.now) (records l) a.z.e k.invariant.1 (record_at l k.t) few told _ is _ _
                w.in_ok-held.ensures,
          )
      | in_default w ↦
          let told = at_record f l k.t (omega arith) ∙ sym w.in_default.ensures.told in
          rw (w.held-is, w.list-is)
          (k.invariant.0, meeting_none l0 (signals_at a.v.n a.v.set.now) (records l) a.z.e k.invariant.1 (record_at l k.t) few told)
    ]

pub returns : goal.returns
returns c =
    let a = c.args in
    let k = c.loop-t in
    let few : length (records a.s.terms.now) ≤ k.t = omega (arith, records_length a.s.terms.now) in
    meeting_ends (listed a.len a.list.now) (signals_at a.v.n a.v.set.now) (records a.s.terms.now) a.z.e k.invariant.1 few
