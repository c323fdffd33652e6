-- Exactly when each reply of thinning is given, for all numbers n, all lists of bytes and a buffer of any size, and what the buffer then holds. Done
-- lists the smallest quadratic subsets of the given set, over Definition 1 itself, and none of them is refused by wiring. Assumes nothing.
use mathlib.Core.Path.{◌≡◌, refl, sym, ap, ap₂, subst, ◌∙◌}
use mathlib.Core.Logic.{◌⊎◌, ◌↔◌}
use mathlib.Core.List.{List, [], ◌++◌}
use Prim.Native.Nat.{ℕ, ◌*◌, ◌-◌, ◌/◌, ◌^◌, ◌≤◌, ◌<◌}
use native.Mathlib.Omega.{arith}
use native.Mathlib.Nat.{pow-le-pow_right}
use borrow.Author.Tests.{ne_eqb, eqb-true, eqb-false, leb-true, leb-false}
use lib.Dec.{eqb, leb}
use lib.ListN.{length, get_or, take, drop, replicate, length-replicate}
use Rattle.monomial.specs.Monomial.{Mono}
use Rattle.monomial.specs.Claims.{◌∈◌}
use Rattle.monomial.proofs.Tests.{Tested, passed, failed, test}
use Rattle.wiring.specs.Panel.{cards, set_bytes, wire_bytes, wires_bytes}
use Rattle.wiring.specs.Reply.{numbers, Outcome, outcome}
use Rattle.wiring.specs.Poly.{Poly, plain}
use Rattle.wiring.specs.Derivative.{derivative}
use Rattle.wiring.specs.Terms.{records, system}
use Rattle.wiring.specs.Sets.{set_of, set_record}
use Rattle.wiring.specs.Wires.{wire_list}
use Rattle.wiring.specs.Answers.{verdict, wired}
use Rattle.wiring.specs.declared.panel.Panel.{Panel}
use Rattle.wiring.specs.declared.reply.Reply.{Reply}
use Rattle.wiring.specs.declared.reply.Reply.TheVariants.{Done, Setting, Length, Term, Twice, Nothing, Full, Spent, BadSet, NotQuadratic, Unreadable, FalseLine}
use Rattle.wiring.specs.Claims.{WellFormed, slope, Driven, derivative_in, list_in, VerdictSays, QuadraticIn}
use Rattle.wiring.proofs.kit.Laws.{buildable_part}
use Rattle.wiring.proofs.reply.Laws.{same_reply, code_done}
use Rattle.wiring.proofs.sets.Exact.{record_length, right_iff, right_recordable}
use Rattle.wiring.proofs.sockets.Slopes.{slope_driven}
use Rattle.wiring.proofs.answers.Limits.{well_slope}
use Rattle.wiring.proofs.answers.Exact.{verdict_exact, verdict_says}
use Rattle.walk.specs.Plan.{Ending, sets_bytes, said}
use Rattle.walk.proofs.listing.Laid.{sets_laid}
use Rattle.walk.proofs.listing.Wiring.{Usable, usable_judged, laid_wired, laid_wires}
use Rattle.walk.proofs.plan.Laws.{said_done, said_full}
use Rattle.thin.specs.Thin.{thinned}
use Rattle.thin.specs.Claims.{Thinnest, least_in, thinnest_in, ThinSays, thin_leaves, Thinned, Overfull}
use Rattle.thin.proofs.thin.Laws.{thinned_refused, thinned_done, thinning_done, thinning_full}
use Rattle.thin.proofs.thin.Smallest.{thinnest_most, thin_smallest, thinnest_by, back}

module _ (panel : Panel) (terms set : List ℕ) (size : ℕ) where
  -- ---- what holds is said
  -- a verdict that refuses is passed on
  passed_on : (r : Reply) → VerdictSays panel terms set r → ((numbers r).code ≡ 0 → ⊥) → thinned panel terms set size ≡ outcome r (replicate size 0)
  passed_on r h k = thinned_refused panel terms set size r ((verdict_exact panel terms set r).1 h) k

  -- a set that can be thinned is judged, and its subsets decide
  with_ending : QuadraticIn panel terms set → (e : Ending) → Rattle.thin.specs.Thin.thinning panel.n (system (records terms)) (set_of set) (size / set_bytes) ≡ e → thinned panel terms set size ≡ said e size
  with_ending t e q =
      let says = (verdict_exact panel terms set (Done (length (set_of set)) 0 0)).1 (t.formed, refl, refl, refl, t.quadratic) in
      thinned_done panel terms set size (length (set_of set)) 0 0 says ∙ ap (λ (x : Ending). said x size) q

  thinned_is : (r : Reply) → ThinSays panel terms set size r → thinned panel terms set size ≡ outcome r (thin_leaves panel terms set size r)
  thinned_is Setting h = passed_on Setting h (λ e. let z : ⊥ = omega arith in z)
  thinned_is Length h = passed_on Length h (λ e. let z : ⊥ = omega arith in z)
  thinned_is (Term p) h = passed_on (Term p) h (λ e. let z : ⊥ = omega arith in z)
  thinned_is (Twice p) h = passed_on (Twice p) h (λ e. let z : ⊥ = omega arith in z)
  thinned_is BadSet h = passed_on BadSet h (λ e. let z : ⊥ = omega arith in z)
  thinned_is (NotQuadratic o p) h = passed_on (NotQuadratic o p) h (λ e. let z : ⊥ = omega arith in z)
  thinned_is (Done o c k) h =
      let sets = thinnest_in panel terms set in
      let left : List ℕ = sets_bytes sets ++ replicate (size - set_bytes * length sets) 0 in
      with_ending h.0 _ (thinning_done panel.n (system (records terms)) (set_of set) size (rw h.2 at h.4))
      ∙ sym (said_done (least_in panel terms set) (2 ^ length (set_of set)) sets size)
      ∙ ap₂ (λ (i j : ℕ). outcome (Done i j (2 ^ length (set_of set))) left) (sym h.1) (sym h.2) ∙ ap (λ (i : ℕ). outcome (Done o c i) left) (sym h.3)
  thinned_is (Full o k) h =
      with_ending h.0 _ (thinning_full panel.n (system (records terms)) (set_of set) size h.3) ∙ sym (said_full (least_in panel terms set) (2 ^ length (set_of set)) size)
      ∙ ap₂ (λ (i j : ℕ). outcome (Full i j) (replicate size 0)) (sym h.1) (sym h.2)
  thinned_is (Nothing o k) h = absurd h
  thinned_is (Spent o k) h = absurd h
  thinned_is (Unreadable p) h = absurd h
  thinned_is (FalseLine p) h = absurd h

  -- ---- and one of them holds
  record Told : Type 0 where
    reply : Reply
    holds : ThinSays panel terms set size reply

  told_list : QuadraticIn panel terms set → Told
  told_list t = go (test (leb (length (thinnest_in panel terms set)) (size / set_bytes)))
    where
      go : Tested (leb (length (thinnest_in panel terms set)) (size / set_bytes)) → Told
      go (passed e) = record {
        reply = Done (least_in panel terms set) (length (thinnest_in panel terms set)) (2 ^ length (set_of set));
        holds = (t, refl, refl, refl, leb-true (length (thinnest_in panel terms set)) (size / set_bytes) e);
      }
      go (failed e) = record {
        reply = Full (least_in panel terms set) (2 ^ length (set_of set));
        holds = (t, refl, refl, leb-false (length (thinnest_in panel terms set)) (size / set_bytes) e);
      }

  told_reply : (r : Reply) → VerdictSays panel terms set r → Told
  told_reply Setting h = record { reply = Setting; holds = h }
  told_reply Length h = record { reply = Length; holds = h }
  told_reply (Term p) h = record { reply = Term p; holds = h }
  told_reply (Twice p) h = record { reply = Twice p; holds = h }
  told_reply BadSet h = record { reply = BadSet; holds = h }
  told_reply (NotQuadratic o p) h = record { reply = NotQuadratic o p; holds = h }
  told_reply (Done o c k) h = told_list (record { formed = h.0; quadratic = h.4 })
  told_reply (Nothing o k) h = absurd h
  told_reply (Full o k) h = absurd h
  told_reply (Spent o k) h = absurd h
  told_reply (Unreadable p) h = absurd h
  told_reply (FalseLine p) h = absurd h

  told : Told
  told = told_reply (verdict panel terms set) (verdict_says panel terms set)

  thinned_told : thinned panel terms set size ≡ outcome told.reply (thin_leaves panel terms set size told.reply)
  thinned_told = thinned_is told.reply told.holds

  -- ---- the contract of `thin`: a reply with its buffer keeps it exactly where what the reply says holds and the buffer is as it leaves it
  pub thin_exact : (r : Reply) (bytes : List ℕ) → (outcome r bytes ≡ thinned panel terms set size) ↔ (ThinSays panel terms set size r × (bytes ≡ thin_leaves panel terms set size r))
  thin_exact r bytes = (out, λ h. ap (outcome r) h.1 ∙ sym (thinned_is r h.0))
    where
      out : outcome r bytes ≡ thinned panel terms set size → ThinSays panel terms set size r × (bytes ≡ thin_leaves panel terms set size r)
      out e =
          let q : told.reply ≡ r = same_reply told.reply r (ap (λ (x : Outcome). x.said) (sym thinned_told ∙ sym e)) in
          (subst (ThinSays panel terms set size) q told.holds, ap (λ (x : Outcome). x.bytes) (e ∙ thinned_told) ∙ ap (thin_leaves panel terms set size) q)

  -- some reply is always given
  pub thin_replies : (r : Reply) × (outcome r (thin_leaves panel terms set size r) ≡ thinned panel terms set size)
  thin_replies = (told.reply, sym thinned_told)

  -- two replies that keep it are equal, and so are their buffers
  pub thin_determined : (r r' : Reply) (bytes bytes' : List ℕ) → outcome r bytes ≡ thinned panel terms set size → outcome r' bytes' ≡ thinned panel terms set size
      → (r ≡ r') × (bytes ≡ bytes')
  thin_determined r r' bytes bytes' e e' =
      (same_reply r r' (ap (λ (x : Outcome). x.said) (e ∙ sym e')), ap (λ (x : Outcome). x.bytes) (e ∙ sym e'))

  -- every code but 0 leaves zeros
  pub thin_zeros : (r : Reply) (bytes : List ℕ) → outcome r bytes ≡ thinned panel terms set size → ((numbers r).code ≡ 0 → ⊥) → bytes ≡ replicate size 0
  thin_zeros r bytes e h = rw (ne_eqb (numbers r).code 0 h) at ((thin_exact r bytes).0 e).1

  -- ---- done and full, over Definition 1
  smallest_of : QuadraticIn panel terms set → Thinnest panel.n (derivative_in panel terms) (set_of set) (least_in panel terms set) (thinnest_in panel terms set)
  smallest_of t =
      let s : List Mono = set_of set in
      let fs : List (Poly Mono) = system (records terms) in
      let own = well_slope panel terms set t.formed in
      let r = right_recordable panel set ((right_iff panel set).1 t.formed.right) t.formed.lengths.long in
      let q = back panel.n (derivative plain fs) (derivative_in panel terms) s own s (λ x h. h) t.quadratic in
      thinnest_by panel.n (derivative plain fs) (derivative_in panel terms) s own (least_in panel terms set) (thinnest_in panel terms set) (thin_smallest panel.n fs s r q)

  pub thin_finds : (o c k : ℕ) (bytes : List ℕ) → outcome (Done o c k) bytes ≡ thinned panel terms set size → Thinned panel terms set size o c k bytes
  thin_finds o c k bytes e = record {
    given = says.0.0;
    smallest = found;
    judged = says.0.3;
    laid = sets_laid (thinnest_in panel terms set) c size bytes (λ t m. let r = (found.each t m).recordable in record_length t r.few r.wide) says.0.2
        (omega (arith, says.0.4))
        (says.1 ∙ ap (λ (i : ℕ). sets_bytes (thinnest_in panel terms set) ++ replicate (size - set_bytes * i) 0) (sym says.0.2));
  }
    where
      says : ThinSays panel terms set size (Done o c k) × (bytes ≡ thin_leaves panel terms set size (Done o c k))
      says = (thin_exact (Done o c k) bytes).0 e

      found : Thinnest panel.n (derivative_in panel terms) (set_of set) o (thinnest_in panel terms set)
      found = subst (λ (i : ℕ). Thinnest panel.n (derivative_in panel terms) (set_of set) i (thinnest_in panel terms set)) (sym says.0.1) (smallest_of says.0.0)

  pub thin_overfull : (o k : ℕ) (bytes : List ℕ) → outcome (Full o k) bytes ≡ thinned panel terms set size → Overfull panel terms set size o k bytes
  thin_overfull o k bytes e =
      let says = (thin_exact (Full o k) bytes).0 e in
      record {
        given = says.0.0;
        smallest = subst (λ (i : ℕ). Thinnest panel.n (derivative_in panel terms) (set_of set) i (thinnest_in panel terms set)) (sym says.0.1) (smallest_of says.0.0);
        judged = says.0.2;
        over = says.0.3;
        zeros = says.1;
      }

  -- room for as many sets as there are subsets of a set of all cards is enough for every list
  pub thin_enough : set_bytes * 2 ^ cards ≤ size → (o k : ℕ) (bytes : List ℕ) → outcome (Full o k) bytes ≡ thinned panel terms set size → ⊥
  thin_enough h o k bytes e =
      let full = thin_overfull o k bytes e in
      let formed = full.given.formed in
      let few = (right_recordable panel set ((right_iff panel set).1 formed.right) formed.lengths.long).few in
      let most : 2 ^ length (set_of set) ≤ 2 ^ cards = pow-le-pow_right {n = 2} (omega arith) {i = length (set_of set)} {j = cards} few in
      omega (arith, full.over, thinnest_most panel.n (system (records terms)) (set_of set))

  -- the buffer keeps its length
  pub thin_length : (r : Reply) (bytes : List ℕ) → outcome r bytes ≡ thinned panel terms set size → length bytes ≡ size
  thin_length r bytes e = go (test (eqb (numbers r).code 0))
    where
      go : Tested (eqb (numbers r).code 0) → length bytes ≡ size
      go (failed q) = ap length (thin_zeros r bytes e (eqb-false (numbers r).code 0 q)) ∙ length-replicate size 0
      go (passed q) =
          let d = code_done r (eqb-true (numbers r).code 0 q) in
          let same : outcome (Done d.order d.count d.steps) bytes ≡ thinned panel terms set size = ap (λ (x : Reply). outcome x bytes) (sym d.is) ∙ e in
          (thin_finds d.order d.count d.steps bytes same).laid.long

  -- ---- a listed subset can be handed to wiring, which never refuses it
  module _ (o c k : ℕ) (bytes : List ℕ) (e : outcome (Done o c k) bytes ≡ thinned panel terms set size) where
    abbrev found : Thinned panel terms set size o c k bytes
    found = thin_finds o c k bytes e

    abbrev formed : WellFormed panel terms set
    formed = found.given.formed

    each : (t : List Mono) → t ∈ thinnest_in panel terms set → Usable panel terms o t
    each t m =
        let l = found.smallest.each t m in
        record { recordable = l.recordable; buildable = buildable_part panel (set_of set) t l.part formed.right.buildable; quadratic = l.quadratic; size = l.size }

    -- whatever the buffer, it is called quadratic: done or full
    pub thin_judged : (t : List Mono) → t ∈ thinnest_in panel terms set → (room : ℕ) (r : Reply) (left : List ℕ) → outcome r left ≡ wired panel terms (set_record t) room
        → ((numbers r).code ≡ 0) ⊎ ((numbers r).code ≡ 6)
    thin_judged t m = usable_judged panel terms formed.ranged formed.lengths.measured formed.flawless o t (each t m)

    module _ (i : ℕ) (h : i < c) where
      -- record number i, wired into 1,792 bytes or more, is done: its list, then zeros
      pub thin_wired : (room : ℕ) → wires_bytes ≤ room
          → let list = list_in panel terms (set_record (get_or (thinnest_in panel terms set) i [])) in
          outcome (Done o (length list) 0) (wire_list list ++ replicate (room - wire_bytes * length list) 0) ≡ wired panel terms (take set_bytes (drop (set_bytes * i) bytes)) room
      thin_wired = laid_wired panel terms formed.ranged formed.lengths.measured formed.flawless o (thinnest_in panel terms set) each c size bytes found.laid i h

      -- and so it is said
      pub thin_wires : (room : ℕ) → wires_bytes ≤ room → (r : Reply) (left : List ℕ) → outcome r left ≡ wired panel terms (take set_bytes (drop (set_bytes * i) bytes)) room
          → r ≡ Done o (length (list_in panel terms (take set_bytes (drop (set_bytes * i) bytes)))) 0
      thin_wires = laid_wires panel terms formed.ranged formed.lengths.measured formed.flawless o (thinnest_in panel terms set) each c size bytes found.laid i h

-- ---- whatever the equations of the signals are: done and full say the same by the derivative of what has one in a system with any of them
pub thin_driven : (panel : Panel) (terms set : List ℕ) (gs : List (Poly Mono)) → Driven panel.marks (system (records terms)) gs → (o : ℕ)
    → Thinnest panel.n (derivative_in panel terms) (set_of set) o (thinnest_in panel terms set)
    → Thinnest panel.n (slope panel.marks gs) (set_of set) o (thinnest_in panel terms set)
thin_driven panel terms set gs d o m =
    subst (λ (f : Mono → Poly Mono). Thinnest panel.n f (set_of set) o (thinnest_in panel terms set)) (sym (slope_driven panel.marks (system (records terms)) gs d)) m
