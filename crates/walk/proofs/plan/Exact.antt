-- Exactly when each reply of planning is given, for all settings, all bytes and a buffer of any size, and what the buffer then holds: each refusal
-- in plain equations and inequalities, in the order of document 01, then the four endings of the walk. Assumes nothing.
use Rattle.std.specs.Prelude.{Ok, Err, Result, ⊤}
use mathlib.Core.Path.{◌≡◌, refl, sym, ap, ◌∙◌, subst}
use mathlib.Core.Logic.{◌⊎◌, ◌↔◌}
use mathlib.Core.Bool.{true, false}
use mathlib.Core.List.{List, ◌++◌}
use Prim.Native.Nat.{ℕ, suc, ◌*◌, ◌-◌, ◌/◌, ◌≤◌}
use native.Mathlib.Omega.{arith}
use borrow.Author.Tests.{le-leb, ne_eqb, eqb-true, eqb-false}
use lib.Dec.{T, eqb, leb→le}
use lib.ListN.{length, replicate, length-replicate}
use Rattle.monomial.specs.Lists.{arrange_by}
use Rattle.monomial.specs.Monomial.{Mono, width}
use Rattle.monomial.specs.Order.{same, before}
use Rattle.monomial.specs.Claims.{◌∈◌}
use Rattle.monomial.proofs.Tests.{Tested, passed, failed, test, T→is, n_t→is, is→T, is→n_t, and_l, and_r}
use Rattle.wiring.specs.Panel.{cards, set_bytes, wires_bytes, most_steps}
use Rattle.wiring.specs.Sockets.{may_be}
use Rattle.wiring.specs.declared.panel.Panel.{Panel}
use Rattle.wiring.specs.Poly.{Poly, plain}
use Rattle.wiring.specs.Derivative.{derivative}
use Rattle.wiring.specs.Signals.{signals}
use Rattle.wiring.specs.Reply.{numbers, Outcome, outcome, refused}
use Rattle.wiring.specs.Terms.{records, length_right, fault, system, CleanTerms}
use Rattle.wiring.specs.Sets.{set_record}
use Rattle.wiring.specs.Answers.{unless_fault, wired}
use Rattle.wiring.specs.declared.reply.Reply.{Reply}
use Rattle.wiring.specs.declared.reply.Reply.TheVariants.{Done, Setting, Length, Term, Twice, Nothing, Full, Spent, BadSet, NotQuadratic, Unreadable, FalseLine}
use Rattle.wiring.specs.declared.terms.Fault.{Fault}
use Rattle.wiring.specs.declared.terms.Fault.TheVariants.{Wrong, Repeated}
use Rattle.wiring.specs.Claims.{Wide, Measured, Breaks, Repeats, beyond, Buildable, derivative_in, list_in}
use Rattle.wiring.proofs.reply.Laws.{same_reply, code_done}
use Rattle.wiring.proofs.terms.Exact.{length_exact, wrong_exact, repeated_exact, clean_exact}
use Rattle.wiring.proofs.sets.Exact.{record_length}
use Rattle.wiring.proofs.quadratic.Definition1.{quadratic_same}
use Rattle.wiring.proofs.sockets.Slopes.{slope_is}
use Rattle.wiring.proofs.terms.Laws.{clean_for}
use Rattle.wiring.proofs.answers.Exact.{panel-in, panel_out}
use Rattle.walk.specs.Walk.{allowing, cheaply, rules_of}
use Rattle.walk.specs.Plan.{Ending, done, none, full_at, spent_at, plan, sets_bytes, said, settings_right, planned}
use Rattle.walk.specs.Claims.{Barren, Ends, Lacks, Fills, Spends, Fate, Listed, InRange, Accepted, sets_at, PlanSays, plan_leaves, NoneBelow, Planned, Finished, QuadraticList}
use Rattle.walk.proofs.Stops.{fate, fate_exact, done_exact}
use Rattle.walk.proofs.Rules.{cheaply_orderly}
use Rattle.walk.proofs.Kit.{buildable_counts, counts_built, none_smaller_limit, all_limit}
use Rattle.walk.proofs.Counting.{counted_sparing}
use Rattle.walk.proofs.children.Laws.{empty_walked}
use Rattle.walk.proofs.Sound.{empty_proper}
use Rattle.walk.proofs.Smallest.{plan_done, finished_by}
use Rattle.walk.proofs.listing.Laid.{sets_laid}
use Rattle.walk.proofs.listing.Wiring.{Usable, usable_judged, usable_wires}

-- ---- the settings
pub range_out : (panel : Panel) (cap limit : ℕ) → T (settings_right panel cap limit) → InRange panel cap limit
unfolding settings_right
range_out panel cap limit t = record {
  ranged = panel_out panel (search (and_l, and_r, t));
  capped = leb→le cap cards (search (and_l, and_r, t));
  low = leb→le 1 limit (search (and_l, and_r, t));
  high = leb→le limit most_steps (search (and_l, and_r, t));
}

range_in : (panel : Panel) (cap limit : ℕ) → InRange panel cap limit → settings_right panel cap limit ≡ true
unfolding settings_right
range_in panel cap limit r =
    rw (panel-in panel r.ranged, le-leb cap cards r.capped, le-leb 1 limit r.low, le-leb limit most_steps r.high)

module _ (panel : Panel) (cap limit : ℕ) (terms : List ℕ) (size : ℕ) where
  abbrev fs : List (Poly Mono)
  fs = system (records terms)

  -- ---- what holds is said
  abbrev rest : Outcome
  rest = said (plan (rules_of panel) panel.n fs limit (size / set_bytes) cap) size

  with_setting : settings_right panel cap limit ≡ false → planned panel cap limit terms size ≡ refused Setting size
  unfolding planned
  with_setting e = rw e

  module _ (r : InRange panel cap limit) where
    with_length : length_right terms ≡ false → planned panel cap limit terms size ≡ refused Length size
    unfolding planned
    with_length e = rw (range_in panel cap limit r, e)

    with_fault : Measured terms → (f : Result ⊤ Fault) → fault panel (records terms) ≡ f → planned panel cap limit terms size ≡ unless_fault (λ x. refused x size) f rest
    unfolding planned
    with_fault m f e = rw (range_in panel cap limit r, (length_exact terms).1 m, e)

  -- accepted input is answered as its walk ends
  pub planned_walk : Accepted panel cap limit terms
      → planned panel cap limit terms size ≡ said (plan (rules_of panel) panel.n (system (records terms)) limit (size / set_bytes) cap) size
  planned_walk a = with_fault a.range a.measured (Ok tt) ((clean_exact panel (records terms) beyond).1 a.flawless)

  with_ending : Accepted panel cap limit terms → (e : Ending) → Fate (rules_of panel) panel.n fs limit (size / set_bytes) cap e → planned panel cap limit terms size ≡ said e size
  with_ending a e f = planned_walk a ∙ ap (λ (x : Ending). said x size) ((fate_exact (rules_of panel) panel.n fs limit (size / set_bytes) cap e).1 f)

  planned_is : (r : Reply) → PlanSays panel cap limit terms size r → planned panel cap limit terms size ≡ outcome r (plan_leaves panel terms size r)
  unfolding said
  planned_is Setting h = with_setting (n_t→is (settings_right panel cap limit) (λ t. h (range_out panel cap limit t)))
  planned_is Length h = with_length h.0 (n_t→is (length_right terms) (λ t. h.1 ((length_exact terms).0 (T→is (length_right terms) t))))
  planned_is (Term p) h = with_fault h.0 h.1 (Err (Wrong p)) ((wrong_exact panel (records terms) beyond p).1 h.2)
  planned_is (Twice p) h = with_fault h.0 h.1 (Err (Repeated p)) ((repeated_exact panel (records terms) beyond p).1 h.2)
  planned_is (Done o c k) h =
      with_ending h.0 (done o k (sets_at panel terms o)) h.2
      ∙ ap (λ (x : ℕ). outcome (Done o x k) (sets_bytes (sets_at panel terms o) ++ replicate (size - set_bytes * x) 0)) (sym h.1)
  planned_is (Nothing o k) h = with_ending h.0 (none o k) h.1
  planned_is (Full o k) h = with_ending h.0 (full_at o k) h.1
  planned_is (Spent o k) h = with_ending h.0 (spent_at o k) h.1
  planned_is BadSet h = absurd h
  planned_is (NotQuadratic o p) h = absurd h
  planned_is (Unreadable p) h = absurd h
  planned_is (FalseLine p) h = absurd h

  -- ---- and one of them holds
  record Told : Type 0 where
    reply : Reply
    holds : PlanSays panel cap limit terms size reply

  told_ending : Accepted panel cap limit terms → (e : Ending) → Fate (rules_of panel) panel.n fs limit (size / set_bytes) cap e → Told
  told_ending a (done o k l) f = record {
    reply = Done o (length l) k;
    holds = (a, ap length f.sets, subst (Ends (rules_of panel) panel.n fs limit (size / set_bytes) cap o k) f.sets f);
  }
  told_ending a (none o k) f = record { reply = Nothing o k; holds = (a, f) }
  told_ending a (full_at o k) f = record { reply = Full o k; holds = (a, f) }
  told_ending a (spent_at o k) f = record { reply = Spent o k; holds = (a, f) }

  told_fault : InRange panel cap limit → Measured terms → (f : Result ⊤ Fault) → fault panel (records terms) ≡ f → Told
  told_fault r m (Err (Wrong p)) e = record { reply = Term p; holds = (r, m, (wrong_exact panel (records terms) beyond p).0 e) }
  told_fault r m (Err (Repeated p)) e = record { reply = Twice p; holds = (r, m, (repeated_exact panel (records terms) beyond p).0 e) }
  told_fault r m (Ok _) e =
      told_ending (record { range = r; measured = m; flawless = (clean_exact panel (records terms) beyond).0 e })
      (plan (rules_of panel) panel.n fs limit (size / set_bytes) cap) (fate (rules_of panel) panel.n fs limit (size / set_bytes) cap)

  told : Told
  told = go (test (settings_right panel cap limit)) (test (length_right terms))
    where
      go : Tested (settings_right panel cap limit) → Tested (length_right terms) → Told
      go (failed e) q = record { reply = Setting; holds = λ r. is→n_t (settings_right panel cap limit) e (is→T (settings_right panel cap limit) (range_in panel cap limit r)) }
      go (passed e) (failed q) = record {
        reply = Length;
        holds = (range_out panel cap limit (is→T (settings_right panel cap limit) e), λ m. is→n_t (length_right terms) q (is→T (length_right terms) ((length_exact terms).1 m)));
      }
      go (passed e) (passed q) = told_fault (range_out panel cap limit (is→T (settings_right panel cap limit) e)) ((length_exact terms).0 q) (fault panel (records terms)) refl

  -- ---- the contract of `plan`: a reply with its buffer keeps it exactly where what the reply says holds and the buffer is as it leaves it
  planned_told : planned panel cap limit terms size ≡ outcome told.reply (plan_leaves panel terms size told.reply)
  planned_told = planned_is told.reply told.holds

  told_reply : (r : Reply) (bytes : List ℕ) → outcome r bytes ≡ planned panel cap limit terms size → told.reply ≡ r
  told_reply r bytes e = same_reply told.reply r (ap (λ (x : Outcome). x.said) (sym planned_told ∙ sym e))

  pub plan_exact : (r : Reply) (bytes : List ℕ) → (outcome r bytes ≡ planned panel cap limit terms size) ↔ (PlanSays panel cap limit terms size r × (bytes ≡ plan_leaves panel terms size r))
  plan_exact r bytes = (out, λ h. ap (outcome r) h.1 ∙ sym (planned_is r h.0))
    where
      out : outcome r bytes ≡ planned panel cap limit terms size → PlanSays panel cap limit terms size r × (bytes ≡ plan_leaves panel terms size r)
      out e =
          let q : told.reply ≡ r = told_reply r bytes e in
          (subst (PlanSays panel cap limit terms size) q told.holds, ap (λ (x : Outcome). x.bytes) (e ∙ planned_told) ∙ ap (plan_leaves panel terms size) q)

  -- some reply is always given
  pub plan_replies : (r : Reply) × (outcome r (plan_leaves panel terms size r) ≡ planned panel cap limit terms size)
  plan_replies = (told.reply, sym planned_told)

  -- two replies that keep it are equal, and so are their buffers
  pub plan_determined : (r r' : Reply) (bytes bytes' : List ℕ) → outcome r bytes ≡ planned panel cap limit terms size → outcome r' bytes' ≡ planned panel cap limit terms size
      → (r ≡ r') × (bytes ≡ bytes')
  plan_determined r r' bytes bytes' e e' =
      (same_reply r r' (ap (λ (x : Outcome). x.said) (e ∙ sym e')), ap (λ (x : Outcome). x.bytes) (e ∙ sym e'))

  -- ---- the buffer
  -- every code but 0 leaves zeros
  pub plan_zeros : (r : Reply) (bytes : List ℕ) → outcome r bytes ≡ planned panel cap limit terms size → ((numbers r).code ≡ 0 → ⊥) → bytes ≡ replicate size 0
  plan_zeros r bytes e h = rw (ne_eqb (numbers r).code 0 h) at ((plan_exact r bytes).0 e).1

  -- ---- the eight replies, one by one
  pub says_setting : (bytes : List ℕ) → (outcome Setting bytes ≡ planned panel cap limit terms size) ↔ ((InRange panel cap limit → ⊥) × (bytes ≡ replicate size 0))
  says_setting bytes = plan_exact Setting bytes

  pub says_length : (bytes : List ℕ) → (outcome Length bytes ≡ planned panel cap limit terms size) ↔ ((InRange panel cap limit × (Measured terms → ⊥)) × (bytes ≡ replicate size 0))
  says_length bytes = plan_exact Length bytes

  pub says_term : (p : ℕ) (bytes : List ℕ) → (outcome (Term p) bytes ≡ planned panel cap limit terms size)
      ↔ ((InRange panel cap limit × Measured terms × Breaks panel (records terms) beyond p) × (bytes ≡ replicate size 0))
  says_term p bytes = plan_exact (Term p) bytes

  pub says_twice : (p : ℕ) (bytes : List ℕ) → (outcome (Twice p) bytes ≡ planned panel cap limit terms size)
      ↔ ((InRange panel cap limit × Measured terms × Repeats panel (records terms) beyond p) × (bytes ≡ replicate size 0))
  says_twice p bytes = plan_exact (Twice p) bytes

  pub says_done : (o c k : ℕ) (bytes : List ℕ) → (outcome (Done o c k) bytes ≡ planned panel cap limit terms size)
      ↔ ((Accepted panel cap limit terms × (c ≡ length (sets_at panel terms o)) × Ends (rules_of panel) panel.n (system (records terms)) limit (size / set_bytes) cap o k (sets_at panel terms o))
      × (bytes ≡ sets_bytes (sets_at panel terms o) ++ replicate (size - set_bytes * c) 0))
  says_done o c k bytes = plan_exact (Done o c k) bytes

  pub says_none : (o k : ℕ) (bytes : List ℕ) → (outcome (Nothing o k) bytes ≡ planned panel cap limit terms size)
      ↔ ((Accepted panel cap limit terms × Lacks (rules_of panel) panel.n (system (records terms)) limit (size / set_bytes) cap o k) × (bytes ≡ replicate size 0))
  says_none o k bytes = plan_exact (Nothing o k) bytes

  pub says_full : (o k : ℕ) (bytes : List ℕ) → (outcome (Full o k) bytes ≡ planned panel cap limit terms size)
      ↔ ((Accepted panel cap limit terms × Fills (rules_of panel) panel.n (system (records terms)) limit (size / set_bytes) cap o k) × (bytes ≡ replicate size 0))
  says_full o k bytes = plan_exact (Full o k) bytes

  pub says_spent : (o k : ℕ) (bytes : List ℕ) → (outcome (Spent o k) bytes ≡ planned panel cap limit terms size)
      ↔ ((Accepted panel cap limit terms × Spends (rules_of panel) panel.n (system (records terms)) limit (size / set_bytes) cap o k) × (bytes ≡ replicate size 0))
  says_spent o k bytes = plan_exact (Spent o k) bytes

-- ---- of accepted input: what the kit can build is what counts by its rules, whose walk is the panel's
module _ (panel : Panel) (cap limit : ℕ) (terms : List ℕ) (a : Accepted panel cap limit terms) where
  abbrev system_of : List (Poly Mono)
  system_of = system (records terms)

  clean_of : fault panel (records terms) ≡ Ok tt
  clean_of = (clean_exact panel (records terms) beyond).1 a.flawless

  pub accepted_clean : CleanTerms terms
  accepted_clean = clean_for panel width terms a.range.ranged.high clean_of

  -- on V of it the derivative is that of what has one
  slope_built : (s : List Mono) → Buildable panel s → (z : Mono) → z ∈ signals width panel.n s → derivative plain system_of z ≡ derivative_in panel terms z
  slope_built s b = slope_is panel terms clean_of s b.free

  quadratic_built : (s : List Mono) → Buildable panel s → QuadraticList panel.n (derivative_in panel terms) s → QuadraticList panel.n (derivative plain system_of) s
  quadratic_built s b =
      quadratic_same plain (signals width panel.n s) (derivative_in panel terms) (derivative plain system_of) (λ z h. sym (slope_built s b z h))

  -- where no level below j has a find, no quadratic list that the kit can build is smaller than j
  none_below : (j : ℕ) → j ≤ suc cap → Barren (rules_of panel) panel.n (system (records terms)) j → NoneBelow panel terms j
  none_below j h f s w b q =
      let capped : cap ≤ cards = a.range.capped in
      none_smaller_limit panel panel.n terms accepted_clean j (omega arith) f s w (buildable_counts panel s b) (quadratic_built s b q)

  -- and each of j members is found at level j
  all_below : (j : ℕ) → j ≤ cap → Barren (rules_of panel) panel.n (system (records terms)) j → (s : List Mono) → Wide s → Buildable panel s
      → QuadraticList panel.n (derivative_in panel terms) s → length s ≡ j → arrange_by same before s ∈ sets_at panel terms j
  all_below j h f s w b q =
      let capped : cap ≤ cards = a.range.capped in
      all_limit panel panel.n terms accepted_clean j (omega arith) f (omega arith) s w (buildable_counts panel s b) (quadratic_built s b q)

-- ---- none, full and spent: no quadratic list that the kit can build has fewer members than the order
module _ (panel : Panel) (cap limit : ℕ) (terms : List ℕ) (size o k : ℕ) (bytes : List ℕ) where
  pub plan_lacks : outcome (Nothing o k) bytes ≡ planned panel cap limit terms size → (o ≡ suc cap) × NoneBelow panel terms o
  plan_lacks e =
      let f = ((says_none panel cap limit terms size o k bytes).0 e).0 in
      let last : o ≡ suc cap = f.1.last in
      (last, none_below panel cap limit terms f.0 o (omega arith) f.1.barren)

  pub plan_fills : outcome (Full o k) bytes ≡ planned panel cap limit terms size → NoneBelow panel terms o
  plan_fills e =
      let f = ((says_full panel cap limit terms size o k bytes).0 e).0 in
      let low : o ≤ cap = f.1.low in
      none_below panel cap limit terms f.0 o (omega arith) f.1.barren

  pub plan_spends : outcome (Spent o k) bytes ≡ planned panel cap limit terms size → NoneBelow panel terms o
  plan_spends e =
      let f = ((says_spent panel cap limit terms size o k bytes).0 e).0 in
      let low : o ≤ cap = f.1.low in
      none_below panel cap limit terms f.0 o (omega arith) f.1.barren

-- ---- done: what the bytes say
module _ (panel : Panel) (cap limit : ℕ) (terms : List ℕ) (size : ℕ) where
  pub plan_finds : (o c k : ℕ) (bytes : List ℕ) → outcome (Done o c k) bytes ≡ planned panel cap limit terms size → Planned panel cap limit terms size o c k bytes
  plan_finds o c k bytes e = record {
    accepted = a;
    finished = f;
    buildable = λ s m. counts_built panel s (f.sets.each s m).extends;
    none_below = let low : o ≤ cap = ends.low in none_below panel cap limit terms a o (omega arith) ends.barren;
    all = all_below panel cap limit terms a o ends.low ends.barren;
    laid = sets_laid (sets_at panel terms o) c size bytes (λ s m. let r = (f.sets.each s m).recordable in record_length s r.few r.wide) says.0.1
        (omega (arith, f.roomy, says.0.1)) says.1;
  }
    where
      says : PlanSays panel cap limit terms size (Done o c k) × (bytes ≡ plan_leaves panel terms size (Done o c k))
      says = (plan_exact panel cap limit terms size (Done o c k) bytes).0 e

      a : Accepted panel cap limit terms
      a = says.0.0

      ends : Ends (rules_of panel) panel.n (system (records terms)) limit (size / set_bytes) cap o k (sets_at panel terms o)
      ends = says.0.2

      f : Finished (rules_of panel) panel.n (system (records terms)) (derivative_in panel terms) cap limit (size / set_bytes) o k (sets_at panel terms o)
      f =
          let fs : List (Poly Mono) = system (records terms) in
          let few : panel.n ≤ width = a.range.ranged.high in
          let ending = (done_exact (rules_of panel) panel.n fs limit (size / set_bytes) cap o k (sets_at panel terms o)).1 ends in
          finished_by (rules_of panel) panel.n (derivative plain fs) (derivative_in panel terms) (λ s x. slope_built panel cap limit terms a s (counts_built panel s x))
          fs cap limit (size / set_bytes) o k (sets_at panel terms o)
          (plan_done (rules_of panel) (cheaply_orderly (allowing (may_be panel))) empty_walked panel.n (empty_proper panel.n) terms few
          (clean_for panel panel.n terms (omega arith) (clean_of panel cap limit terms a)) (counted_sparing (cheaply (allowing (may_be panel))) panel.n fs)
          cap limit (size / set_bytes) a.range.capped o k (sets_at panel terms o) ending)

  -- the buffer keeps its length
  pub plan_length : (r : Reply) (bytes : List ℕ) → outcome r bytes ≡ planned panel cap limit terms size → length bytes ≡ size
  plan_length r bytes e = go (test (eqb (numbers r).code 0))
    where
      go : Tested (eqb (numbers r).code 0) → length bytes ≡ size
      go (failed q) = ap length (plan_zeros panel cap limit terms size r bytes e (eqb-false (numbers r).code 0 q)) ∙ length-replicate size 0
      go (passed q) =
          let d = code_done r (eqb-true (numbers r).code 0 q) in
          let same : outcome (Done d.order d.count d.steps) bytes ≡ planned panel cap limit terms size = ap (λ (x : Reply). outcome x bytes) (sym d.is) ∙ e in
          (plan_finds d.order d.count d.steps bytes same).laid.long

-- ---- a listed set can be handed to wiring, which never refuses it
abbrev Found : Panel → List ℕ → ℕ → List Mono → Type 0
Found panel terms o s = Listed (rules_of panel) panel.n (derivative_in panel terms) o s

pub listed_usable : (panel : Panel) (terms : List ℕ) (o : ℕ) (s : List Mono) → Found panel terms o s → Usable panel terms o s
listed_usable panel terms o s l = record { recordable = l.recordable; buildable = counts_built panel s l.extends; quadratic = l.quadratic; size = l.size }

module _ (panel : Panel) (cap limit : ℕ) (terms : List ℕ) (size : ℕ) (a : Accepted panel cap limit terms) (o : ℕ) (s : List Mono) (l : Found panel terms o s) where
  -- whatever the buffer, it is called quadratic: done or full
  pub listed_judged : (room : ℕ) (r : Reply) (bytes : List ℕ) → outcome r bytes ≡ wired panel terms (set_record s) room → ((numbers r).code ≡ 0) ⊎ ((numbers r).code ≡ 6)
  listed_judged = usable_judged panel terms a.range.ranged a.measured a.flawless o s (listed_usable panel terms o s l)

  -- into 1,792 bytes or more
  pub listed_wires : (room : ℕ) → wires_bytes ≤ room → (r : Reply) (bytes : List ℕ) → outcome r bytes ≡ wired panel terms (set_record s) room
      → r ≡ Done o (length (list_in panel terms (set_record s))) 0
  listed_wires = usable_wires panel terms a.range.ranged a.measured a.flawless o s (listed_usable panel terms o s l)
