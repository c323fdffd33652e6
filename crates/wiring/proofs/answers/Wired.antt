-- Exactly when each reply of wiring is given and what stands in every byte of the buffer, for all inputs and all sizes; and where it is done, what
-- the bytes say: the records of each left variable are its derivative. Assumes nothing.
use mathlib.Core.Path.{◌≡◌, refl, sym, ap, ◌∙◌, subst}
use mathlib.Core.Logic.{◌↔◌}
use mathlib.Core.List.{List, [], ◌++◌}
use Prim.Native.Nat.{ℕ, ◌*◌, ◌-◌, ◌/◌, ◌≤◌, ◌<◌}
use native.Mathlib.Omega.{arith}
use borrow.Author.Tests.{le-leb, lt-leb, leb-true, leb-false, eqb-true, eq-eqb, ne_eqb}
use lib.Dec.{leb, eqb}
use lib.IntN.{nat_abs}
use lib.ListN.{length, get_or, take, drop, replicate, length-append, length-replicate}
use Rattle.monomial.specs.Monomial.{Mono}
use Rattle.monomial.specs.Claims.{◌∈◌}
use Rattle.monomial.proofs.Tests.{Tested, passed, failed, test, is→T}
use Rattle.monomial.proofs.Members.{keep_in}
use Rattle.monomial.proofs.Counting.{at_in}
use Rattle.monomial.proofs.order.Laws.{mono_order}
use Rattle.wiring.specs.Panel.{cards, term_bytes, terms_bytes, most_signals, most_wires, wires_bytes, wire_bytes}
use Rattle.wiring.specs.declared.panel.Panel.{Panel}
use Rattle.wiring.specs.declared.reply.Reply.{Reply}
use Rattle.wiring.specs.declared.reply.Reply.TheVariants.{Done, Setting, Length, Term, Twice, Nothing, Full, Spent, BadSet, NotQuadratic, Unreadable, FalseLine}
use Rattle.wiring.specs.Reply.{Outcome, numbers, outcome}
use Rattle.wiring.specs.Poly.{Poly, plain}
use Rattle.wiring.specs.Derivative.{derivative}
use Rattle.wiring.specs.Quadratic.{Quadratic}
use Rattle.wiring.specs.Terms.{records, system}
use Rattle.wiring.specs.Sets.{set_of}
use Rattle.wiring.specs.Wires.{Wire, wire_record, wire_list}
use Rattle.wiring.specs.Answers.{verdict, listed, wired}
use Rattle.wiring.specs.Claims.{WellFormed, signals_in, derivative_in, VerdictSays, Wired, joined, Correct, Decodes, list_in, WireSays, wire_leaves, Patch}
use Rattle.wiring.proofs.reply.Laws.{same_reply, code_done}
use Rattle.wiring.proofs.quadratic.Definition1.{definition1, quadratic_same}
use Rattle.wiring.proofs.signals.Laws.{signals_length}
use Rattle.wiring.proofs.terms.Laws.{records_length}
use Rattle.wiring.proofs.sets.Exact.{right_recordable}
use Rattle.wiring.proofs.kinds.Plain.{plain_lawful}
use Rattle.wiring.proofs.wires.Laws.{wiring_left}
use Rattle.wiring.proofs.wires.Sheets.{list_length}
use Rattle.wiring.proofs.wires.Correct.{wiring_correct, correct_same, wire_decodes, list_at, list_rest}
use Rattle.wiring.proofs.answers.Limits.{well_right, well_slope, total_fits_32}
use Rattle.wiring.proofs.answers.Laws.{none_met, wired_refused, wired_listed}
use Rattle.wiring.proofs.answers.Exact.{verdict_says, verdict_exact}
use Rattle.wiring.proofs.wires.Length.{wiring_most}

module _ (panel : Panel) (terms set : List ℕ) (size : ℕ) where
  abbrev list : List Wire
  list = list_in panel terms set

  -- ---- what holds is said
  refuses : (r : Reply) → VerdictSays panel terms set r → ((numbers r).code ≡ 0 → ⊥) → outcome r (replicate size 0) ≡ wired panel terms set size
  refuses r h f = sym (wired_refused panel terms set size r ((verdict_exact panel terms set r).1 h) f)

  module _ (w : WellFormed panel terms set) (q : Quadratic plain (signals_in panel set) (derivative_in panel terms)) where
    lists : wired panel terms set size ≡ listed (length (set_of set)) list size
    lists = wired_listed panel terms set size (length (set_of set)) 0 0 ((verdict_exact panel terms set (Done (length (set_of set)) 0 0)).1 (w, refl, refl, refl, q))

    lists_done : wire_bytes * length list ≤ size → outcome (Done (length (set_of set)) (length list) 0) (wire_leaves panel terms set size (Done 0 0 0)) ≡ wired panel terms set size
    unfolding listed
    lists_done h = rw (lists, le-leb (wire_bytes * length list) size h)

    lists_full : size < wire_bytes * length list → outcome (Full (length (set_of set)) 0) (replicate size 0) ≡ wired panel terms set size
    unfolding listed
    lists_full h = rw (lists, lt-leb (wire_bytes * length list) size h)

  says : (r : Reply) → WireSays panel terms set size r → outcome r (wire_leaves panel terms set size r) ≡ wired panel terms set size
  says (Done o c k) h = rw (h.2, h.3, h.4) (lists_done h.0 h.1 h.5)
  says (Full o k) h = rw (h.2, h.3) (lists_full h.0 h.1 h.4)
  says Setting h = refuses Setting h (λ e. omega arith)
  says Length h = refuses Length h (λ e. omega arith)
  says (Term p) h = refuses (Term p) h (λ e. omega arith)
  says (Twice p) h = refuses (Twice p) h (λ e. omega arith)
  says BadSet h = refuses BadSet h (λ e. omega arith)
  says (NotQuadratic o p) h = refuses (NotQuadratic o p) h (λ e. omega arith)
  says (Nothing o k) h = absurd h
  says (Spent o k) h = absurd h
  says (Unreadable p) h = absurd h
  says (FalseLine p) h = absurd h

  -- ---- and one of them holds
  record Told : Type 0 where
    reply : Reply
    holds : WireSays panel terms set size reply

  told_list : WellFormed panel terms set → Quadratic plain (signals_in panel set) (derivative_in panel terms) → Told
  told_list w q = go (test (leb (wire_bytes * length list) size))
    where
      go : Tested (leb (wire_bytes * length list) size) → Told
      go (passed e) = record { reply = Done (length (set_of set)) (length list) 0; holds = (w, q, refl, refl, refl, leb-true (wire_bytes * length list) size e) }
      go (failed e) = record { reply = Full (length (set_of set)) 0; holds = (w, q, refl, refl, leb-false (wire_bytes * length list) size e) }

  told_by : (r : Reply) → VerdictSays panel terms set r → Told
  told_by (Done o c k) h = told_list h.0 h.4
  told_by Setting h = record { reply = Setting; holds = h }
  told_by Length h = record { reply = Length; holds = h }
  told_by (Term p) h = record { reply = Term p; holds = h }
  told_by (Twice p) h = record { reply = Twice p; holds = h }
  told_by BadSet h = record { reply = BadSet; holds = h }
  told_by (NotQuadratic o p) h = record { reply = NotQuadratic o p; holds = h }
  told_by (Nothing o k) h = absurd h
  told_by (Full o k) h = absurd h
  told_by (Spent o k) h = absurd h
  told_by (Unreadable p) h = absurd h
  told_by (FalseLine p) h = absurd h

  told : Told
  told = told_by (verdict panel terms set) (verdict_says panel terms set)

  -- ---- the contract of `wire`: a reply and a buffer keep it exactly where what the reply says holds and the buffer is what it leaves
  pub wire_exact : (r : Reply) (bytes : List ℕ) → (outcome r bytes ≡ wired panel terms set size) ↔ (WireSays panel terms set size r × (bytes ≡ wire_leaves panel terms set size r))
  wire_exact r bytes = (out, λ h. ap (outcome r) h.1 ∙ says r h.0)
    where
      out : outcome r bytes ≡ wired panel terms set size → WireSays panel terms set size r × (bytes ≡ wire_leaves panel terms set size r)
      out e =
          let both : outcome r bytes ≡ outcome told.reply (wire_leaves panel terms set size told.reply) = e ∙ sym (says told.reply told.holds) in
          let one : r ≡ told.reply = same_reply r told.reply (ap (λ (x : Outcome). x.said) both) in
          (subst (WireSays panel terms set size) (sym one) told.holds, ap (λ (x : Outcome). x.bytes) both ∙ ap (wire_leaves panel terms set size) (sym one))

  -- some reply is always given
  pub wire_replies : (r : Reply) × (outcome r (wire_leaves panel terms set size r) ≡ wired panel terms set size)
  wire_replies = (told.reply, says told.reply told.holds)

  -- full: the list is longer than the buffer holds
  pub wire_full : (o k : ℕ) (bytes : List ℕ) → (outcome (Full o k) bytes ≡ wired panel terms set size)
      ↔ ((WellFormed panel terms set × Quadratic plain (signals_in panel set) (derivative_in panel terms)
      × (o ≡ length (set_of set)) × (k ≡ 0) × (size < wire_bytes * length (list_in panel terms set))) × (bytes ≡ replicate size 0))
  wire_full o k bytes = wire_exact (Full o k) bytes

  -- there is one such reply and one such buffer
  pub wire_determined : (r r' : Reply) (bytes bytes' : List ℕ) → outcome r bytes ≡ wired panel terms set size → outcome r' bytes' ≡ wired panel terms set size
      → (r ≡ r') × (bytes ≡ bytes')
  wire_determined r r' bytes bytes' e e' =
      let both : outcome r bytes ≡ outcome r' bytes' = e ∙ sym e' in
      (same_reply r r' (ap (λ (x : Outcome). x.said) both), ap (λ (x : Outcome). x.bytes) both)

  -- every code but 0 leaves zeros, and the buffer keeps its length
  pub wire_zeros : (r : Reply) (bytes : List ℕ) → outcome r bytes ≡ wired panel terms set size → ((numbers r).code ≡ 0 → ⊥) → bytes ≡ replicate size 0
  wire_zeros r bytes e f = rw (ne_eqb (numbers r).code 0 f) at ((wire_exact r bytes).0 e).1

  full_length : wire_bytes * length list ≤ size → length (wire_list list ++ replicate (size - wire_bytes * length list) 0) ≡ size
  full_length h =
      let front : length (wire_list list) ≡ wire_bytes * length list = list_length list in
      let back : length {A = ℕ} (replicate (size - wire_bytes * length list) 0) ≡ size - wire_bytes * length list = length-replicate (size - wire_bytes * length list) 0 in
      length-append (wire_list list) (replicate (size - wire_bytes * length list) 0) ∙ omega arith

  leaves_length : (r : Reply) → WireSays panel terms set size r → length (wire_leaves panel terms set size r) ≡ size
  leaves_length r h = go (test (eqb (numbers r).code 0))
    where
      go : Tested (eqb (numbers r).code 0) → length (wire_leaves panel terms set size r) ≡ size
      go (failed e) = rw e (length-replicate size 0)
      go (passed e) = let d = code_done r (eqb-true (numbers r).code 0 e) in rw e (full_length (subst (WireSays panel terms set size) d.is h).5)

  pub wire_length : (r : Reply) (bytes : List ℕ) → outcome r bytes ≡ wired panel terms set size → length bytes ≡ size
  wire_length r bytes e = let o = (wire_exact r bytes).0 e in ap length o.1 ∙ leaves_length r o.0

  pub wired_length : length (wired panel terms set size).bytes ≡ size
  wired_length = ap (λ (x : Outcome). length x.bytes) (sym (says told.reply told.holds)) ∙ leaves_length told.reply told.holds

-- ---- done: what the bytes say
module _ (panel : Panel) (terms set : List ℕ) (w : WellFormed panel terms set) where
  few : length (set_of set) ≤ cards
  few = (right_recordable panel set (well_right panel terms set w) w.lengths.long).few

  pub list_most : length (list_in panel terms set) ≤ most_wires
  list_most =
      let size : length (records terms) ≡ length terms / term_bytes = records_length terms in
      let most : length terms ≤ terms_bytes = w.lengths.measured.limited in
      wiring_most panel.n (records terms) (set_of set) (omega arith) few

  signals_few : length (signals_in panel set) ≤ most_signals
  signals_few = let m = w.ranged.high in let k = few in let l = signals_length panel.n (set_of set) m in omega arith

  module _ (q : Quadratic plain (signals_in panel set) (derivative_in panel terms)) where
    pub list_correct : Correct plain (signals_in panel set) (derivative_in panel terms) (list_in panel terms set)
    list_correct =
        let v : List Mono = signals_in panel set in
        let taken : Mono → Poly Mono = derivative plain (system (records terms)) in
        let is = well_slope panel terms set w in
        let met = (definition1 plain mono_order v taken).0 (quadratic_same plain v (derivative_in panel terms) taken (λ z h. sym (is z h)) q) in
        correct_same plain v taken (derivative_in panel terms) is (list_in panel terms set)
        (wiring_correct plain v taken plain_lawful (none_met panel.n (system (records terms)) (set_of set) met))

    list_wired : (x : Wire) → x ∈ list_in panel terms set → Wired plain (signals_in panel set) x.left (derivative_in panel terms (get_or (signals_in panel set) x.left [])) x
    list_wired x h =
        let i : ℕ = x.left in
        let k : i < length (signals_in panel set) = wiring_left plain (signals_in panel set) (derivative plain (system (records terms))) x h in
        (list_correct.rows i k).each x (keep_in (λ y. eqb y.left i) (list_in panel terms set) h (is→T (eqb i i) (eq-eqb i i refl)))

    -- a signal's number and a total fit where they are written
    pub list_decodes : (x : Wire) → x ∈ list_in panel terms set → Decodes x (wire_record x)
    list_decodes x h =
        let v : List Mono = signals_in panel set in
        let r = list_wired x h in
        let many : length v ≤ most_signals = signals_few in
        let k : x.left < length v = wiring_left plain v (derivative plain (system (records terms))) x h in
        let fits : nat_abs x.coefficient < 2147483648 = rw r.total (total_fits_32 panel terms set w (get_or v x.left []) (at_in v x.left [] k) (joined plain v x)) in
        wire_decodes x (omega arith) (omega (arith, r.a_below)) (omega (arith, r.b_below)) fits

pub wire_done : (panel : Panel) (terms set : List ℕ) (size o c k : ℕ) (bytes : List ℕ) → outcome (Done o c k) bytes ≡ wired panel terms set size → Patch panel terms set c bytes
wire_done panel terms set size o c k bytes e = record {
  list = list;
  counted = counted;
  most = rw counted (list_most panel terms set h.0);
  correct = list_correct panel terms set h.0 h.1;
  written = λ j none l. subst (Decodes (get_or list j none)) (sym (eight j none l)) (list_decodes panel terms set h.0 h.1 (get_or list j none) (at_in list j none (rw (← counted) l)));
  rest = λ j l. rw left (list_rest list (size - wire_bytes * length list) j (rw (← counted) l));
}
  where
    list : List Wire
    list = list_in panel terms set

    h : WireSays panel terms set size (Done o c k)
    h = ((wire_exact panel terms set size (Done o c k) bytes).0 e).0

    left : bytes ≡ wire_list list ++ replicate (size - wire_bytes * length list) 0
    left = ((wire_exact panel terms set size (Done o c k) bytes).0 e).1

    counted : c ≡ length list
    counted = h.3

    eight : (j : ℕ) (none : Wire) → j < c → take wire_bytes (drop (wire_bytes * j) bytes) ≡ wire_record (get_or list j none)
    eight j none l = ap (λ (b : List ℕ). take wire_bytes (drop (wire_bytes * j) b)) left ∙ list_at list (replicate (size - wire_bytes * length list) 0) j none (rw (← counted) l)

-- 1,792 bytes are enough for every list
pub wire_enough : (panel : Panel) (terms set : List ℕ) (size : ℕ) → WellFormed panel terms set → Quadratic plain (signals_in panel set) (derivative_in panel terms) → wires_bytes ≤ size
    → (r : Reply) (bytes : List ℕ) → outcome r bytes ≡ wired panel terms set size → r ≡ Done (length (set_of set)) (length (list_in panel terms set)) 0
wire_enough panel terms set size w q h r bytes e =
    let most : length (list_in panel terms set) ≤ most_wires = list_most panel terms set w in
    let done : Reply = Done (length (set_of set)) (length (list_in panel terms set)) 0 in
    let also = (wire_exact panel terms set size done (wire_leaves panel terms set size done)).1 ((w, q, refl, refl, refl, omega arith), refl) in
    (wire_determined panel terms set size r done bytes (wire_leaves panel terms set size done) e also).0
