-- Wiring, step by step: what each test of the code says of the reply. Assumes nothing.
use Rattle.std.specs.Prelude.{Option, Some, None, Result, Ok, Err, ⊤}
use Rattle.std.specs.Option.{ok_or}
use mathlib.Core.Path.{◌≡◌, refl, sym, ap, ap₂, ◌∙◌, subst}
use mathlib.Core.Logic.{◌⊎◌, inl, inr, ⊎_elim}
use mathlib.Core.Bool.{Bool, true, false}
use mathlib.Core.List.Memᴰ
use mathlib.Core.List.{List, [], ◌++◌}
use Prim.Native.Nat.{ℕ, ◌*◌, ◌-◌, ◌<◌, ◌≤◌}
use native.Mathlib.Omega.{arith}
use borrow.Author.Tests.{eq-eqb, ne_eqb, le-leb, lt-leb}
use lib.Dec.{T, leb, leb→le}
use lib.ListN.{length, replicate}
use Rattle.monomial.specs.Lists.{any, some, place, gather}
use Rattle.monomial.specs.Monomial.{Mono, width}
use Rattle.monomial.specs.Claims.{◌∈◌}
use Rattle.monomial.proofs.Tests.{and_l, and_r, T→is, n_t→is, is→T, is→n_t, Tested, passed, failed, test}
use Rattle.monomial.proofs.Counting.{place_lt, place_any}
use Rattle.monomial.proofs.order.Laws.{mono_order}
use Rattle.wiring.specs.Panel.{set_bytes, set_exponent, wire_bytes}
use Rattle.wiring.specs.Sockets.{count_right, panel_right}
use Rattle.wiring.specs.declared.panel.Panel.{Panel}
use Rattle.wiring.specs.declared.reply.Reply.{Reply}
use Rattle.wiring.specs.declared.reply.Reply.TheVariants.{Done, Setting, Length, Full, BadSet, NotQuadratic}
use Rattle.wiring.specs.declared.terms.Fault.{Fault}
use Rattle.wiring.specs.declared.terms.Fault.TheVariants.{Wrong, Repeated}
use Rattle.wiring.specs.Reply.{Numbers, numbers, Outcome, outcome, refused}
use Rattle.wiring.specs.Poly.{Poly, plain}
use Rattle.wiring.specs.Derivative.{derivative}
use Rattle.wiring.specs.Quadratic.{in_v2, lacking}
use Rattle.wiring.specs.declared.held.Set.{Set}
use Rattle.wiring.specs.Signals.{signals, Fitting}
use Rattle.wiring.specs.Terms.{records, length_right, fault, system}
use Rattle.wiring.specs.Sets.{SetReads, set_of, set_right, monomials_of}
use Rattle.wiring.specs.Wires.{Wire, wire_record, Sheet, Met}
use Rattle.wiring.specs.Answers.{reply_of, unless_fault, missing, first_unmet, judged, record_judged, verdict, listed, told, wires, wired, Takes, Refuses, Gives}
use Rattle.wiring.proofs.quadratic.Laws.{some_nonsquares, unmet_in, nonsquares_in}
use Rattle.wiring.proofs.reply.Laws.{same_reply}
use Rattle.wiring.proofs.sets.Laws.{right_fits}
use Rattle.wiring.proofs.terms.Laws.{clean_for}

-- ---- a set
module _ (n : ℕ) (fs : List (Poly Mono)) (s : List Mono) where
  -- whether a signal's derivative has a nonsquare
  abbrev bad : Mono → Bool
  bad z = lacking plain (signals width n s) (derivative plain fs z)

  some_missing : some (missing n fs s) ≡ any bad (signals width n s)
  some_missing = some_nonsquares plain mono_order (signals width n s) (derivative plain fs)

  pub first_as : (v : List Mono) (at : ℕ) → v ≡ signals width n s → at ≡ place (λ z. lacking plain v (derivative plain fs z)) v → at ≡ first_unmet n fs s
  unfolding first_unmet
  first_as v at e h = h ∙ ap (λ (l : List Mono). place (λ z. lacking plain l (derivative plain fs z)) l) e

  -- the loop's answer is a signal's number, or that of none
  pub first_some : (at : ℕ) → at ≡ first_unmet n fs s → at < length (signals width n s) → some (missing n fs s) ≡ true
  unfolding first_unmet
  first_some at e h = some_missing ∙ T→is (any bad (signals width n s)) (place_any bad (signals width n s) (omega arith))

  pub first_none : (at : ℕ) → at ≡ first_unmet n fs s → length (signals width n s) ≤ at → some (missing n fs s) ≡ false
  unfolding first_unmet
  first_none at e h = some_missing ∙ n_t→is (any bad (signals width n s)) (λ t. let l = place_lt bad (signals width n s) t in omega arith)

  pub judged_not : (at : ℕ) → at ≡ first_unmet n fs s → at < length (signals width n s) → NotQuadratic (length s) at ≡ judged n fs s
  unfolding judged
  judged_not at e h = rw (first_some at e h) (ap (NotQuadratic (length s)) e)

  pub judged_done : (at : ℕ) → at ≡ first_unmet n fs s → length (signals width n s) ≤ at → Done (length s) 0 0 ≡ judged n fs s
  unfolding judged
  judged_done at e h = rw (first_none at e h)

  -- every monomial of every derivative is then in V2
  pub none_met : missing n fs s ≡ [] → Met plain (signals width n s) (derivative plain fs)
  none_met e z m hz hm = go (test (in_v2 plain (signals width n s) m))
    where
      go : Tested (in_v2 plain (signals width n s) m) → T (in_v2 plain (signals width n s) m)
      go (passed p) = is→T (in_v2 plain (signals width n s) m) p
      go (failed p) =
          let u = unmet_in plain mono_order (signals width n s) (derivative plain fs z) m hm (is→n_t (in_v2 plain (signals width n s) m) p) in
          let l = nonsquares_in plain mono_order (signals width n s) (derivative plain fs) z m hz u in
          absurd (Memᴰ.not-nil (subst (λ (r : List Mono). m ∈ r) e l))

-- ---- the checks in their order
pub panel_few : (panel : Panel) → panel_right panel ≡ true → panel.n ≤ width
unfolding panel_right count_right
panel_few panel e = let t = is→T (panel_right panel) e in leb→le panel.n width (search (and_l, and_r, t))

module _ (panel : Panel) (terms set : List ℕ) where
  abbrev fs : List (Poly Mono)
  fs = system (records terms)

  pub said_setting : panel_right panel ≡ false → verdict panel terms set ≡ Setting
  unfolding verdict
  said_setting e = rw e

  module _ (e : panel_right panel ≡ true) where
    pub said_terms_length : length_right terms ≡ false → verdict panel terms set ≡ Length
    unfolding verdict
    said_terms_length h = rw (e, h)

    pub said_set_length : length_right terms ≡ true → (length set ≡ set_bytes → ⊥) → verdict panel terms set ≡ Length
    unfolding verdict
    said_set_length h k = rw (e, h, ne_eqb (length set) set_bytes k)

    pub said_rest : length_right terms ≡ true → length set ≡ set_bytes → (f : Result ⊤ Fault) → f ≡ fault panel (records terms) → unless_fault (λ x. x) f (record_judged panel fs set) ≡ verdict panel terms set
    unfolding verdict
    said_rest h k f q = rw (e, h, eq-eqb (length set) set_bytes k, q)

  pub record_bad : set_right panel set ≡ false → record_judged panel fs set ≡ BadSet
  unfolding record_judged
  record_bad e = rw e

  pub record_right : set_right panel set ≡ true → record_judged panel fs set ≡ judged panel.n fs (set_of set)
  unfolding record_judged
  record_right e = rw e

-- ---- a verdict with a list
pub listed_done : (order : ℕ) (list : List Wire) (at size : ℕ) (out : List ℕ) → Sheet list at out → length out ≡ size → outcome (Done order at 0) out ≡ listed order list size
unfolding listed
listed_done order list at size out s e =
    let c = s.counted in
    let fits : leb (wire_bytes * length list) size ≡ true = le-leb (wire_bytes * length list) size (omega (arith, s.room)) in
    let n : length out - wire_bytes * at ≡ size - wire_bytes * length list = omega arith in
    rw fits (ap₂ (λ (k : ℕ) (l : List ℕ). outcome (Done order k 0) l) c (s.bytes ∙ ap (λ (k : ℕ). gather wire_record list ++ replicate k 0) n))

pub listed_full : (order : ℕ) (list : List Wire) (size : ℕ) (out zeros : List ℕ) → length out < wire_bytes * length list → length out ≡ size → zeros ≡ replicate size 0
    → outcome (Full order 0) zeros ≡ listed order list size
unfolding listed
listed_full order list size out zeros h e z = rw (lt-leb (wire_bytes * length list) size (omega arith), z)

pub told_refused : (r : Reply) (list : List Wire) (size : ℕ) → ((numbers r).code ≡ 0 → ⊥) → told r list size ≡ refused r size
unfolding told
told_refused r list size k = rw (ne_eqb (numbers r).code 0 k)

pub told_listed : (o c k : ℕ) (list : List Wire) (size : ℕ) → told (Done o c k) list size ≡ listed o list size
unfolding told
told_listed o c k list size = refl

-- ---- the pass over the left variables, and the verdict on the set
module _ (n : ℕ) (fs : List (Poly Mono)) (s : List Mono) (size : ℕ) where
  abbrev list : List Wire
  list = wires n fs s

  -- the first left variable that is not met
  pub told_unmet : (at : ℕ) (zeros : List ℕ) → at ≡ first_unmet n fs s → at < length (signals width n s) → zeros ≡ replicate size 0
      → outcome (NotQuadratic (length s) at) zeros ≡ told (judged n fs s) list size
  told_unmet at zeros e h z =
      ap (outcome (NotQuadratic (length s) at)) z
      ∙ sym (told_refused (NotQuadratic (length s) at) list size (λ q. omega arith))
      ∙ ap (λ (r : Reply). told r list size) (judged_not n fs s at e h)

  -- all are met
  pub told_met : first_unmet n fs s ≡ length (signals width n s) → listed (length s) list size ≡ told (judged n fs s) list size
  told_met e =
      sym (told_listed (length s) 0 0 list size) ∙ ap (λ (r : Reply). told r list size) (judged_done n fs s (first_unmet n fs s) refl (omega arith))

-- a reply with a list tells the verdict: not quadratic exactly where there is a nonsquare
listed_code : (order : ℕ) (l : List Wire) (size : ℕ) → ((listed order l size).said.code ≡ 0) ⊎ ((listed order l size).said.code ≡ 6)
unfolding listed
listed_code order l size = go (test (leb (wire_bytes * length l) size))
  where
    go : Tested (leb (wire_bytes * length l) size) → ((listed order l size).said.code ≡ 0) ⊎ ((listed order l size).said.code ≡ 6)
    go (passed e) = inl (rw e)
    go (failed e) = inr (rw e)

module _ (n : ℕ) (fs : List (Poly Mono)) (s : List Mono) (size : ℕ) (r : Reply) (e : numbers r ≡ (told (judged n fs s) (wires n fs s) size).said) where
  abbrev first : ℕ
  first = first_unmet n fs s

  missing_said : some (missing n fs s) ≡ true → r ≡ NotQuadratic (length s) first
  unfolding judged
  missing_said t =
      same_reply r (NotQuadratic (length s) first)
      (e ∙ rw t (ap (λ (o : Outcome). o.said) (told_refused (NotQuadratic (length s) first) (wires n fs s) size (λ z. omega arith))))

  none_said : some (missing n fs s) ≡ false → (o p : ℕ) → r ≡ NotQuadratic o p → ⊥
  unfolding judged
  none_said t o p q =
      let code : (numbers r).code ≡ 9 = ap (λ (x : Reply). (numbers x).code) q in
      let same : numbers r ≡ (listed (length s) (wires n fs s) size).said = e ∙ rw t (ap (λ (x : Outcome). x.said) (told_listed (length s) 0 0 (wires n fs s) size)) in
      let codes : (numbers r).code ≡ (listed (length s) (wires n fs s) size).said.code = ap (λ (x : Numbers). x.code) same in
      ⊎_elim (λ z. omega arith) (λ z. omega arith) (listed_code (length s) (wires n fs s) size)

  pub says_missing : (o p : ℕ) → r ≡ NotQuadratic o p → (some (missing n fs s) ≡ true) × (r ≡ judged n fs s)
  unfolding judged
  says_missing o p q = go (test (some (missing n fs s)))
    where
      go : Tested (some (missing n fs s)) → (some (missing n fs s) ≡ true) × (r ≡ judged n fs s)
      go (passed t) = (t, rw t (missing_said t))
      go (failed t) = absurd (none_said t o p q)

  pub says_none : ((o p : ℕ) → r ≡ NotQuadratic o p → ⊥) → (some (missing n fs s) ≡ false) × (Done (length s) 0 0 ≡ judged n fs s)
  unfolding judged
  says_none f = go (test (some (missing n fs s)))
    where
      go : Tested (some (missing n fs s)) → (some (missing n fs s) ≡ false) × (Done (length s) 0 0 ≡ judged n fs s)
      go (passed t) = absurd (f (length s) first (missing_said t))
      go (failed t) = (t, rw t)

-- ---- wiring
module _ (panel : Panel) (terms set : List ℕ) (size : ℕ) where
  pub wired_refused : (r : Reply) → verdict panel terms set ≡ r → ((numbers r).code ≡ 0 → ⊥) → wired panel terms set size ≡ refused r size
  unfolding wired
  wired_refused r e k = rw e (told_refused r (wires panel.n (system (records terms)) (set_of set)) size k)

  pub wired_listed : (o c k : ℕ) → verdict panel terms set ≡ Done o c k → wired panel terms set size ≡ listed o (wires panel.n (system (records terms)) (set_of set)) size
  unfolding wired
  wired_listed o c k e = rw e (told_listed o c k (wires panel.n (system (records terms)) (set_of set)) size)

-- ---- what was given, as the code reads it
pub fault_code : (f : Fault) → (numbers (reply_of f)).code ≡ 0 → ⊥
fault_code (Wrong p) e = omega arith
fault_code (Repeated p) e = omega arith

-- a refusal
pub given_refused : (panel : Panel) (terms bytes : List ℕ) (g : Result Set Reply) (r : Reply) → verdict panel terms bytes ≡ r → ((numbers r).code ≡ 0 → ⊥)
    → g ≡ Err r → Gives panel terms bytes g
given_refused panel terms bytes g r e k h =
    let refusal : Refuses panel terms bytes r = record { says = e; code = k } in
    subst (λ (x : Result Set Reply). Gives panel terms bytes x) (sym h) refusal

-- once the rest is in order, the record decides
pub given_read : (panel : Panel) (terms bytes : List ℕ) → panel_right panel ≡ true → length bytes ≡ set_bytes → fault panel (records terms) ≡ Ok tt
    → verdict panel terms bytes ≡ record_judged panel (system (records terms)) bytes
    → (read : Option Set) → SetReads panel bytes read → Gives panel terms bytes (ok_or read BadSet)
given_read panel terms bytes count long clean e None r =
    record { says = e ∙ record_bad panel terms bytes (sym r.right); code = λ z. omega arith }
given_read panel terms bytes count long clean e (Some set) r =
    let right : set_right panel bytes ≡ true = sym r.right in
    record {
      says = e ∙ record_right panel terms bytes right;
      holds = r.set.holds;
      judgeable = record {
        few = panel_few panel count;
        clean = clean_for panel width terms (panel_few panel count) clean;
        fits = subst (Fitting set_exponent) (sym r.set.holds) (right_fits panel bytes long (is→T (set_right panel bytes) right));
      };
    }

-- the set that was read is the set that was given, and the verdict is about it
pub wired_given : (panel : Panel) (terms bytes : List ℕ) (size size' : ℕ) (set : Set) → Takes panel terms bytes set → size' ≡ size
    → told (judged panel.n (system (records terms)) (monomials_of set)) (wires panel.n (system (records terms)) (monomials_of set)) size' ≡ wired panel terms bytes size
unfolding wired
wired_given panel terms bytes size size' set t e =
    ap₂ (λ (m : List Mono) (k : ℕ). told (judged panel.n (system (records terms)) m) (wires panel.n (system (records terms)) m) k) t.holds e
    ∙ ap (λ (r : Reply). told r (wires panel.n (system (records terms)) (set_of bytes)) size) (sym t.says)
