-- Planning, step by step: what each level leaves to the levels above it, and what each check says of the outcome. Assumes nothing.
use Rattle.std.specs.Prelude.{Ok, Err}
use mathlib.Core.Path.{◌≡◌, refl, sym, ap, ap₂, ◌∙◌, subst}
use mathlib.Core.Bool.{true, false}
use mathlib.Core.List.Memᴰ
use mathlib.Core.List.{List, [], ◌∷◌, ◌++◌}
use Prim.Native.Nat.{ℕ, suc, ◌+◌, ◌*◌, ◌-◌, ◌/◌, ◌<◌, ◌≤◌}
use native.Mathlib.Omega.{arith}
use native.Mathlib.Numerals.{add-one}
use lib.Dec.{leb→le}
use lib.ListN.{length, replicate}
use Rattle.monomial.specs.Lists.{gather}
use Rattle.monomial.specs.Monomial.{Mono, width}
use Rattle.monomial.specs.Claims.{empty}
use Rattle.monomial.proofs.Tests.{is→T, T→is, and_l, and_r}
use Rattle.wiring.specs.Panel.{cards, set_bytes}
use Rattle.wiring.specs.Reply.{Outcome, outcome, refused}
use Rattle.wiring.specs.Poly.{Poly}
use Rattle.wiring.specs.Terms.{records, length_right, fault, system, CleanTerms}
use Rattle.wiring.specs.Sockets.{panel_right}
use Rattle.wiring.specs.declared.panel.Panel.{Panel}
use Rattle.wiring.specs.declared.reply.Reply.{Reply}
use Rattle.wiring.specs.declared.reply.Reply.TheVariants as reply
use Rattle.wiring.specs.declared.terms.Fault.{Fault}
use Rattle.wiring.specs.Answers.{reply_of}
use Rattle.wiring.proofs.answers.Laws.{panel_few}
use Rattle.wiring.proofs.terms.Laws.{clean_for}
use Rattle.walk.specs.declared.walk.State.{State}
use Rattle.walk.specs.declared.walk.Stop.TheVariants.{Spent, Full}
use Rattle.std.specs.Prelude.{Ok, Err}
use Rattle.walk.specs.Walk.{Finds, Rules, kit_rules, opened, level, Run, ended, spent, full, run}
use Rattle.walk.specs.Plan.{Ending, done, none, full_at, settled, levels, plan, sets_bytes, said, settings_right, planned}
use Rattle.walk.specs.Listing.{Shown}
use Rattle.walk.specs.Turns.{Ended, Turn, Tells}
use Rattle.walk.proofs.Kit.{kit_plan}
use Rattle.walk.proofs.Steps.{level_opens}
use Rattle.walk.proofs.Begins.{plan_begins}

-- ---- an ending as it is said
pub said_done : (order steps : ℕ) (sets : Finds) (size : ℕ)
    → outcome (reply.Done order (length sets) steps) (sets_bytes sets ++ replicate (size - set_bytes * length sets) 0) ≡ said (done order steps sets) size
unfolding said
said_done order steps sets size = refl

pub said_none : (order steps size : ℕ) → refused (reply.Nothing order steps) size ≡ said (none order steps) size
unfolding said
said_none order steps size = refl

pub said_full : (order steps size : ℕ) → refused (reply.Full order steps) size ≡ said (full_at order steps) size
unfolding said
said_full order steps size = refl

-- ---- a buffer without finds
-- a buffer of zeros shows no set
pub shown_none : (out : List ℕ) → out ≡ replicate (length out) 0 → Shown [] 0 out
unfolding sets_bytes gather
shown_none out e =
    let n : length out ≡ length out - set_bytes * 0 = omega arith in
    record {
      counted = refl;
      room = omega arith;
      bytes = e ∙ ap (λ (k : ℕ). replicate k 0) n;
      ascending = empty;
      recorded = λ s h. absurd (Memᴰ.not-nil h);
    }

-- a buffer that shows no set is zeros
pub none_shown : (l : Finds) (count : ℕ) (out : List ℕ) → Shown l count out → count ≡ 0 → out ≡ replicate (length out) 0
unfolding sets_bytes gather
none_shown [] count out s z =
    let n : length out - set_bytes * count ≡ length out = omega arith in
    s.bytes ∙ ap (λ (k : ℕ). replicate k 0) n
none_shown (x ∷ l) count out s z = let y : ⊥ = omega (arith, s.counted) in absurd y

-- ---- a level that ended without a find, and with one
settled_none : (limit k : ℕ) (next : ℕ → Ending) (l : Finds) (taken : ℕ) → length l ≡ 0 → settled limit k next (ended taken l) ≡ next taken
unfolding settled
settled_none limit k next [] taken h = refl
settled_none limit k next (x ∷ l) taken h = let z : ⊥ = omega arith in absurd z

settled_some : (limit k : ℕ) (next : ℕ → Ending) (l : Finds) (taken : ℕ) → 0 < length l → settled limit k next (ended taken l) ≡ done k taken l
unfolding settled
settled_some limit k next [] taken h = let z : ⊥ = omega arith in absurd z
settled_some limit k next (x ∷ l) taken h = refl

-- ---- the levels, one turn at a time
module _ (r : Rules) (n : ℕ) (fs : List (Poly Mono)) (limit cap size : ℕ) where
  -- how `left` levels from k on end, with the steps taken before
  abbrev pub from : ℕ → ℕ → ℕ → Ending
  from left k taken = levels r n fs limit (size / set_bytes) left k taken

  -- how all of them end
  abbrev pub climbed : Ending
  climbed = plan r n fs limit (size / set_bytes) cap

  -- no set is found below level k: the buffer is zeros, and the levels from k on are what is left of the plan
  pub record Climbing (k steps : ℕ) (out : List ℕ) : Type 0 where
    pub begun : length r.start ≤ k
    pub low : k ≤ cap + 1
    pub long : length out ≡ size
    pub blank : out ≡ replicate (length out) 0
    pub rest : from (cap + 1 - k) k steps ≡ climbed

  -- at first
  pub climb_start : (out : List ℕ) → length out ≡ size → out ≡ replicate (length out) 0 → length r.start ≤ cap + 1 → Climbing (length r.start) 0 out
  climb_start out l z h =
      let e : cap + 1 - length r.start ≡ suc cap - length r.start = omega arith in
      record {
        begun = omega arith;
        low = h;
        long = l;
        blank = z;
        rest = ap (λ (i : ℕ). from i (length r.start) 0) e ∙ sym (plan_begins r n fs limit (size / set_bytes) cap (omega arith));
      }

  -- what the opener tells of the start at level k
  abbrev pub Opening : ℕ → ℕ → List ℕ → Turn → List ℕ → Type 0
  Opening k steps out turn out' = (d : ℕ) (finds : Finds) → k - length r.start < d → Shown finds 0 out
      → Tells turn out' (run limit (length out / set_bytes) (opened r n fs k d r.start) steps finds)

  -- from bytes in which the start lies
  pub opening_at : (k steps : ℕ) (out : List ℕ) (turn : Turn) (out' : List ℕ) (s : List Mono) → s ≡ r.start
      → ((d : ℕ) (finds : Finds) → k - length s < d → Shown finds 0 out → Tells turn out' (run limit (length out / set_bytes) (opened r n fs k d s) steps finds))
      → Opening k steps out turn out'
  opening_at k steps out turn out' s e f =
      subst (λ (x : List Mono). (d : ℕ) (finds : Finds) → k - length x < d → Shown finds 0 out → Tells turn out' (run limit (length out / set_bytes) (opened r n fs k d x) steps finds)) e f

  turned : (left k taken : ℕ) (x : Run) → run limit (size / set_bytes) (level r n fs k) taken [] ≡ x
      → from (suc left) k taken ≡ settled limit k (from left (suc k)) x
  unfolding levels
  turned left k taken x e = ap (settled limit k (from left (suc k))) e

module _ {r : Rules} {n : ℕ} {fs : List (Poly Mono)} {limit cap size k steps : ℕ} {out : List ℕ} (c : Climbing r n fs limit cap size k steps out) where
  -- the whole plan, as it is said
  abbrev pub Says : Reply → List ℕ → Type 0
  Says reply bytes = outcome reply bytes ≡ said (climbed r n fs limit cap size) size

  -- above the cap nothing is left
  pub climb_none : cap + 1 ≤ k → Says (reply.Nothing (cap + 1) steps) out
  unfolding said levels
  climb_none h =
      let last : cap + 1 ≡ k = omega (arith, c.low) in
      let e : 0 ≡ cap + 1 - k = omega arith in
      let zeros : out ≡ replicate size 0 = c.blank ∙ ap (λ (i : ℕ). replicate i 0) c.long in
      let rest : none k steps ≡ climbed r n fs limit cap size = ap (λ (i : ℕ). from r n fs limit cap size i k steps) e ∙ c.rest in
      ap₂ (λ (i : ℕ) (b : List ℕ). outcome (reply.Nothing i steps) b) last zeros ∙ ap (λ (x : Ending). said x size) rest

  -- after level k
  module _ (h : k < cap + 1) (turn : Turn) (out' : List ℕ) (o : Opening r n fs limit cap size k steps out turn out') (kept : length out' ≡ length out) where
    abbrev here : Run
    here = run limit (size / set_bytes) (level r n fs k) steps []

    abbrev next : ℕ → Ending
    next = from r n fs limit cap size (cap - k) (suc k)

    long' : length out' ≡ size
    long' = kept ∙ c.long

    told : Tells turn out' here
    told =
        let t = o (suc k) [] (omega arith) (shown_none out c.blank) in
        rw (level_opens r n fs k c.begun) (subst (λ (i : ℕ). Tells turn out' (run limit (i / set_bytes) (opened r n fs k (suc k) r.start) steps [])) c.long t)

    told_as : (t : Turn) → turn ≡ t → Tells t out' here
    told_as t e = subst (λ (u : Turn). Tells u out' here) e told

    whole : (x : Run) → here ≡ x → settled limit k next x ≡ climbed r n fs limit cap size
    whole x e =
        let left : suc (cap - k) ≡ cap + 1 - k = omega arith in
        sym (turned r n fs limit cap size (cap - k) k steps x e) ∙ ap (λ (i : ℕ). from r n fs limit cap size i k steps) left ∙ c.rest

    -- no find: the next level
    pub climb_on : (st : State) → turn ≡ Ok st → st.count ≤ 0 → Climbing r n fs limit cap size (k + 1) st.steps out'
    climb_on st g z =
        let e : Ended st out' here = told_as (Ok st) g in
        let blank : length e.finds ≡ 0 = omega (arith, e.shown.counted) in
        let left : cap + 1 - (k + 1) ≡ cap - k = omega arith in
        let begun : length r.start ≤ k = c.begun in
        record {
          begun = omega arith;
          low = omega arith;
          long = long';
          blank = none_shown e.finds st.count out' e.shown (omega arith);
          rest = ap₂ (λ (i j : ℕ). from r n fs limit cap size i j st.steps) left (add-one k)
              ∙ sym (settled_none limit k next e.finds st.steps blank)
              ∙ whole (ended st.steps e.finds) e.is;
        }

    -- finds: this level is the last
    pub climb_done : (st : State) → turn ≡ Ok st → 0 < st.count → Says (reply.Done k st.count st.steps) out'
    unfolding said
    climb_done st g z =
        let e : Ended st out' here = told_as (Ok st) g in
        let some : 0 < length e.finds = omega (arith, e.shown.counted) in
        let end = sym (settled_some limit k next e.finds st.steps some) ∙ whole (ended st.steps e.finds) e.is in
        let left : length out' - set_bytes * st.count ≡ size - set_bytes * length e.finds = omega (arith, e.shown.counted, long') in
        let bytes : out' ≡ sets_bytes e.finds ++ replicate (size - set_bytes * length e.finds) 0 = e.shown.bytes ∙ ap (λ (i : ℕ). sets_bytes e.finds ++ replicate i 0) left in
        ap₂ (λ (i : ℕ) (b : List ℕ). outcome (reply.Done k i st.steps) b) e.shown.counted bytes ∙ ap (λ (x : Ending). said x size) end

    -- the limit or the room ends the walk, and the buffer is cleared
    module _ (zeros : List ℕ) (z : zeros ≡ replicate (length out') 0) where
      cleared : zeros ≡ replicate size 0
      cleared = z ∙ ap (λ (i : ℕ). replicate i 0) long'

      pub climb_spent : turn ≡ Err Spent → Says (reply.Spent k limit) zeros
      unfolding said settled
      climb_spent g = ap (outcome (reply.Spent k limit)) cleared ∙ ap (λ (x : Ending). said x size) (whole spent (told_as (Err Spent) g))

      pub climb_full : (taken : ℕ) → turn ≡ Err (Full taken) → Says (reply.Full k taken) zeros
      unfolding said settled
      climb_full taken g = ap (outcome (reply.Full k taken)) cleared ∙ ap (λ (x : Ending). said x size) (whole (full taken) (told_as (Err (Full taken)) g))

-- ---- the checks in their order
module _ (panel : Panel) (cap limit : ℕ) (e : settings_right panel cap limit ≡ true) where
  pub settings_few : panel.n ≤ width
  unfolding settings_right
  settings_few = let t = is→T (settings_right panel cap limit) e in panel_few panel (T→is (panel_right panel) (search (and_l, and_r, t)))

  pub settings_low : cap ≤ cards
  unfolding settings_right
  settings_low = let t = is→T (settings_right panel cap limit) e in leb→le cap cards (search (and_l, and_r, t))

  -- what the climb asks of the records
  pub settings_clean : (terms : List ℕ) → fault panel (records terms) ≡ Ok tt → CleanTerms terms
  settings_clean terms = clean_for panel width terms settings_few

module _ (panel : Panel) (cap limit : ℕ) (terms : List ℕ) (size : ℕ) where
  -- what is refused leaves zeros
  module _ (zeros : List ℕ) (z : zeros ≡ replicate size 0) where
    pub said_setting : settings_right panel cap limit ≡ false → outcome reply.Setting zeros ≡ planned panel cap limit terms size
    unfolding planned
    said_setting e = rw (e, z)

    module _ (e : settings_right panel cap limit ≡ true) where
      pub said_length : length_right terms ≡ false → outcome reply.Length zeros ≡ planned panel cap limit terms size
      unfolding planned
      said_length h = rw (e, h, z)

      pub said_fault : length_right terms ≡ true → (f : Fault) → fault panel (records terms) ≡ Err f → outcome (reply_of f) zeros ≡ planned panel cap limit terms size
      unfolding planned
      said_fault h f q = rw (e, h, q, z)

  -- what is not refused is walked by the rules of the kit, in the buffer that was cleared
  pub said_walked : (answer : Outcome) (size' : ℕ) → answer ≡ said (plan (kit_rules panel) panel.n (system (records terms)) limit (size' / set_bytes) cap) size' → size' ≡ size
      → settings_right panel cap limit ≡ true → length_right terms ≡ true → fault panel (records terms) ≡ Ok tt → answer ≡ planned panel cap limit terms size
  unfolding planned
  said_walked answer size' a k e h q =
      let walk = kit_plan panel panel.n terms (settings_clean panel cap limit e terms q) cap (settings_low panel cap limit e) limit (size' / set_bytes) in
      rw (e, h, q, sym k) (a ∙ ap (λ (x : Ending). said x size') (sym walk))

-- zeros are so many zeros as they are long
pub zeros_long : (size : ℕ) (out : List ℕ) → length out ≡ size → out ≡ replicate size 0 → out ≡ replicate (length out) 0
zeros_long size out k z = z ∙ ap (λ (i : ℕ). replicate i 0) (sym k)
